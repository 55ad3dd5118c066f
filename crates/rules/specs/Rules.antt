-- What one rule of the closure makes of one or two items of a chart, over accepted tables: at most one new item.
use Rattle.std.specs.Prelude.{◌≡◌, Bool, true, Option, IfSome, IfNone, List, [], ◌∷◌, map, ℕ, ◌<◌, length, take, eqb}
use Rattle.hrg.specs.Counts.{occurs}
use Rattle.hrg.specs.Grammars.{Grammar, Graph, rule_of, right_of, plan_of, plan_node}
use Rattle.hrg.specs.Trees.{at, padded, images}
use Rattle.hrg.specs.Items.{Item, active, passive}
use Rattle.hrg.specs.WellFormed.{children}
use Rattle.hrg.specs.ClosureRun.{guard, each_to, combine, root_at, nonterminal_at, join_at, binary_of}
use Rattle.hrg.specs.AgendaRun.{Conclusion}
use Rattle.agenda.specs.Records.{chart_item, item_of, plus}
use Rattle.agenda.specs.Consequences.{terminal_at}
use Rattle.agenda.specs.declared.ChartItem.{ChartItem}
use Rattle.agenda.specs.declared.Record.{Record}
use Rattle.questions.specs.Layout.{rule_nodes, rule_plan, plan_first, graph_nodes}
use Rattle.questions.specs.Abstract.{grammar_of, graph_of}
use Rattle.joins.specs.Joins.{Accepted, KnownNode, BareFrom, Into}
use Rattle.rules.specs.Coverage.{Shown, Covering}

-- ---- the rules
-- the terminal rule with graph edge e
unfoldable pub terminal_items : Grammar → Graph → Item → ℕ → List Item
unfolding terminal_at
terminal_items G H (active r p m f) e = each_to (length (plan_of G r)) (λ q. terminal_at G H r p m f e q (plan_node (plan_of G r) q))
terminal_items G H (passive s m L) e = []

-- the root rule, of an item with the count n
unfoldable pub root_items : Grammar → Item → ℕ → List ChartItem
unfolding root_at
root_items G (active r p m f) n = map (λ (c : Conclusion Item). chart_item c.item (plus n c.constant)) (root_at (rule_of G r) p m f)
root_items G (passive s m L) n = []

-- the nonterminal rule and the join rule at plan node q
unfoldable pub binary_at : Grammar → Graph → Item → Item → ℕ → List Item
unfolding nonterminal_at join_at
binary_at G H (active r p m f) (passive s m' L) q = nonterminal_at H (rule_of G r) r p m f s m' L q (plan_node (plan_of G r) q)
binary_at G H (active r p m f) (active r' p' m' k) q = guard (eqb r r') (join_at H (rule_of G r) r p m f p' m' k q (plan_node (plan_of G r) q))
binary_at G H (passive s m L) b q = []

-- what two items of a chart make, and what one makes with graph edge e
abbrev pub pair_items : List ℕ → List ℕ → ChartItem → ChartItem → List Item
pair_items g h x y = binary_of (grammar_of g) (graph_of g h) (item_of (grammar_of g) x) (item_of (grammar_of g) y)

abbrev pub edge_items : List ℕ → List ℕ → ChartItem → ℕ → List Item
edge_items g h x e = terminal_items (grammar_of g) (graph_of g h) (item_of (grammar_of g) x) e

-- the list of the passive item that the root rule makes: the images of the external nodes of rule r by the map f
abbrev pub root_list : List ℕ → ℕ → List ℕ → List ℕ
root_list g r f = padded (images (take (rule_nodes g r) f) (right_of (grammar_of g) r).externals)

-- an item that a rule takes: its places hold nodes of the graph, an active one's none past its rule's nodes; and it
-- covers its open nodes where that is sure
pub record Usable (g h : List ℕ) (sure : Bool) (x : ChartItem) : Type 0 where
  pub into : Into (graph_nodes h) x.nodes
  pub bare : x.kind ≡ 0 → BareFrom (rule_nodes g x.of) x.nodes
  pub covering : sure ≡ true → Covering g h x

-- an item that stands for graph edge e: a rule takes it, and with it an item makes what it makes with the edge
pub record StandsFor (g h : List ℕ) (e : ℕ) (y : ChartItem) : Type 0 where
  pub usable : (sure : Bool) → Usable g h sure y
  pub pairs : (x : ChartItem) → pair_items g h x y ≡ edge_items g h x e

-- whether item y can be the second at plan node q of rule r, and its map then: with an item at the first child it
-- makes what two sets and maps make, else nothing
pub record Second (g : List ℕ) (r q : ℕ) (y : ChartItem) (x : Option (List ℕ)) : Type 0 where
  pub none : IfNone x ((H : Graph) (p m : ℕ) (f : List ℕ) → binary_at (grammar_of g) H (active r p m f) (item_of (grammar_of g) y) q ≡ [])
  pub some : IfSome x (λ t. (H : Graph) (p m : ℕ) (f : List ℕ) → plan_first g r q ≡ p
      → binary_at (grammar_of g) H (active r p m f) (item_of (grammar_of g) y) q ≡ combine H (rule_of (grammar_of g) r) r q m y.edges f (take (rule_nodes g r) t))
  pub bare : IfSome x (λ t. BareFrom (rule_nodes g r) t)
  pub held : IfSome x (λ t. (v : ℕ) → Shown g y v → (i : ℕ) × (i < rule_nodes g r) × (at t i ≡ v))
  pub into : IfSome x (λ t. (n : ℕ) → Into n y.nodes → Into n t)

-- ---- the item that a rule makes
-- whether a list of items has one, and that item with the count n. Where it is sure that what makes the item covers
-- its open nodes, the item does
pub record Gives (g h : List ℕ) (sure : Bool) (l : List Item) (n : ℕ) (m : Option ChartItem) : Type 0 where
  pub none : IfNone m (l ≡ [])
  pub one : IfSome m (λ x. map (λ (i : Item). chart_item i n) l ≡ x ∷ [])
  pub covering : sure ≡ true → IfSome m (Covering g h)

-- the same of the root rule, which adds what a rule costs to the count of x
pub record GivesRoot (g : List ℕ) (x : ChartItem) (m : Option ChartItem) : Type 0 where
  pub none : IfNone m (root_items (grammar_of g) (item_of (grammar_of g) x) x.count ≡ [])
  pub one : IfSome m (λ y. root_items (grammar_of g) (item_of (grammar_of g) x) x.count ≡ y ∷ [])
  pub covering : (h : List ℕ) → Covering g h x → IfSome m (Covering g h)

-- the record of an item that was just made of the partners a and b
abbrev pub made_of : ChartItem → ℕ → ℕ → Record
made_of x a b = record { item = x; handled = 0; first = a; second = b }

-- ---- the plan
-- plan node p is a child of q or of no plan node
pub record ParentOf (g : List ℕ) (r p q : ℕ) : Type 0 where
  pub only : (q' : ℕ) → q' < rule_plan g r → 0 < occurs p (children (plan_node (plan_of (grammar_of g) r) q')) → q' ≡ q

-- p is a child of no plan node of rule r
pub record Childless (g : List ℕ) (r p : ℕ) : Type 0 where
  pub none : (q : ℕ) → q < length (plan_of (grammar_of g) r) → occurs p (children (plan_node (plan_of (grammar_of g) r) q)) ≡ 0

-- x is the one plan node of rule r that p may be a child of, or there is none
pub record Above (g : List ℕ) (r p : ℕ) (x : Option ℕ) : Type 0 where
  pub known : IfSome x (KnownNode g r)
  pub parent : IfSome x (ParentOf g r p)
  pub nowhere : IfNone x (Childless g r p)

-- ---- what is known of an active item below plan node q
pub record ActiveAt (g h : List ℕ) (x : ChartItem) (q : ℕ) : Type 0 where
  pub accepted : Accepted g h
  pub node : KnownNode g x.of q
  pub is_active : x.kind ≡ 0
