-- Items, the closure rules with their counts, and the goal (01, 'Items'; 000, section 3.3).
use Rattle.std.specs.Prelude.{◌≡◌, Bool, true, false, ◌&&◌, ◌||◌, not, List, [], ◌∷◌, ◌++◌, ℕ, zero, suc, ◌≤◌, ◌<◌, length, eqb, ltb}
use Rattle.masks.specs.Masks.{member, ◌∪◌, Apart as Disjoint, single, full}
use Rattle.hrg.specs.Counts.{occurs, tabulate}
use Rattle.hrg.specs.Grammars.{Graph, touches, PlanNode, leaf, introduce, join, Rule, Grammar, cost, rule_of, lhs_of, right_of, plan_of, plan_node, edge_at}
use Rattle.hrg.specs.Trees.{unplaced, at, images, FitsEdge}
use Rattle.hrg.specs.Deduction.{System}

-- ---- what lies below a plan node
abbrev pub below_node : (ℕ → List ℕ) → PlanNode → List ℕ
below_node rec leaf = []
below_node rec (introduce c i) = rec c ++ (i ∷ [])
below_node rec (join a b) = rec a ++ rec b

-- children have lower numbers, so that the descent from p ends within p + 1 levels
unfoldable pub below_within : List PlanNode → ℕ → ℕ → List ℕ
below_within pl zero p = []
below_within pl (suc k) p = below_node (λ c. below_within pl k c) (plan_node pl p)

-- 'Below a plan node lie the rule edges introduced at it or under it.'
unfoldable pub below : List PlanNode → ℕ → List ℕ
unfolding below_within
below pl p = below_within pl (suc p) p

-- ---- boundary nodes (000 definition 6; 01 calls them open)
-- 'A graph node in an edge set is open if it is external in the graph or lies on an edge outside the set.'
unfoldable pub is_boundary : (ℕ → Bool) → Graph → ℕ → Bool
unfolding touches
is_boundary t H v = touches t H.edges v && (ltb 0 (occurs v H.externals) || touches (λ i. not (t i)) H.edges v)

-- open graph nodes of the edge set m
unfoldable pub is_open : Graph → ℕ → ℕ → Bool
unfolding is_boundary
is_open H m v = is_boundary (λ e. member m e) H v

-- open rule nodes at plan node p
unfoldable pub is_open_at : Rule → ℕ → ℕ → Bool
unfolding is_boundary
is_open_at R p x = is_boundary (λ i. ltb 0 (occurs i (below R.plan p))) R.production.right x

-- ---- items
-- An active item: a rule, a plan node, a set of graph edges and a map from the open rule nodes to graph nodes (64:
-- none). A passive item: a nonterminal, a set of graph edges and an ordered list of graph nodes.
pub data Item : Type 0 where
  active : (rule plan edges : ℕ) (map : List ℕ) → Item
  passive : (symbol edges : ℕ) (nodes : List ℕ) → Item

-- the first of two nodes that is one
abbrev pub either : Bool → ℕ → ℕ → ℕ
either true a b = b
either false a b = a

abbrev pub or_else : ℕ → ℕ → ℕ
or_else a b = either (eqb a unplaced) a b

-- two maps of n rule nodes as one
unfoldable pub joined : ℕ → List ℕ → List ℕ → List ℕ
joined n f g = tabulate n (λ x. or_else (at f x) (at g x))

abbrev pub keep_if : Bool → ℕ → ℕ
keep_if true v = v
keep_if false v = unplaced

-- a map without the nodes that are closed at plan node p
unfoldable pub restrict : Rule → ℕ → List ℕ → List ℕ
restrict R p f = tabulate R.production.right.nodes (λ x. keep_if (is_open_at R p x) (at f x))

-- the graph node that stands in L where x stands in the attachment
unfoldable pub node_for : ℕ → List ℕ → List ℕ → ℕ
node_for x [] L = unplaced
node_for x (a ∷ as') [] = unplaced
node_for x (a ∷ as') (b ∷ bs) = either (eqb x a) (node_for x as' bs) b

-- the map of an edge's nodes to the nodes of L in order
unfoldable pub attach : ℕ → List ℕ → List ℕ → List ℕ
attach n as' L = tabulate n (λ x. node_for x as' L)

-- 'Every open graph node of the new set must then be an image of an open rule node.'
pub record Covers (H : Graph) (m : ℕ) (f : List ℕ) : Type 0 where
  pub image : (v : ℕ) → v < H.nodes → is_open H m v ≡ true → 0 < occurs v f

-- Two sets and maps make the set m and the map h at plan node p.
pub record Joins (H : Graph) (R : Rule) (p m₁ m₂ : ℕ) (f g : List ℕ) (m : ℕ) (h : List ℕ) : Type 0 where
  pub disjoint : Disjoint m₁ m₂
  pub union : m ≡ m₁ ∪ m₂
  -- the joined map is a function and one_to_one_is before closed nodes are dropped
  pub function : (x : ℕ) → x < R.production.right.nodes → at f x < unplaced → at g x < unplaced → at f x ≡ at g x
  pub one_to_one_is : (v : ℕ) → v < H.nodes → occurs v (joined R.production.right.nodes f g) ≤ 1
  pub map : h ≡ restrict R p (joined R.production.right.nodes f g)
  pub covers : Covers H m h

-- ---- the five rules of the closure
-- 'a leaf gives the empty set and empty map, count 0'
pub data LeafRule (G : Grammar) : Item → Type 0 where
  leaf_rule : (r p : ℕ) → r < length G.rules → p < length (plan_of G r) → plan_node (plan_of G r) p ≡ leaf
      → LeafRule G (active r p 0 (tabulate (right_of G r).nodes (λ x. unplaced)))

pub data UnaryRule (G : Grammar) (H : Graph) : Item → ℕ → Item → Type 0 where
  -- 'a kind 1 node over a terminal edge adds one graph edge of equal label outside the set, count kept'
  terminal_rule : (r p c i g m₁ m : ℕ) (f h : List ℕ) → p < length (plan_of G r) → plan_node (plan_of G r) p ≡ introduce c i
      → FitsEdge G H (edge_at (right_of G r).edges i).label (edge_at H.edges g).attachment g
      → Joins H (rule_of G r) p m₁ (single g) f (attach (right_of G r).nodes (edge_at (right_of G r).edges i).attachment (edge_at H.edges g).attachment) m h
      → UnaryRule G H (active r c m₁ f) 0 (active r p m h)
  -- 'a root item gives the passive item of its external nodes, count plus 1'
  root_rule : (r p m : ℕ) (f : List ℕ) → suc p ≡ length (plan_of G r)
      → UnaryRule G H (active r p m f) (cost (rule_of G r)) (passive (lhs_of G r) m (images f (right_of G r).externals))

pub data BinaryRule (G : Grammar) (H : Graph) : Item → Item → Item → Type 0 where
  -- 'a kind 1 node over a nonterminal edge adds a passive item of that symbol with a disjoint edge set, counts added'
  nonterminal_rule : (r p c i m₁ m₂ m : ℕ) (f L h : List ℕ) → p < length (plan_of G r) → plan_node (plan_of G r) p ≡ introduce c i
      → Joins H (rule_of G r) p m₁ m₂ f (attach (right_of G r).nodes (edge_at (right_of G r).edges i).attachment L) m h
      → BinaryRule G H (active r c m₁ f) (passive (edge_at (right_of G r).edges i).label m₂ L) (active r p m h)
  -- 'a kind 2 node joins two items of its children with disjoint sets, counts added'
  join_rule : (r p a b m₁ m₂ m : ℕ) (f g h : List ℕ) → p < length (plan_of G r) → plan_node (plan_of G r) p ≡ join a b
      → Joins H (rule_of G r) p m₁ m₂ f g m h
      → BinaryRule G H (active r a m₁ f) (active r b m₂ g) (active r p m h)

abbrev pub closure : Grammar → Graph → System Item
closure G H = record { Axiom = LeafRule G; Unary = UnaryRule G H; Binary = BinaryRule G H }

-- 'The goal is the start, all edges, the graph's external nodes in order.'
abbrev pub goal : Grammar → Graph → Item
goal G H = passive G.start (full (length H.edges)) H.externals
