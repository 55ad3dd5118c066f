-- What question 8 asks of a chart, as propositions. proofs/ExistingTest shows that the tests of specs/Checking decide
-- them.
use Rattle.std.specs.Prelude.{◌≡◌, Bool, true, false, List, ℕ, ◌≤◌, ◌<◌, length, ltb}
use Rattle.masks.specs.Masks.{member}
use Rattle.hrg.specs.Grammars.{terminal, nonterminal, Graph, PlanNode, leaf, introduce, join, Grammar, kind_of, rank_of, rule_of, right_of, plan_of, plan_node, edge_at}
use Rattle.hrg.specs.Trees.{unplaced, at}
use Rattle.hrg.specs.Items.{is_open_at}
use Rattle.agenda.specs.declared.ChartItem.{ChartItem}
use Rattle.agenda.specs.declared.Record.{Record}
use Rattle.records.specs.Numbers.{number_in}
use Rattle.records.specs.Words.{capacity, record_at}

-- ---- the places that an item uses
-- of an active item: its map has the open rule nodes at its plan node
abbrev pub open_place : Grammar → ChartItem → ℕ → Bool
open_place G i k = is_open_at (rule_of G i.of) i.plan k

-- of a passive item: its list is as long as its symbol's rank
abbrev pub listed_place : Grammar → ChartItem → ℕ → Bool
listed_place G i k = ltb k (rank_of G i.of)

-- ---- the record is the image of an item: this layout's meaning (01 leaves layouts open)
-- every unused place holds none
pub record NoneElse (used : ℕ → Bool) (ns : List ℕ) : Type 0 where
  pub none : (k : ℕ) → k < 8 → used k ≡ false → at ns k ≡ unplaced

-- and every unused field 0: the partners of a leaf item, the plan node and the second partner of a passive one
pub data ImageOfItem (G : Grammar) (x : Record) : Type 0 where
  active_image : x.item.kind ≡ 0 → NoneElse (open_place G x.item) x.item.nodes
      → (plan_node (plan_of G x.item.of) x.item.plan ≡ leaf → (x.first ≡ 0) × (x.second ≡ 0)) → ImageOfItem G x
  passive_image : x.item.kind ≡ 1 → NoneElse (listed_place G x.item) x.item.nodes → x.item.plan ≡ 0 → x.second ≡ 0 → ImageOfItem G x

-- ---- the item names what exists (01)
-- 'graph nodes, edges .. that exist': the node at each place that the item uses, and each edge of its set
pub record ExistingParts (H : Graph) (used : ℕ → Bool) (x : Record) : Type 0 where
  pub edge : (e : ℕ) → member x.item.edges e ≡ true → e < length H.edges
  pub node : (k : ℕ) → k < 8 → used k ≡ true → at x.item.nodes k < H.nodes

-- 'partner items that exist', among n items, by the plan node of an active one; a terminal edge's partner is a graph
-- edge
pub data ExistingPartners (G : Grammar) (H : Graph) (n : ℕ) (x : Record) : PlanNode → Type 0 where
  no_partner : ExistingPartners G H n x leaf
  edge_partner : {c i : ℕ} → x.first < n → kind_of G (edge_at (right_of G x.item.of).edges i).label ≡ terminal → x.second < length H.edges → ExistingPartners G H n x (introduce c i)
  item_partner : {c i : ℕ} → x.first < n → kind_of G (edge_at (right_of G x.item.of).edges i).label ≡ nonterminal → x.second < n → ExistingPartners G H n x (introduce c i)
  join_partners : {a b : ℕ} → x.first < n → x.second < n → ExistingPartners G H n x (join a b)

-- 'a rule, plan node, symbol': an active item or a passive one, and nothing else
pub data ExistingRecord (G : Grammar) (H : Graph) (n : ℕ) (x : Record) : Type 0 where
  an_active : x.item.kind ≡ 0 → x.item.of < length G.rules → x.item.plan < length (plan_of G x.item.of) → ExistingParts H (open_place G x.item) x
      → ExistingPartners G H n x (plan_node (plan_of G x.item.of) x.item.plan) → ExistingRecord G H n x
  a_passive : x.item.kind ≡ 1 → x.item.of < length G.symbols → kind_of G x.item.of ≡ nonterminal → ExistingParts H (listed_place G x.item) x → x.first < n
      → ExistingRecord G H n x

-- 'with no more items than it holds'; each record up to their number is the image of an item, and that item names
-- what exists
pub record ExistingChart (G : Grammar) (H : Graph) (w : List ℕ) : Type 0 where
  pub number : number_in w ≤ capacity w
  pub image : (j : ℕ) → j < number_in w → ImageOfItem G (record_at w j)
  pub each : (j : ℕ) → j < number_in w → ExistingRecord G H (number_in w) (record_at w j)
