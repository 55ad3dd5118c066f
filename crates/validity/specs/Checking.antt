-- Question 8 for a lent chart (01): 'does each chart item name a rule, plan node, symbol, graph nodes, edges and
-- partner items that exist, with no more items than it holds?'
use Rattle.std.specs.Prelude.{Bool, false, ◌&&◌, not, cond, List, ℕ, length, eqb, ltb, leb}
use Rattle.masks.specs.Masks.{full, within}
use Rattle.hrg.specs.Grammars.{Graph, PlanNode, leaf, introduce, join, Grammar, kind_of, right_of, plan_of, plan_node, edge_at}
use Rattle.hrg.specs.Trees.{unplaced, at}
use Rattle.hrg.specs.ClosureRun.{is_terminal}
use Rattle.hrg.specs.WellFormedTest.{every}
use Rattle.agenda.specs.declared.Record.{Record}
use Rattle.records.specs.Numbers.{number_in}
use Rattle.records.specs.Words.{capacity, record_at}
use Rattle.validity.specs.Existing.{open_place, listed_place}

-- 'Does the lent chart hold 1 to 4,096 items'
unfoldable pub holds : List ℕ → Bool
holds w = leb 1 (capacity w) && leb (capacity w) 4096

-- ---- edges and places
-- of so many edges: the set has no member at or above them
unfoldable pub known_edges : ℕ → ℕ → Bool
known_edges edges m = within m (full edges)

-- of so many nodes: a place that is used has one that exists, and one that is not has none (64)
unfoldable pub known_place : ℕ → Bool → ℕ → Bool
known_place nodes used v = cond used (ltb v nodes) (eqb v unplaced)

-- all eight places
unfoldable pub known_places : ℕ → (ℕ → Bool) → List ℕ → Bool
unfolding every known_place
known_places nodes used ns = every 8 (λ k. known_place nodes (used k) (at ns k))

-- the edges and the nodes that a record names, in a graph of so many, by the places that its item uses
unfoldable pub in_graph : ℕ → ℕ → (ℕ → Bool) → Record → Bool
unfolding known_edges known_places
in_graph nodes edges used x = known_edges edges x.item.edges && known_places nodes used x.item.nodes

-- ---- partners, among n items
-- what edge i of the rule was matched with: a graph edge where its label is terminal, else an item
unfoldable pub known_second : Grammar → Graph → ℕ → Record → ℕ → Bool
known_second G H n x i = cond (is_terminal (kind_of G (edge_at (right_of G x.item.of).edges i).label)) (ltb x.second (length H.edges)) (ltb x.second n)

-- by the plan node of the record: a leaf item has none, and both fields are 0
unfoldable pub known_partners : Grammar → Graph → ℕ → Record → PlanNode → Bool
unfolding known_second
known_partners G H n x leaf = eqb x.first 0 && eqb x.second 0
known_partners G H n x (introduce c i) = ltb x.first n && known_second G H n x i
known_partners G H n x (join a b) = ltb x.first n && ltb x.second n

-- ---- records
unfoldable pub known_active : Grammar → Graph → ℕ → Record → Bool
unfolding in_graph known_partners
known_active G H n x =
    ltb x.item.of (length G.rules)
    && ltb x.item.plan (length (plan_of G x.item.of))
    && in_graph H.nodes (length H.edges) (open_place G x.item) x
    && known_partners G H n x (plan_node (plan_of G x.item.of) x.item.plan)

-- its plan node and its second partner are unused, and 0
unfoldable pub known_passive : Grammar → Graph → ℕ → Record → Bool
unfolding in_graph
known_passive G H n x =
    ltb x.item.of (length G.symbols)
    && not (is_terminal (kind_of G x.item.of))
    && in_graph H.nodes (length H.edges) (listed_place G x.item) x
    && ltb x.first n
    && eqb x.item.plan 0
    && eqb x.second 0

-- Kind 0 is an active item, kind 1 a passive one. The count and the handled field are not asked.
unfoldable pub known_record : Grammar → Graph → ℕ → Record → Bool
unfolding known_active known_passive
known_record G H n x = cond (eqb x.item.kind 0) (known_active G H n x) (cond (eqb x.item.kind 1) (known_passive G H n x) false)

-- no more items than the chart holds, and each of them known; the mark is not asked
unfoldable pub known_chart : Grammar → Graph → List ℕ → Bool
unfolding every known_record
known_chart G H w = leb (number_in w) (capacity w) && every (number_in w) (λ j. known_record G H (number_in w) (record_at w j))
