-- What one rule makes of a record, alone or with a handled one, with the partners that it is made of.
use Rattle.std.specs.Prelude.{◌&&◌, List, [], ◌++◌, map, ℕ, zero, suc, length, get_or, eqb}
use Rattle.hrg.specs.Grammars.{Graph, PlanNode, leaf, introduce, join, Grammar, kind_of, rule_of, right_of, plan_of, plan_node, edge_at}
use Rattle.hrg.specs.Items.{Item, active, passive}
use Rattle.hrg.specs.ClosureRun.{guard, each_to, is_terminal, with_edge, root_at, leaves, binary_of}
use Rattle.hrg.specs.AgendaRun.{Conclusion}
use Rattle.agenda.specs.Records.{record_of, item_of, is_handled, plus}
use Rattle.agenda.specs.declared.ChartItem.{ChartItem}
use Rattle.agenda.specs.declared.Record.{Record}

-- what f gives for the numbers below n, in rising order
unfoldable pub gather : {A : Type 0} → ℕ → (ℕ → List A) → List A
gather zero f = []
gather (suc n) f = gather n f ++ f n

-- the item at a place of the chart's list, and a record past the end
abbrev pub no_record : Record
no_record =
    let none : ChartItem = record { kind = 0; of = 0; plan = 0; edges = 0; count = 0; nodes = [] } in
    record { item = none; handled = 0; first = 0; second = 0 }

abbrev pub record_in : List Record → ℕ → Record
record_in rs j = get_or rs j no_record

-- ---- alone
-- the root rule: the passive item of a root item, made of the record at j
unfoldable pub at_root : Grammar → Item → ℕ → ℕ → List Record
unfolding root_at
at_root G (active r p m f) n j = map (λ (c : Conclusion Item). record_of c.item (plus n c.constant) j 0) (root_at (rule_of G r) p m f)
at_root G (passive s m L) n j = []

-- the terminal rule with graph edge e at plan node q
unfoldable pub terminal_at : Grammar → Graph → ℕ → ℕ → ℕ → List ℕ → ℕ → ℕ → PlanNode → List Item
unfolding with_edge
terminal_at G H r p m f e q leaf = []
terminal_at G H r p m f e q (introduce c i) =
    let made = with_edge H (rule_of G r) r q m f (edge_at (right_of G r).edges i) e in
    guard (eqb c p && is_terminal (kind_of G (edge_at (right_of G r).edges i).label)) made
terminal_at G H r p m f e q (join a b) = []

-- the terminal rule with graph edge e, made of the record at j
unfoldable pub with_terminal : Grammar → Graph → Item → ℕ → ℕ → ℕ → List Record
unfolding terminal_at
with_terminal G H (active r p m f) n j e =
    map (λ (i : Item). record_of i n j e) (each_to (length (plan_of G r)) (λ q. terminal_at G H r p m f e q (plan_node (plan_of G r) q)))
with_terminal G H (passive s m L) n j e = []

-- ---- with a partner
-- the nonterminal rule and the join rule: the record at j first, the one at k second
unfoldable pub pair : Grammar → Graph → Record → ℕ → Record → ℕ → List Record
unfolding item_of binary_of
pair G H x j y k = map (λ (i : Item). record_of i (plus x.item.count y.item.count) j k) (binary_of G H (item_of G x.item) (item_of G y.item))

-- the record at j with the one at k, in both orders, where that one is handled
unfoldable pub with_partner : Grammar → Graph → List Record → ℕ → ℕ → List Record
unfolding pair
with_partner G H rs j k = guard (is_handled (record_in rs k)) (pair G H (record_in rs j) j (record_in rs k) k ++ pair G H (record_in rs k) k (record_in rs j) j)

-- everything that the record at j makes with graph edges and handled records
unfoldable pub consequences : Grammar → Graph → List Record → ℕ → List Record
unfolding at_root with_terminal with_partner gather
consequences G H rs j =
    at_root G (item_of G (record_in rs j).item) (record_in rs j).item.count j
    ++ gather (length H.edges) (λ e. with_terminal G H (item_of G (record_in rs j).item) (record_in rs j).item.count j e)
    ++ gather (length rs) (λ k. with_partner G H rs j k)

-- the leaf items, count 0
unfoldable pub leaf_records : Grammar → List Record
unfolding leaves
leaf_records G = map (λ (i : Item). record_of i 0 0 0) (leaves G)
