-- The run of a chart in steps, on its records: at most `cap` of them, and a mark where one item more was found than
-- it holds.
use Rattle.std.specs.Prelude.{Option, Some, None, ◌||◌, cond, List, [], ◌∷◌, ◌++◌, ℕ, zero, suc, ◌+◌, length, set, eqb, ltb, leb}
use Rattle.hrg.specs.Counts.{flag}
use Rattle.hrg.specs.Grammars.{Graph, Grammar}
use Rattle.agenda.specs.Records.{same_chart_item, is_handled}
use Rattle.agenda.specs.Consequences.{record_in, consequences, leaf_records}
use Rattle.agenda.specs.declared.ChartItem.{ChartItem}
use Rattle.agenda.specs.declared.Record.{Record}

pub record Chart : Type 0 where
  pub mark : ℕ
  pub records : List Record

-- the last record of the item x among the first n
unfoldable pub last_same : ChartItem → List Record → ℕ → Option ℕ
unfolding same_chart_item
last_same x rs zero = None
last_same x rs (suc n) = cond (same_chart_item x (record_in rs n).item) (Some n) (last_same x rs n)

-- an item with another count
abbrev pub with_count : ChartItem → ℕ → ChartItem
with_count x n = record { kind = x.kind; of = x.of; plan = x.plan; edges = x.edges; count = n; nodes = x.nodes }

-- a record with another's count and partners
abbrev pub improved : Record → Record → Record
improved y x = record { item = with_count y.item x.item.count; handled = y.handled; first = x.first; second = x.second }

-- An item found again takes the lesser count and its partners, unless it is handled; a new one has a record of its
-- own, and where there is none left the chart is marked.
unfoldable pub placed : ℕ → Record → Chart → Option ℕ → Chart
placed cap x c (Some j) =
    cond (is_handled (record_in c.records j) || leb (record_in c.records j).item.count x.item.count) c
    (record { mark = c.mark; records = set c.records j (improved (record_in c.records j) x) })
placed cap x c None =
    cond (ltb (length c.records) cap) (record { mark = c.mark; records = c.records ++ (x ∷ []) }) (record { mark = 1; records = c.records })

-- once a chart is marked nothing changes
unfoldable pub added : ℕ → Record → Chart → Chart
unfolding placed last_same
added cap x c = cond (eqb c.mark 0) (placed cap x c (last_same x.item c.records (length c.records))) c

unfoldable pub added_all : ℕ → List Record → Chart → Chart
unfolding added
added_all cap [] c = c
added_all cap (x ∷ xs) c = added_all cap xs (added cap x c)

-- the lesser of the one found so far and the record at n, if that is not handled
unfoldable pub lesser : List Record → ℕ → Option ℕ → Option ℕ
lesser rs n None = cond (is_handled (record_in rs n)) None (Some n)
lesser rs n (Some j) = cond (is_handled (record_in rs n) || leb (record_in rs j).item.count (record_in rs n).item.count) (Some j) (Some n)

-- the first of least count among the first n records, of those that are not handled: the program's choice among equal
-- counts
unfoldable pub least_waiting : List Record → ℕ → Option ℕ
unfolding lesser
least_waiting rs zero = None
least_waiting rs (suc n) = lesser rs n (least_waiting rs n)

abbrev pub handled_now : Record → Record
handled_now x = record { item = x.item; handled = 1; first = x.first; second = x.second }

-- one step: the record at j is handled, and what it makes is added
unfoldable pub handled_at : Grammar → Graph → ℕ → ℕ → Chart → Chart
unfolding added_all consequences
handled_at G H cap j c =
    let rs = set c.records j (handled_now (record_in c.records j)) in
    added_all cap (consequences G H rs j) (record { mark = c.mark; records = rs })

abbrev pub step_with : Grammar → Graph → ℕ → Chart → Option ℕ → Chart
step_with G H cap c None = c
step_with G H cap c (Some j) = handled_at G H cap j c

unfoldable pub step_chart : Grammar → Graph → ℕ → Chart → Chart
unfolding least_waiting handled_at
step_chart G H cap c = step_with G H cap c (least_waiting c.records (length c.records))

-- so many steps, or as many as are left; a marked chart is left as it is
unfoldable pub run_chart : Grammar → Graph → ℕ → ℕ → Chart → Chart
unfolding step_chart
run_chart G H cap zero c = c
run_chart G H cap (suc k) c = let d = run_chart G H cap k c in cond (eqb d.mark 0) (step_chart G H cap d) d

-- start: the leaf items become present in an empty chart
unfoldable pub start_chart : Grammar → ℕ → Chart
unfolding added_all leaf_records
start_chart G cap = added_all cap (leaf_records G) (record { mark = 0; records = [] })

-- a list of runs, each on the chart as the last one left it
unfoldable pub runs_chart : Grammar → Graph → ℕ → List ℕ → Chart → Chart
unfolding run_chart
runs_chart G H cap [] c = c
runs_chart G H cap (k ∷ ks) c = runs_chart G H cap ks (run_chart G H cap k c)

-- the steps done since start: the handled records
unfoldable pub handled_count : List Record → ℕ
handled_count [] = 0
handled_count (x ∷ xs) = flag (is_handled x) + handled_count xs

unfoldable pub sum_of : List ℕ → ℕ
sum_of [] = 0
sum_of (k ∷ ks) = k + sum_of ks
