-- Records of a chart and the items that they stand for.
use Rattle.std.specs.Prelude.{Bool, ◌&&◌, not, cond, ℕ, ◌+◌, ◌-◌, ◌^◌, min, take, eqb}
use Rattle.hrg.specs.Grammars.{Grammar, rank_of, right_of}
use Rattle.hrg.specs.Trees.{padded}
use Rattle.hrg.specs.Items.{Item, active, passive}
use Rattle.hrg.specs.ClosureRun.{same_list}
use Rattle.agenda.specs.declared.ChartItem.{ChartItem}
use Rattle.agenda.specs.declared.Record.{Record}

-- an item in eight places, with a count
abbrev pub chart_item : Item → ℕ → ChartItem
chart_item (active r p m f) n = record { kind = 0; of = r; plan = p; edges = m; count = n; nodes = padded f }
chart_item (passive s m L) n = record { kind = 1; of = s; plan = 0; edges = m; count = n; nodes = padded L }

-- a new record, not handled, made of the partners `first` and `second`
abbrev pub new_record : ChartItem → ℕ → ℕ → Record
new_record x a b = record { item = x; handled = 0; first = a; second = b }

-- the one of an item
abbrev pub record_of : Item → ℕ → ℕ → ℕ → Record
record_of i n a b = new_record (chart_item i n) a b

-- the item that stands in eight places
unfoldable pub item_of : Grammar → ChartItem → Item
item_of G x =
    cond (eqb x.kind 0) (active x.of x.plan x.edges (take (right_of G x.of).nodes x.nodes))
    (passive x.of x.edges (take (rank_of G x.of) x.nodes))

-- whether two are the same item: kind, rule or symbol, plan node, edges and the eight places
unfoldable pub same_chart_item : ChartItem → ChartItem → Bool
unfolding same_list
same_chart_item x y =
    let places = same_list x.nodes y.nodes in
    (eqb x.edges y.edges && eqb x.kind y.kind && eqb x.of y.of && eqb x.plan y.plan) && places

-- whether a record is handled
abbrev pub is_handled : Record → Bool
is_handled x = not (eqb x.handled 0)

-- a sum of counts, which have 32 bits: on a chart that was touched it may be more, and stays the most
unfoldable pub plus : ℕ → ℕ → ℕ
plus a b = min (a + b) (2 ^ 32 - 1)
