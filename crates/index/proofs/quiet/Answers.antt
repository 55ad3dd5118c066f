use mathlib.Core.Path.{sym, ◌∙◌}
use Rattle.index.proofs.QuietLaws.{quiet_edges, quiet_waits, quiet_not}
use Rattle.records.proofs.WordLaws.{item_inside}
use Rattle.index.proofs.quiet.Goals as goal

pub edges_at-requires : goal.edges_at-requires
edges_at-requires c = item_inside c.args.chart.now c.args.k c.requires.0

pub returns-then-not-disjoint : goal.returns-then-not-disjoint
returns-then-not-disjoint c = quiet_edges c.args.chart.now
    c.args.edges c.args.k
    _ _ c.edges_at.ensures c.disjoint.ensures.value c.if-not-disjoint.true

pub is_handled-requires : goal.is_handled-requires
is_handled-requires c = item_inside c.args.chart.now
    c.args.k c.requires.0

pub returns-then-not-is_handled : goal.returns-then-not-is_handled
returns-then-not-is_handled c = quiet_waits c.args.chart.now c.args.edges c.args.k
    _ _ c.edges_at.ensures c.disjoint.ensures.value
    c.if-not-disjoint.false (sym c.is_handled.ensures ∙ c.if-not-is_handled.true)

pub returns : goal.returns
returns c = quiet_not c.args.chart.now c.args.edges c.args.k _ _ c.edges_at.ensures
    c.disjoint.ensures.value c.if-not-disjoint.false
    (sym c.is_handled.ensures ∙ c.if-not-is_handled.false)
