-- By the mark, where no step is left; else by what stands in the chart.
use Rattle.chart.proofs.CallSteps.{outcome_small, outcome_idle}
use native.Mathlib.Omega.{arith}
use Rattle.records.proofs.WordLaws.{count_fits}
use Rattle.chart.proofs.outcome_after.Goals as goal

pub handled_steps-requires : goal.handled_steps-requires
handled_steps-requires c = omega (
  arith,
  count_fits c.args.chart.now,
  c.item_count-n.ensures,
)

pub returns-then-not-all : goal.returns-then-not-all
returns-then-not-all c = c.outcome_of.ensures

pub returns-then-mark_of-ne0 : goal.returns-then-mark_of-ne0
returns-then-mark_of-ne0 c = outcome_small c.args.chart.now
    _ c.mark_of.ensures c.if-mark_of-ne0.true

pub returns : goal.returns
returns c = outcome_idle c.args.chart.now
    _ c.mark_of.ensures _ c.if-mark_of-ne0.false c.item_count-n.ensures
    (c.requires c.if-not-all.false)
