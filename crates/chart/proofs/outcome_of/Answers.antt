-- By the mark, and by how many are handled.
use Rattle.chart.proofs.CallSteps.{outcome_small, outcome_done, outcome_waits}
use Rattle.chart.proofs.outcome_of.Goals as goal

pub returns-then-mark_of-ne0 : goal.returns-then-mark_of-ne0
returns-then-mark_of-ne0 c = outcome_small c.args.chart.now _ c.mark_of.ensures c.if-mark_of-ne0.true

pub returns-then-done-item_count : goal.returns-then-done-item_count
returns-then-done-item_count c = outcome_done c.args.chart.now
    _ c.mark_of.ensures _ _ c.if-mark_of-ne0.false
    c.item_count.ensures c.requires c.if-done-item_count.true

pub returns : goal.returns
returns c = outcome_waits c.args.chart.now
    _ c.mark_of.ensures _ _ c.if-mark_of-ne0.false
    c.item_count.ensures c.requires c.if-done-item_count.false
