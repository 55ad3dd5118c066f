-- The sets over the plan lines passed, one line a turn.
use Rattle.tables.proofs.Planning.{marked_start, marked_next}
use Rattle.tables.proofs.plans.marks_before.Goals as goal

pub loop-q-init : goal.loop-q-init
loop-q-init c = marked_start _ _

pub loop-q-preserved : goal.loop-q-preserved
loop-q-preserved c = marked_next _ _ _ _ _ _ _ _ _ _ c.line_in-line.ensures.0
    c.line_in-line.ensures.1 c.line_in-line.ensures.2
    c.loop-q.invariant c.mark_children-children.ensures c.mark_introduced-introduced.ensures
