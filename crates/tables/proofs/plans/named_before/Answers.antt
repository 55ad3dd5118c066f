-- The count over the plan lines passed, one line a turn.
use native.Mathlib.Omega.{arith}
use Rattle.tables.proofs.Planning.{named_start, named_next}
use Rattle.tables.proofs.plans.named_before.Goals as goal

pub loop-q-init : goal.loop-q-init
loop-q-init c = (omega arith, named_start _ _ _)

pub loop-q-preserved : goal.loop-q-preserved
loop-q-preserved c = (
  omega (arith, c.loop-q.invariant.0, c.named_in-sum.ensures.1),
  named_next _ _ _ _ _ _ _ _ c.line_in.ensures.0 c.line_in.ensures.1 c.line_in.ensures.2
      _ c.loop-q.invariant.1 c.named_in-sum.ensures.0,
)
