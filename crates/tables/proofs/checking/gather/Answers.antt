-- One word made of those passed in each half, 16 a turn.
use native.Mathlib.Omega.{arith}
use mathlib.Core.Path.{refl}
use Rattle.tables.proofs.Gaps.{gathered_turn, halves}
use Rattle.tables.proofs.checking.gather.Goals as goal

pub loop-i-preserved : goal.loop-i-preserved
loop-i-preserved c = (
  gathered_turn _ _ _ _ _ _ _ c.loop-i.invariant.0 (omega arith) c.with_eight.ensures c.with_eight-low.ensures (omega arith),
  gathered_turn _ _ _ _ _ _ _ c.loop-i.invariant.1 (omega arith) c.with_eight-in-loop-i.ensures c.with_eight-high.ensures (omega arith),
)

pub returns : goal.returns
returns c = halves _ _ _ _ _ _ _ refl (omega arith) c.loop-i.invariant.0 c.loop-i.invariant.1
