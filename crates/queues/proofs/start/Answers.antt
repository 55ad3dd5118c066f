-- The words before it are 0.
use Rattle.std.proofs.Common.{arith}
use Rattle.queues.proofs.LevelLaws.{started_at}
use Rattle.queues.proofs.start.Goals as goal

pub returns-then-ws-i-ne0 : goal.returns-then-ws-i-ne0
returns-then-ws-i-ne0 c = (
  omega arith,
  started_at c.loop-i.i _ (omega arith) (λ h. omega (arith, c.if-ws-i-ne0.true)) (c.loop-i.invariant 0)
      (c.loop-i.invariant 1) (c.loop-i.invariant 2) (c.loop-i.invariant 3),
)

pub returns : goal.returns
returns c =
    started_at 4 _ (omega arith) (λ h. absurd (omega arith)) (λ h. c.loop-i.invariant 0 (omega arith))
    (λ h. c.loop-i.invariant 1 (omega arith)) (λ h. c.loop-i.invariant 2 (omega arith))
    (λ h. c.loop-i.invariant 3 (omega arith))
