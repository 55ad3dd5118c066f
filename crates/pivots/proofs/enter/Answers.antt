-- Two words, or three.
use native.Mathlib.Omega.{arith}
use Prim.Native.Nat.{◌+◌}
use Rattle.pivots.proofs.TableLaws.{with_small}
use Rattle.pivots.proofs.enter.Goals as goal

pub overflow_cast-t-then-want-lt64-2 : goal.overflow_cast-t-then-want-lt64-2
overflow_cast-t-then-want-lt64-2 c = omega (
  arith,
  with_small _ _ _ c.with-u.ensures (omega
      (arith, c.slice_known-then-want-lt64-1.given (2048 + c.args.want))) (omega (arith, c.requires.2)),
)
