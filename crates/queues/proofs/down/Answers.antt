-- The first bit of a word, counted in all words of its level.
use lib.Count.{trailing_le}
use Rattle.queues.proofs.LevelLaws.{stepped}
use native.Mathlib.Omega.{arith}
use Prim.Native.Nat.{◌+◌}
use lib.ListN.{get_or}
use Rattle.queues.proofs.down.Goals as goal

pub overflow_cast-result : goal.overflow_cast-result
overflow_cast-result c = omega (
  arith,
  trailing_le 32 (get_or c.args.ws.now
      (c.args.a + c.args.m) 0),
)

pub overflow_add-result-2 : goal.overflow_add-result-2
overflow_add-result-2 c = omega (
  arith,
  trailing_le 32 (get_or c.args.ws.now
      (c.args.a + c.args.m) 0),
)

pub returns : goal.returns
returns c = stepped c.args.ws.now c.args.a c.args.m c.requires.3
    (omega (arith, c.shared_slice_known-1.given (c.args.a + c.args.m)))
