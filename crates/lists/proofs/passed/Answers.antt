-- Five cursors, one by one.
use native.Mathlib.Omega.{arith}
use Prim.Native.Nat.{◌+◌, ◌*◌}
use lib.ListN.{get_or}
use Rattle.lists.proofs.ListLaws.{five_each}
use Rattle.lists.specs.Cursors.{moved_on, passed_of}
use Rattle.lists.proofs.passed.Goals as goal

pub returns : goal.returns
unfolding passed_of
returns c =
    let a = c.args in
    let done = c.loop-c.invariant in
    five_each _ (λ i. moved_on a.ws.now (5 * a.k + 5) (get_or a.cs i 0)) done.0 (λ i l. done.1 i (omega arith))
