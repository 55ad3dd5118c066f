-- Five words, one for each key.
use native.Mathlib.Omega.{arith}
use lib.ListN.{get_or}
use Rattle.lists.proofs.ListLaws.{five_each}
use Rattle.lists.specs.Cursors.{starts_of}
use Rattle.lists.proofs.starts.Goals as goal

pub returns : goal.returns
unfolding starts_of
returns c =
    let done = c.loop-c.invariant in
    five_each _ (λ i. get_or c.args.ws.now (get_or c.args.query i 0) 0) done.0 (λ i l. done.1 i (omega arith))
