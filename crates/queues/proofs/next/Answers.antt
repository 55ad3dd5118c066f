-- The first of the lowest words that is not 0, or none.
use native.Mathlib.Omega.{arith}
use Rattle.queues.proofs.LevelLaws.{started_empty, hint_found, left_hinted}
use mathlib.Core.Path.{refl}
use Rattle.queues.proofs.next.Goals as goal

pub returns-in_err-a : goal.returns-in_err-a
returns-in_err-a c = rw c.from_residual.ensures (started_empty _ _ c.in_err-a.ensures refl, refl)

pub leave-requires : goal.leave-requires
leave-requires c =
    let (few, first) = c.in_ok-a.ensures in
    hint_found c.args.ws.now _ c.requires.size first (omega arith)

pub returns : goal.returns
returns c =
    let (few, first) = c.in_ok-a.ensures in
    left_hinted c.args.ws.now _ c.requires.size first (omega arith) _ _ c.leave.ensures
