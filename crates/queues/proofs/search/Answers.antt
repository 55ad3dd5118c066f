-- Each level leads to the next.
use Rattle.queues.proofs.LevelLaws.{started_reached, reached_started, reached_next, started_none}
use mathlib.Core.Path.{refl}
use native.Mathlib.Omega.{arith}
use Rattle.queues.proofs.search.Goals as goal

pub returns-in_err-i : goal.returns-in_err-i
returns-in_err-i c = rw c.from_residual.ensures (started_none _ _ c.requires c.in_err-i.ensures refl)

pub down-requires : goal.down-requires
down-requires c =
    let (few, first) = c.in_ok-i.ensures in
    (c.requires.size, omega arith, omega arith, started_reached _ 0 4 _ first (omega arith))

pub down-requires-2 : goal.down-requires-2
down-requires-2 c =
    let (few, first) = c.in_ok-i.ensures in
    (c.requires.size, omega arith, omega arith, reached_next _ 0 _ _ c.requires (omega arith) c.down.ensures)

pub returns : goal.returns
returns c =
    let (few, first) = c.in_ok-i.ensures in
    let R = reached_next _ 4 _ _ c.requires (omega arith) c.down-2.ensures in
    (omega arith, reached_started _ 132 4096 _ (omega arith) R)
