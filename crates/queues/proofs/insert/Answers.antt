-- Three words after the hint, and the first that was not 0 ends the way.
use Rattle.queues.proofs.LevelLaws.{inserted_by_low, inserted_by_middle, inserted_by_high}
use mathlib.Core.Path.{refl}
use Rattle.queues.proofs.insert.Goals as goal

pub returns-then-raise-ne0 : goal.returns-then-raise-ne0
returns-then-raise-ne0 c = inserted_by_low c.args.ws.now c.args.p _ _ refl refl c.requires.0 c.requires.1
    _ c.hint.ensures _ _ c.raise.ensures.0 c.raise.ensures.1
    c.if-raise-ne0.true

pub returns-then-raise-ne0-2 : goal.returns-then-raise-ne0-2
returns-then-raise-ne0-2 c = inserted_by_middle c.args.ws.now c.args.p _ _ refl refl c.requires.0 c.requires.1
    _ c.hint.ensures _ _ _ c.raise.ensures.0 c.raise-2.ensures.0
    c.raise-2.ensures.1 c.if-raise-ne0-2.true

pub returns : goal.returns
returns c = inserted_by_high c.args.ws.now c.args.p _ _ refl refl c.requires.0 c.requires.1
    _ c.hint.ensures _ _ _ c.raise.ensures.0 c.raise-2.ensures.0
    c.raise-3.ensures.0
