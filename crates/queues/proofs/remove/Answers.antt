-- Three words, and the first that stays not 0 ends the way.
use Rattle.queues.proofs.LevelLaws.{removed_by_low, removed_by_middle, removed_by_high}
use mathlib.Core.Path.{refl}
use Rattle.queues.proofs.remove.Goals as goal

pub returns-then-lower-ne0 : goal.returns-then-lower-ne0
returns-then-lower-ne0 c = removed_by_low c.args.ws.now c.args.p _ _ refl refl c.requires.0 c.requires.1
    _ _ c.lower.ensures.0 c.lower.ensures.1 c.if-lower-ne0.true

pub returns-then-lower-ne0-2 : goal.returns-then-lower-ne0-2
returns-then-lower-ne0-2 c = removed_by_middle c.args.ws.now c.args.p _ _ refl refl c.requires.0 c.requires.1
    _ _ _ _ c.lower.ensures.0 c.lower.ensures.1 c.if-lower-ne0.false
    c.lower-2.ensures.0 c.lower-2.ensures.1 c.if-lower-ne0-2.true

pub returns : goal.returns
returns c = removed_by_high c.args.ws.now c.args.p _ _ refl refl c.requires.0 c.requires.1
    _ _ _ _ c.lower.ensures.0 c.lower.ensures.1 c.if-lower-ne0.false
    c.lower-2.ensures.0 c.lower-2.ensures.1 _ c.if-lower-ne0-2.false
    c.lower-3.ensures.0
