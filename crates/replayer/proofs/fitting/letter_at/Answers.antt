-- The tests in their order, by a law each.
use Rattle.replayer.proofs.TextRows.{letter_open, letter_shape, letter_kept}
use Rattle.replayer.proofs.fitting.letter_at.Goals as goal

pub returns-then-not-ends : goal.returns-then-not-ends
returns-then-not-ends c = letter_open _ _ _ c.ends.ensures c.if-not-ends.true

pub returns-then-not-shape : goal.returns-then-not-shape
returns-then-not-shape c = letter_shape _ _ _ c.ends.ensures c.if-not-ends.false _
    c.requires.1 _ c.shape.ensures c.if-not-shape.true

pub returns : goal.returns
returns c = letter_kept _ _ _ c.ends.ensures c.if-not-ends.false _
    c.requires.1 _ c.shape.ensures
    c.if-not-shape.false _ c.letter_kind.ensures
