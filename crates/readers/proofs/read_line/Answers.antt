-- The questions in their order, by a law each.
use mathlib.Core.Path.{sym, ◌∙◌}
use Rattle.readers.proofs.Letters.{letter_some}
use Rattle.readers.proofs.Turns.{judged_open, judged_shape, judged_letter, judged_rest}
use Rattle.readers.proofs.read_line.Goals as goal

pub returns-then-not-ended : goal.returns-then-not-ended
returns-then-not-ended c = (judged_open _ _ _ _ _ c.if-not-ended.true, tt)

pub returns-then-not-shape : goal.returns-then-not-shape
returns-then-not-shape c = (
  judged_shape _ _ _ _ _ c.if-not-ended.false _ c.shape.ensures
      c.if-not-shape.true,
  tt,
)

pub letter_due-requires : goal.letter_due-requires
letter_due-requires c = letter_some _ (sym c.shape.ensures ∙ c.if-not-shape.false)

pub returns-then-not-letter_due : goal.returns-then-not-letter_due
returns-then-not-letter_due c = (
  judged_letter _ _ _ _ _ c.if-not-ended.false
      _ c.shape.ensures c.if-not-shape.false
      _ c.letter_due.ensures c.if-not-letter_due.true,
  tt,
)

pub returns : goal.returns
returns c = (
  judged_rest _ _ _ _ _ c.if-not-ended.false _ c.shape.ensures
      c.if-not-shape.false _ c.letter_due.ensures
      c.if-not-letter_due.false _ c.store_line.ensures.0,
  c.store_line.ensures.1,
)
