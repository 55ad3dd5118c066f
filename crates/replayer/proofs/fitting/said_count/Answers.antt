-- A match on the letter of the first line, and the tests behind it in their order, by a law each.
use mathlib.Core.Path.{refl}
use borrow.Author.Rules.{rules}
use Rattle.replayer.proofs.TextRows.{count_line_is, no_count_line}
use Rattle.replayer.proofs.TextRows.{said_letter, said_fields, said_few, said_many, said_all}
use Rattle.replayer.proofs.fitting.said_count.Goals as goal

pub returns-in_default : goal.returns-in_default
returns-in_default c = said_letter _ _ (no_count_line _ _ c.letter_at.ensures (search rules)) refl

pub returns-then-field_count-ne1 : goal.returns-then-field_count-ne1
returns-then-field_count-ne1 c = said_fields _ _ (count_line_is _ _ c.letter_at.ensures (search rules)) refl _
    c.next_line-line.ensures.contents _ c.field_count.ensures c.if-field_count-ne1.true

pub returns-then-n-lt1 : goal.returns-then-n-lt1
returns-then-n-lt1 c = said_few _ _ (count_line_is _ _ c.letter_at.ensures (search rules)) refl _
    c.next_line-line.ensures.contents _ c.field_count.ensures c.if-field_count-ne1.false
    _ c.number-n.ensures c.if-n-lt1.true

pub returns-then-n-gt4096 : goal.returns-then-n-gt4096
returns-then-n-gt4096 c = said_many _ _ (count_line_is _ _ c.letter_at.ensures (search rules)) refl _
    c.next_line-line.ensures.contents _ c.field_count.ensures c.if-field_count-ne1.false _
    c.number-n.ensures c.if-n-lt1.false c.if-n-gt4096.true

pub returns : goal.returns
returns c = said_all _ _ (count_line_is _ _ c.letter_at.ensures (search rules)) refl _
    c.next_line-line.ensures.contents _ c.field_count.ensures c.if-field_count-ne1.false _
    c.number-n.ensures c.if-n-lt1.false c.if-n-gt4096.false
