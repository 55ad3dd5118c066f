-- The rows that are left, with those passed, make the count of the text.
use mathlib.Core.Path.{refl, ◌∙◌}
use borrow.Author.Rules.{rules}
use Rattle.replayer.proofs.TextRows.{row_line, no_row_line}
use Rattle.replayer.proofs.TextRows.{count_none, count_first, count_refused, count_next, count_behind, count_all}
use Rattle.replayer.proofs.fitting.row_count.Goals as goal

pub returns-in_err-n : goal.returns-in_err-n
returns-in_err-n c = c.from_residual.ensures ∙ count_none _ c.in_err-n.ensures

pub loop-k-init : goal.loop-k-init
loop-k-init c = count_first _ _ _ c.in_ok-n.ensures c.after_line-at.ensures

pub returns-in_default : goal.returns-in_default
returns-in_default c = count_refused _ _ _ _ c.loop-k.invariant c.loop-k-test.true _
    (no_row_line _ _ c.letter_at.ensures (search rules)) refl

pub loop-k-preserved : goal.loop-k-preserved
loop-k-preserved c = count_next _ _ _ _ c.loop-k.invariant c.loop-k-test.true _
    (row_line _ _ c.letter_at.ensures (search rules)) refl _ c.behind-at.ensures

pub returns-then-at-text : goal.returns-then-at-text
returns-then-at-text c = count_behind _ _ _ _ c.loop-k.invariant c.loop-k-test.false c.if-at-text.true

pub returns : goal.returns
returns c = count_all _ _ _ _ c.loop-k.invariant c.loop-k-test.false c.if-at-text.false
