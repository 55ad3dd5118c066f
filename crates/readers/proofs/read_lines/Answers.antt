-- The loop over the lines that count: reading what is left gives what the whole text gives.
use native.Mathlib.Omega.{arith}
use mathlib.Core.Path.{refl, ◌∙◌}
use Rattle.std.proofs.lemmas.Result.{err_from_is_err_and}
use Rattle.questions.proofs.Refusals.{number_some}
use Rattle.readers.proofs.Turns.{reads_done, turn_no, turn_on, turn_less}
use Rattle.readers.proofs.read_lines.Goals as goal

pub returns-in_err-read_line : goal.returns-in_err-read_line
returns-in_err-read_line c =
    let p = err_from_is_err_and c.from_residual.result c.from_residual.ensures.1 in rw (p.1, p.2)
    (turn_no _ _ _ _ _ _ _ c.loop-at.invariant c.loop-at-test.true
    _ c.next_counting-line.ensures.contents _ c.counting_start-start.ensures
    _ c.is_ended.ensures _ c.in_err-read_line.ensures.0 (number_some _) _)

pub loop-at-smaller : goal.loop-at-smaller
loop-at-smaller c = omega (
  arith,
  turn_less _ _ _ _ c.loop-at-test.true c.counting_start-start.ensures
      c.after_line-at.ensures,
)

pub loop-at-preserved : goal.loop-at-preserved
loop-at-preserved c = turn_on _ _ _ _ _ _ _ c.loop-at.invariant c.loop-at-test.true
    _ c.next_counting-line.ensures.contents _ c.counting_start-start.ensures
    _ c.is_ended.ensures _ c.in_ok-read_line.ensures.0 refl
    _ _ _ c.read_line.auto.t c.in_ok-read_line.ensures.1
    c.next_due-due.ensures c.after_line-at.ensures

pub returns : goal.returns
returns c = reads_done _ _ _ _ _ _ c.loop-at-test.false c.missing_line.ensures ∙
    c.loop-at.invariant.rest
