-- A law for each answer.
use Rattle.driver.proofs.ProgramLaws.{written_fits, prints_derived, prints_unwritten}
use Rattle.driver.proofs.write_chart.Goals as goal

pub slice_bounds-text-end : goal.slice_bounds-text-end
slice_bounds-text-end c = (written_fits _ _ _ _ _ _ c.write-answer.ensures.2
    c.write-answer.auto.out c.in-Ok.is).0

pub slice_bounds-put_derivation-end : goal.slice_bounds-put_derivation-end
slice_bounds-put_derivation-end c = (written_fits
    _ _ _ _ _ _ c.write-answer.ensures.2
    c.write-answer.auto.out c.in-Ok.is).1

pub returns-in-Ok : goal.returns-in-Ok
returns-in-Ok c = prints_derived _ _ _ _ _ c.write-answer.ensures.0 _ _ _ _ _ c.write-answer.ensures.1
    c.in-Ok.is c.put_derivation.ensures

pub returns-in-Err : goal.returns-in-Err
returns-in-Err c = prints_unwritten _ _ _ _ _ c.write-answer.ensures.0
    _ _ _ _ _ c.in-Err.is c.writing_number.ensures
    c.put_refusal.ensures
