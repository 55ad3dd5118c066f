-- What is printed is a part of the output.
use Rattle.driver.proofs.PrintLaws.{prints_front}
use Rattle.derive.proofs.derive.Goals as goal

pub slice_bounds-out-end : goal.slice_bounds-out-end
slice_bounds-out-end g c = (prints_front _ _ _ _ c.derive-count.ensures).0

pub slice_bounds-print-end : goal.slice_bounds-print-end
slice_bounds-print-end g c = (prints_front _ _ _ _ c.derive-count.ensures).1
