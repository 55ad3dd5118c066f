-- The files, then their tables.
use mathlib.Core.Path.{refl}
use Rattle.questions.proofs.Refusals.{number_cast, number_some}
use Rattle.driver.proofs.ProgramLaws.{prints_unread, prints_read}
use Rattle.driver.proofs.derive.Goals as goal

pub returns-in-Err : goal.returns-in-Err
returns-in-Err c = prints_unread _ _ _ _ _ c.in-Err.ensures _ _ _ (number_some _) (rw (number_cast c.in-Err.refusal) at c.put_refusal.ensures)

pub returns : goal.returns
returns c = prints_read _ _ _ _ _ c.in_default.ensures _ _ _ refl c.derive_tables.ensures
