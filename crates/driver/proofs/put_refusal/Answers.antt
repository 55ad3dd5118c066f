-- The line stands at the front.
use native.Mathlib.Omega.{arith}
use Rattle.driver.proofs.PrintLaws.{prints_refusal}
use Rattle.driver.proofs.put_refusal.Goals as goal

pub returns : goal.returns
returns c = prints_refusal _ _ _ _ (omega arith) c.write_number.ensures.0 c.write_number.ensures.1
