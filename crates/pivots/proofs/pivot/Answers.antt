-- The one plan node above tells.
use Rattle.pivots.proofs.TableLaws.{pivot_missing, pivot_found}
use Rattle.pivots.proofs.pivot.Goals as goal

pub returns-in-None : goal.returns-in-None
returns-in-None c = pivot_missing _ _ _ c.in-None.ensures

pub returns-in-Some : goal.returns-in-Some
returns-in-Some c = pivot_found _ _ _ _ c.in-Some.ensures _ c.pivot_below.ensures
