-- The types of the fields tell that it is small.
use mathlib.Core.Path.{refl}
use native.Mathlib.Omega.{arith}
use Rattle.chains.proofs.tag_of.Goals as goal

pub returns : goal.returns
returns c = (refl, omega arith)
