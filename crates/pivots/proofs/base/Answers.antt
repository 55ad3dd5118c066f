-- The same sum.
use native.Mathlib.Omega.{arith}
use mathlib.Core.Path.{refl}
use Rattle.keys.specs.Keys.{base_of}
use Rattle.pivots.proofs.base.Goals as goal

pub returns : goal.returns
unfolding base_of
returns c = (refl, omega arith)
