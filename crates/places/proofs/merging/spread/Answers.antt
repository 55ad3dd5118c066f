-- No byte of the sum and of the product overflows.
use mathlib.Core.Path.{refl}
use Rattle.places.specs.Swar.{spread_of}
use Rattle.places.proofs.merging.spread.Goals as goal

pub returns : goal.returns
unfolding spread_of
returns c = refl
