-- Each byte of the product fits.
use Rattle.places.specs.Swar.{bare_of}
use mathlib.Core.Path.{refl}
use Rattle.places.proofs.merging.bare.Goals as goal

pub returns : goal.returns
unfolding bare_of
returns c = refl
