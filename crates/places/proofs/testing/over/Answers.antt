use mathlib.Core.Path.{refl}
use Rattle.places.specs.Swar.{over_of}
use Rattle.places.proofs.testing.over.Goals as goal

pub returns : goal.returns
unfolding over_of
returns c = refl
