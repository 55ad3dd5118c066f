-- As the definition computes it.
use Rattle.places.specs.Swar.{choose_of}
use mathlib.Core.Path.{refl}
use Rattle.places.proofs.merging.choose.Goals as goal

pub returns : goal.returns
unfolding choose_of
returns c = refl
