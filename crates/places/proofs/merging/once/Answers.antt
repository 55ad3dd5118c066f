-- As the definition computes it.
use Rattle.places.specs.Swar.{once_of}
use Rattle.places.proofs.merging.once.Goals as goal

pub returns : goal.returns
unfolding once_of
returns c = cc
