-- As the definition computes it.
use Rattle.places.specs.Swar.{agrees_of}
use Rattle.places.proofs.merging.agrees.Goals as goal

pub returns : goal.returns
unfolding agrees_of
returns c = cc
