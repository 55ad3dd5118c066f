-- The same sum.
use mathlib.Core.Path.{refl}
use Rattle.keys.specs.Keys.{mixed}
use Rattle.pivots.proofs.mix.Goals as goal

pub returns : goal.returns
unfolding mixed
returns c = refl
