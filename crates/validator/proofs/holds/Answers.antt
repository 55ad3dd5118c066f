-- Two tests of the capacity.
use mathlib.Core.Path.{ap}
use lib.Dec.{leb}
use mathlib.Core.Bool.{◌&&◌}
use Rattle.validity.specs.Checking.{holds}
use Rattle.validator.proofs.holds.Goals as goal

pub returns : goal.returns
unfolding holds
returns c = ap (λ n. leb 1 n && leb n 4096) c.capacity_of-cap.ensures
