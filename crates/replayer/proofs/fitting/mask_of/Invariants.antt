use mathlib.Core.Path.{◌≡◌}
use lib.ListN.{take}
use Rattle.replayer.specs.Fitting.{with_all}
use Rattle.replayer.proofs.fitting.mask_of.Given as goal

abbrev pub invariant-loop-k : goal.invariant-loop-k
invariant-loop-k l = l.mask ≡ with_all 0 (take l.k l.listed)
