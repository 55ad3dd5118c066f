use Prim.Native.Nat.{◌-◌, ◌*◌, ◌<◌}
use mathlib.Core.Path.{◌≡◌}
use Rattle.lists.specs.Cursors.{Skims}
use Rattle.index.specs.Quiet.{quiet_in}
use Rattle.index.proofs.skim.Given as goal

abbrev pub invariant-loop-c : goal.invariant-loop-c
invariant-loop-c l = (0 < l.c) × (l.end ≡ 5 * l.n) × Skims (quiet_in l.chart l.edges) l.ws l.n l.from l.c

abbrev pub decreases-loop-c : goal.decreases-loop-c
decreases-loop-c l = 20481 - l.c
