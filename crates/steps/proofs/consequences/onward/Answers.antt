-- Cursors that pass their record, and on over quiet records.
use mathlib.Core.Path.{subst}
use mathlib.Core.List.{List}
use native.Mathlib.Omega.{arith}
use Prim.Native.Nat.{ℕ}
use Rattle.index.specs.Quiet.{quiet_in}
use Rattle.steps.specs.Ways.{Rests}
use Rattle.steps.proofs.consequences.onward.Goals as goal

pub passed-ds-requires : goal.passed-ds-requires
passed-ds-requires c = (
  c.requires.3,
  omega (arith, c.requires.1, c.requires.2),
)

pub resting-requires : goal.resting-requires
resting-requires c = (c.requires.0, c.requires.1)

pub returns : goal.returns
returns c =
    let s = c.args in
    subst (λ (bs : List ℕ). Rests (quiet_in s.chart.now s.edges) s.index.now.lists s.n bs
    c.resting.result.k c.resting.result.cs) c.passed-ds.ensures c.resting.ensures
