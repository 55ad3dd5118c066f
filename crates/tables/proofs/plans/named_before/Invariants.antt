use Prim.Native.Nat.{◌*◌, ◌≤◌}
use mathlib.Core.Path.{◌≡◌}
use Rattle.tables.specs.Plans.{named_before}
use Rattle.tables.proofs.plans.named_before.Given as goal

abbrev pub invariant-loop-q : goal.invariant-loop-q
invariant-loop-q l = (l.sum ≤ 2 * l.q) × (l.sum ≡ named_before l.g l.r l.q l.what)
