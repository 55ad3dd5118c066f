use Prim.Native.Nat.{◌≤◌}
use mathlib.Core.Path.{◌≡◌}
use Rattle.agenda.specs.Steps.{handled_count}
use Rattle.records.specs.Words.{records_at}
use Rattle.records.proofs.handled_steps.Given as goal

abbrev pub invariant-loop-i : goal.invariant-loop-i
invariant-loop-i l = (l.done ≤ l.i) × (l.done ≡ handled_count (records_at l.chart l.i))
