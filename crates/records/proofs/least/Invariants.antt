use Rattle.std.specs.Prelude.{None}
use mathlib.Core.Path.{◌≡◌}
use Rattle.agenda.specs.Steps.{least_waiting}
use Rattle.records.specs.Words.{records_at}
use Rattle.records.proofs.least.Given as goal

abbrev pub invariant-loop-i : goal.invariant-loop-i
invariant-loop-i l = None ≡ least_waiting (records_at l.chart l.n) l.i
