use Rattle.std.specs.Prelude.{Some}
use mathlib.Core.Path.{◌≡◌}
use Rattle.records.specs.Words.{records_at}
use Rattle.agenda.specs.Steps.{least_waiting}
use Rattle.records.proofs.least_from.Given as goal

abbrev pub invariant-loop-i : goal.invariant-loop-i
invariant-loop-i l = Some l.best ≡ least_waiting (records_at l.chart l.n) l.i
