use mathlib.Core.Path.{◌≡◌}
use Rattle.agenda.specs.Steps.{last_same}
use Rattle.records.specs.Words.{records_at}
use Rattle.records.proofs.find.Given as goal

abbrev pub invariant-loop-i : goal.invariant-loop-i
invariant-loop-i l = last_same l.x (records_at l.chart l.n) l.i ≡ last_same l.x (records_at l.chart l.n) l.n
