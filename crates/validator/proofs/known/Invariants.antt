use Prim.Native.Nat.{◌≤◌}
use mathlib.Core.Path.{◌≡◌}
use Rattle.agenda.specs.Steps.{handled_count}
use Rattle.records.specs.Words.{records_at}
use Rattle.validator.proofs.WordTests.{Passed, record_test}
use Rattle.validator.proofs.known.Given as goal

abbrev pub invariant-loop-j : goal.invariant-loop-j
invariant-loop-j l =
    (l.handled ≤ l.j) × Passed (record_test l.t.tables.grammar.words.now l.t.tables.graph.now l.n l.chart) l.j × (l.handled ≡ handled_count (records_at l.chart l.j))
