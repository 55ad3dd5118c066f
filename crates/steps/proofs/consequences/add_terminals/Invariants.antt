use mathlib.Core.Path.{◌≡◌}
use lib.ListN.{length}
use Rattle.steps.proofs.CandidateSteps.{Edging}
use Rattle.steps.proofs.consequences.add_terminals.Given as goal

abbrev pub invariant-loop-e : goal.invariant-loop-e
invariant-loop-e l =
    (length l.chart ≡ length l.initial.chart) ×
    Edging l.t.run.tables.grammar.words.now l.t.run.tables.graph.now l.t.keys.now l.initial.chart l.j l.chart l.index.words l.index.lists l.e
