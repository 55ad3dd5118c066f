use mathlib.Core.Path.{◌≡◌}
use lib.ListN.{length}
use Rattle.questions.specs.Abstract.{grammar_of, graph_of}
use Rattle.steps.specs.Ready.{Ready}
use Rattle.steps.proofs.RunLaws.{Ran}
use Rattle.steps.proofs.advance_by.Given as goal

abbrev pub invariant-loop-i : goal.invariant-loop-i
invariant-loop-i l =
    (length l.chart ≡ length l.initial.chart) × Ran (grammar_of l.t.run.tables.grammar.words.now) (graph_of l.t.run.tables.grammar.words.now l.t.run.tables.graph.now) l.initial.chart l._i l.chart ×
    Ready l.t.run.tables.grammar.words.now l.t.run.tables.graph.now l.t.keys.now l.chart l.index.words l.index.lists
