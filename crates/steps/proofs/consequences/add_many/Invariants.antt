use mathlib.Core.Path.{◌≡◌}
use lib.ListN.{length}
use Rattle.lists.specs.Cursors.{left_all}
use Rattle.steps.proofs.ManyLaws.{Turning}
use Rattle.steps.proofs.consequences.add_many.Given as goal

abbrev pub invariant-loop-at : goal.invariant-loop-at
invariant-loop-at l =
    (length l.chart ≡ length l.initial.chart) × Turning l.t.run.tables.grammar.words.now l.t.run.tables.graph.now
    l.t.keys.now l.initial.chart l.j l.n l.chart l.index.words l.index.lists l.at.cs l.at.k l.past

abbrev pub decreases-loop-at : goal.decreases-loop-at
decreases-loop-at l = left_all l.at.cs
