use mathlib.Core.Path.{◌≡◌}
use lib.ListN.{length}
use Rattle.lists.specs.Cursors.{alone, left_all}
use Rattle.steps.proofs.SingleLaws.{Along}
use Rattle.steps.proofs.consequences.add_listed.Given as goal

abbrev pub invariant-loop-c : goal.invariant-loop-c
invariant-loop-c l =
    (length l.chart ≡ length l.initial.chart) × Along l.t.run.tables.grammar.words.now l.t.run.tables.graph.now l.t.keys.now
    l.initial.chart l.j l.n l.chart l.index.words l.index.lists l.c l.past

abbrev pub decreases-loop-c : goal.decreases-loop-c
decreases-loop-c l = left_all
    (alone l.c)
