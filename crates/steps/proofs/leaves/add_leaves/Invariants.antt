use Prim.Native.Nat.{◌≤◌}
use mathlib.Core.Path.{◌≡◌}
use lib.ListN.{length}
use Rattle.questions.specs.Layout.{rule_count}
use Rattle.questions.specs.Abstract.{grammar_of}
use Rattle.steps.specs.Leaves.{rule_leaves}
use Rattle.steps.proofs.LeafLoops.{Left}
use Rattle.steps.proofs.leaves.add_leaves.Given as goal

abbrev pub invariant-loop-r : goal.invariant-loop-r
invariant-loop-r l = (l.r ≤ rule_count l.g.words.now) × (length l.chart ≡ length l.initial.chart) × Left l.initial.chart
    (length (grammar_of l.g.words.now).rules) (λ q. rule_leaves (grammar_of l.g.words.now) q) l.chart l.r
