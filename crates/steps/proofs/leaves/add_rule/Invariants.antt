use Prim.Native.Nat.{◌≤◌}
use mathlib.Core.Path.{◌≡◌}
use lib.ListN.{length}
use Rattle.hrg.specs.Grammars.{plan_of}
use Rattle.questions.specs.Layout.{rule_plan}
use Rattle.questions.specs.Abstract.{grammar_of}
use Rattle.steps.specs.Leaves.{leaf_record}
use Rattle.steps.proofs.LeafLoops.{Left}
use Rattle.steps.proofs.leaves.add_rule.Given as goal

abbrev pub invariant-loop-p : goal.invariant-loop-p
invariant-loop-p l = (l.p ≤ rule_plan l.g.words.now l.r) × (length l.chart ≡ length l.initial.chart) × Left l.initial.chart
    (length (plan_of (grammar_of l.g.words.now) l.r)) (λ q. leaf_record (grammar_of l.g.words.now) l.r q) l.chart l.p
