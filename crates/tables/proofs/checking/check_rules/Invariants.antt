use Prim.Native.Nat.{◌≤◌}
use mathlib.Core.Bool.{cond}
use mathlib.Core.List.{[]}
use lib.Dec.{ltb}
use Rattle.questions.specs.declared.Due.TheVariants.{Rule, Nothing}
use Rattle.questions.specs.Layout.{rule_place, grammar_words}
use Rattle.tables.specs.Concluding.{Leads}
use Rattle.tables.proofs.checking.check_rules.Given as goal

abbrev pub invariant-loop-r : goal.invariant-loop-r
invariant-loop-r l = (l.from ≤ rule_place l.r) × Leads grammar_words [] l.t (Rule 0) l.first
    (cond (ltb l.r l.n) (Rule l.r) Nothing) l.from
