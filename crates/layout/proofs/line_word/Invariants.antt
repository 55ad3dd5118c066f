use Prim.Native.Nat.{◌-◌}
use mathlib.Core.Path.{◌≡◌}
use lib.ListN.{drop}
use Rattle.questions.specs.Layout.{packed}
use Rattle.layout.proofs.line_word.Given as goal

abbrev pub invariant-loop-k : goal.invariant-loop-k
invariant-loop-k l = l.w ≡ packed (9 - l.k) (drop l.k l.f)
