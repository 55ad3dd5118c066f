-- The rules passed are in the table, whose words have 32 bits.
use native.Mathlib.Omega.{arith}
use mathlib.Core.Path.{sym, subst}
use mathlib.Core.List.{List}
use Prim.Native.Nat.{ℕ}
use Rattle.rules.specs.Filling.{ToldTo}
use Rattle.rules.proofs.PlanLaws.{told_none, told_all}
use Rattle.rules.proofs.plans.fill.Goals as goal

pub loop-r-init : goal.loop-r-init
loop-r-init c = (
  subst (λ (t : List ℕ). ToldTo c.args.g.now.words.now t 0 0)
      (sym c.requires) (told_none c.args.g.now.words.now),
  λ k. omega (arith, c.slice_known-1.given k),
)

pub returns : goal.returns
returns c = told_all _ c.args.g.now.fit
    _ _ _ c.rule_count-r-end.ensures c.loop-r-test.false c.loop-r.auto.r-end
    c.loop-r.invariant.0 c.loop-r.invariant.1
