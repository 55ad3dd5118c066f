-- The places so far; those of rules that are not there stay as they are.
use native.Mathlib.Omega.{arith}
use Prim.Native.Nat.{◌+◌, ◌*◌, ◌<◌}
use mathlib.Core.Path.{ap, sym, subst}
use Rattle.rules.proofs.WantLaws.{rules_few}
use Rattle.pivots.proofs.TableLaws.{Filled, filled_none, filled_idle, filled_more, filled_all}
use Rattle.pivots.proofs.fill.Goals as goal
use Rattle.pivots.proofs.fill.Goals.{then-want-ne80, else-want-ne80}

pub overflow_mul-i-end : goal.overflow_mul-i-end
overflow_mul-i-end c = omega (arith, rules_few _ c.args.g.now.grammar.fit, c.rule_count-i-end.ensures)

pub loop-i-init : goal.loop-i-init
loop-i-init c = subst (λ t. Filled c.args.g.now.grammar.words.now t 0) (sym c.requires) (filled_none _)

pub enter-requires : goal.enter-requires
enter-requires c = (
  c.loop-i.invariant.size,
  omega (
    arith,
    rules_few _ c.args.g.now.grammar.fit,
    c.rule_count-i-end.ensures,
    c.loop-i-test.true,
  ),
  c.pivot-w.ensures.small,
)

pub loop-i-preserved : goal.loop-i-preserved
loop-i-preserved c =
    let low : c.loop-i.i < 1024 = omega (arith, rules_few _ c.args.g.now.grammar.fit, c.rule_count-i-end.ensures, c.loop-i-test.true) in
    elim c.if-want-ne80.branch [
      | then-want-ne80 w ↦ subst (λ t. Filled c.args.g.now.grammar.words.now t (c.loop-i.i + 1)) (sym w.t-is)
          (filled_more _ _ _ _ c.loop-i.invariant low (omega arith) _ c.want_of-want.ensures
          _ w.pivot-w.ensures _ w.enter.ensures)
      | else-want-ne80 w ↦ subst (λ t. Filled c.args.g.now.grammar.words.now t (c.loop-i.i + 1)) (sym w.t-is)
          (filled_idle _ _ _ _ c.loop-i.invariant low (omega arith) _ c.want_of-want.ensures
          w.if-want-ne80.false)
    ]

pub returns : goal.returns
returns c = filled_all _ c.args.g.now.grammar.fit _ (16 * c.rule_count-i-end.result)
    _ (ap (λ k. 16 * k) c.rule_count-i-end.ensures) c.loop-i-test.false
    c.loop-i.invariant _ c.fill_places.ensures
