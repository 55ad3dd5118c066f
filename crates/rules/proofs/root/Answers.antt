-- A passive item, an unknown rule and an inner plan node make nothing.
use native.Mathlib.Omega.{arith}
use Prim.Native.Nat.{suc, ◌<◌}
use mathlib.Core.Path.{◌≡◌}
use Rattle.questions.specs.Layout.{rule_count}
use Rattle.rules.proofs.RootLaws.{symbol_byte, root_passive, root_unknown, root_inner, root_made}
use Rattle.rules.proofs.root.Goals as goal

pub returns-then-x-ne0 : goal.returns-then-x-ne0
returns-then-x-ne0 c = root_passive _ _ c.if-x-ne0.true

pub returns-then-r-rule_count : goal.returns-then-r-rule_count
returns-then-r-rule_count c = root_unknown _ _ _ c.if-x-ne0.false c.rule_count.ensures c.if-r-rule_count.true

pub returns-then-x-rule_plan : goal.returns-then-x-rule_plan
returns-then-x-rule_plan c =
    let known : c.args.x.of < rule_count c.args.g.now.words.now = omega (
      arith,
      c.rule_count.ensures,
      c.if-r-rule_count.false,
    ) in
    root_inner _ _ c.if-x-ne0.false c.args.g.now.fit known _ c.rule_plan.ensures
    (λ e. c.if-x-rule_plan.true (omega arith))

pub overflow_cast-result : goal.overflow_cast-result
overflow_cast-result c = omega (arith, symbol_byte _ _ _ c.rule_symbol-of.ensures)

pub returns : goal.returns
returns c =
    let known : c.args.x.of < rule_count c.args.g.now.words.now = omega (
      arith,
      c.rule_count.ensures,
      c.if-r-rule_count.false,
    ) in
    let plan = c.rule_plan in
    let last : suc c.args.x.plan ≡ plan.result = omega (arith, c.if-x-rule_plan.false) in
    root_made _ _ c.if-x-ne0.false c.args.g.now.fit known _ plan.ensures _ _ _ last
    c.rule_symbol-of.ensures c.plus.ensures c.root_nodes.ensures
