-- The children of the plan nodes passed are told; the masks are those of what lies below them.
use native.Mathlib.Omega.{arith}
use Rattle.joins.proofs.Known.{plan_few}
use Rattle.joins.proofs.PlanMasks.{masks_more, set_size}
use Rattle.rules.proofs.PlanLaws.{open_small, told_next, told_rule}
use Rattle.rules.proofs.plans.fill_rule.Goals as goal

pub offset_bounds-ms-q : goal.offset_bounds-ms-q
offset_bounds-ms-q c = omega (
  arith,
  c.rule_plan-n.ensures,
  c.loop-q-test.true,
  plan_few _ _ c.args.g.now.fit c.requires.0,
)

pub bounds-ms-q : goal.bounds-ms-q
bounds-ms-q c = omega (
  arith,
  c.rule_plan-n.ensures,
  c.loop-q-test.true,
  plan_few _ _ c.args.g.now.fit c.requires.0,
)

pub put_children-requires : goal.put_children-requires
put_children-requires c = (
  record {
    grammar = c.args.g.now.fit;
    rule = c.requires.0;
    node = omega (arith, c.rule_plan-n.ensures, c.loop-q-test.true);
  },
  c.loop-q.invariant.2.size,
  open_small _ _ _ _ (record {
    grammar = c.args.g.now.fit;
    rule = c.requires.0;
    node = omega (
      arith,
      c.rule_plan-n.ensures,
      c.loop-q-test.true,
    );
  }) c.open_at-o.ensures c.open_at-o.type_inv,
)

pub loop-q-preserved : goal.loop-q-preserved
loop-q-preserved c = (
  masks_more _ _ _ _ _ (omega (
    arith,
    c.loop-q.invariant.1,
    c.rule_plan-n.ensures,
    c.loop-q-test.true,
    plan_few _ _ c.args.g.now.fit c.requires.0,
  )) c.loop-q.invariant.0
      c.node_below-m.ensures,
  set_size c.loop-q.ms c.loop-q.q
      c.node_below-m.result _ c.loop-q.invariant.1,
  told_next _ _ _ _ _ _ (record {
    grammar = c.args.g.now.fit;
    rule = c.requires.0;
    node = omega (arith, c.rule_plan-n.ensures, c.loop-q-test.true);
  })
      c.open_at-o.ensures c.loop-q.invariant.2 c.put_children.ensures,
)

pub returns : goal.returns
returns c = told_rule _ c.args.g.now.fit
    _ _ _ _ c.requires.0 c.rule_plan-n.ensures
    c.loop-q.auto.q-end c.loop-q-test.false c.loop-q.invariant.2
