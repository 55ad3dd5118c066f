-- A leaf has no children, the other kinds one or two.
use native.Mathlib.Omega.{arith}
use Rattle.joins.proofs.Known.{rule_few}
use Rattle.joins.proofs.PlanMasks.{below_few, join_both}
use Rattle.rules.proofs.Inside.{node_inside}
use Rattle.rules.proofs.PlanLaws.{put_leaf, first_few, put_introduce, put_join}
use Rattle.rules.proofs.plans.put_children.Goals as goal

pub plan_first_in-first-requires : goal.plan_first_in-first-requires
plan_first_in-first-requires c = node_inside c.requires.0

pub plan_kind_in-requires : goal.plan_kind_in-requires
plan_kind_in-requires c = node_inside c.requires.0

pub put-requires : goal.put-requires
put-requires c =
    let pre = c.requires in
    let known = pre.0 in
    let edge = c.in-1.is in
    let few = first_few _ _ _ known _ _ c.plan_kind_in.ensures
    c.plan_first_in-first.ensures (λ e. omega (arith, edge)) in (
      pre.1,
      rule_few _ _ known.grammar known.rule,
      few,
      below_few _ _ _ known,
      c.second_word.ensures.1,
      pre.2,
    )

pub put-requires-in_default : goal.put-requires-in_default
put-requires-in_default c =
    let pre = c.requires in
    let known = pre.0 in
    let joins = c.in_default.in_default-own.rest in
    let few = first_few _ _ _ known _ _ c.plan_kind_in.ensures
    c.plan_first_in-first.ensures joins.0.1 in (
      pre.1,
      rule_few _ _ known.grammar known.rule,
      few,
      below_few _ _ _ known,
      c.second_word-in_default.ensures.1,
      pre.2,
    )

pub plan_second_in-second-requires : goal.plan_second_in-second-requires
plan_second_in-second-requires c = node_inside c.requires.0

pub overflow_mul-first : goal.overflow_mul-first
overflow_mul-first c =
    let kind = c.plan_kind_in.ensures in
    let first = c.plan_first_in-first.ensures in
    let joins = c.in_default.in_default-own.rest in
    omega (arith, first_few _ _ _ c.requires.0 _ _ kind first joins.0.1)

pub overflow_add-first : goal.overflow_add-first
overflow_add-first c =
    let kind = c.plan_kind_in.ensures in
    let first = c.plan_first_in-first.ensures in
    let joins = c.in_default.in_default-own.rest in
    omega (arith, first_few _ _ _ c.requires.0 _ _ kind first joins.0.1)

pub put-requires-in_default-2 : goal.put-requires-in_default-2
put-requires-in_default-2 c =
    let pre = c.requires in
    let known = pre.0 in
    let kind = c.plan_kind_in.ensures in
    let first = c.plan_first_in-first.ensures in
    let joins = c.in_default.in_default-own.rest in
    let few = first_few _ _ _ known _ _ kind first joins.0.1 in
    let lower = join_both _ _ _ known _ _ _ kind first c.plan_second_in-second.ensures joins.0.1
    joins.1 in
    let near = below_few _ _ _ known in
    let size = c.put-in_default.ensures.size in (
      size,
      rule_few _ _ known.grammar known.rule,
      omega (arith, lower.1, near),
      near,
      omega (arith, few),
      pre.2,
    )

pub returns-in-0 : goal.returns-in-0
returns-in-0 c =
    let pre = c.requires in
    put_leaf _ _ _ _ _ pre.0 pre.1 _ c.plan_kind_in.ensures c.in-0.is

pub returns-in-1 : goal.returns-in-1
returns-in-1 c =
    let pre = c.requires in
    let kind = c.plan_kind_in.ensures in
    let first = c.plan_first_in-first.ensures in
    let edge = c.in-1.is in
    put_introduce _ _ _ _ _ pre.0 pre.1 _ _ _ kind first c.second_word.ensures.0 edge
    _ c.put.ensures

pub returns-in_default : goal.returns-in_default
returns-in_default c =
    let pre = c.requires in
    let kind = c.plan_kind_in.ensures in
    let first = c.plan_first_in-first.ensures in
    let second = c.plan_second_in-second.ensures in
    let joins = c.in_default.in_default-own.rest in
    let word = c.second_word-in_default.ensures in
    let one = c.put-in_default.ensures in
    let two = c.put-in_default-2.ensures in
    put_join _ _ _ _ _ pre.0 pre.1 _ _ _ kind first word.0 _ second joins.0.1 joins.1 _ _ one two
