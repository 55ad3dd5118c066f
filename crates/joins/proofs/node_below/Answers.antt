-- A leaf has nothing below it; the other kinds add an edge to a child, or join two children, whose masks are there.
use native.Mathlib.Omega.{arith}
use Rattle.joins.proofs.PlanMasks.{below_few, leaf_mask, introduce_first, join_both, introduce_mask, join_mask}
use Rattle.joins.proofs.node_below.Goals as goal

pub offset_bounds-ms-first : goal.offset_bounds-ms-first
offset_bounds-ms-first c = omega (
  arith,
  below_few _ _ _ c.requires.0,
  introduce_first _ _ _ c.requires.0
      _ _ _ c.plan_kind-kind.ensures c.plan_first-first.ensures
      c.plan_second-second.ensures c.in-1.is,
)

pub bounds-ms-first : goal.bounds-ms-first
bounds-ms-first c = omega (
  arith,
  below_few _ _ _ c.requires.0,
  introduce_first _ _ _ c.requires.0
      _ _ _ c.plan_kind-kind.ensures c.plan_first-first.ensures
      c.plan_second-second.ensures c.in-1.is,
)

pub offset_bounds-ms-first-in_default : goal.offset_bounds-ms-first-in_default
offset_bounds-ms-first-in_default c = omega (
  arith,
  below_few _ _ _ c.requires.0,
  join_both _ _ _ c.requires.0
      _ _ _ c.plan_kind-kind.ensures c.plan_first-first.ensures
      c.plan_second-second.ensures c.in_default.in_default-own.rest.0.1 c.in_default.in_default-own.rest.1,
)

pub bounds-ms-first-in_default : goal.bounds-ms-first-in_default
bounds-ms-first-in_default c = omega (
  arith,
  below_few _ _ _ c.requires.0,
  join_both _ _ _ c.requires.0
      _ _ _ c.plan_kind-kind.ensures c.plan_first-first.ensures
      c.plan_second-second.ensures c.in_default.in_default-own.rest.0.1 c.in_default.in_default-own.rest.1,
)

pub offset_bounds-ms-second : goal.offset_bounds-ms-second
offset_bounds-ms-second c = omega (
  arith,
  below_few _ _ _ c.requires.0,
  join_both _ _ _ c.requires.0
      _ _ _ c.plan_kind-kind.ensures c.plan_first-first.ensures
      c.plan_second-second.ensures c.in_default.in_default-own.rest.0.1 c.in_default.in_default-own.rest.1,
)

pub bounds-ms-second : goal.bounds-ms-second
bounds-ms-second c = omega (
  arith,
  below_few _ _ _ c.requires.0,
  join_both _ _ _ c.requires.0
      _ _ _ c.plan_kind-kind.ensures c.plan_first-first.ensures
      c.plan_second-second.ensures c.in_default.in_default-own.rest.0.1 c.in_default.in_default-own.rest.1,
)

pub returns-in-0 : goal.returns-in-0
returns-in-0 c = leaf_mask _ _ _ c.requires.0
    _ c.plan_kind-kind.ensures c.in-0.is

pub returns-in-1 : goal.returns-in-1
returns-in-1 c = introduce_mask _ _ _ c.requires.0 _ _ _ c.plan_kind-kind.ensures
    c.plan_first-first.ensures c.plan_second-second.ensures _ c.requires.1
    _ c.in-1.is c.with.ensures

pub returns-in_default : goal.returns-in_default
returns-in_default c = join_mask _ _ _ c.requires.0 _ _ _ c.plan_kind-kind.ensures
    c.plan_first-first.ensures c.plan_second-second.ensures _ c.requires.1
    _ c.in_default.in_default-own.rest.0.1 c.in_default.in_default-own.rest.1 c.union.ensures
