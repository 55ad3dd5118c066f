-- The first child of a plan node is told of it; nothing lies below a leaf.
use Rattle.rules.proofs.Inside.{node_inside}
use Rattle.rules.proofs.PlanLaws.{open_leaf, open_above}
use Rattle.rules.proofs.plans.open_at.Goals as goal

pub plan_kind_in-requires : goal.plan_kind_in-requires
plan_kind_in-requires c = node_inside c.requires

pub plan_first_in-requires : goal.plan_first_in-requires
plan_first_in-requires c = node_inside c.requires

pub returns-in-0 : goal.returns-in-0
returns-in-0 c = open_leaf _ _ _ c.requires _ c.plan_kind_in.ensures c.in-0.is

pub returns-in_default : goal.returns-in_default
returns-in_default c =
    let known = c.requires in
    let kind = c.plan_kind_in.ensures in
    open_above _ _ _ known _ _ kind c.plan_first_in.ensures c.in_default.in_default-own.rest.1
    _ c.parent_in.ensures
