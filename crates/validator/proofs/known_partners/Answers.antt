-- By the kind of the plan node.
use Rattle.joins.proofs.Known.{node_there}
use Rattle.validator.proofs.WordTests.{introduced_known, partners_leaf, partners_introduce, partners_join}
use Rattle.validator.proofs.known_partners.Goals as goal

pub plan_kind_in-kind-requires : goal.plan_kind_in-kind-requires
plan_kind_in-kind-requires c = node_there _ _ _ c.requires.1

pub plan_second_in-requires : goal.plan_second_in-requires
plan_second_in-requires c = node_there _ _ _ c.requires.1

pub known_second-requires : goal.known_second-requires
known_second-requires c =
    let pre = c.requires in (
      pre.0,
      introduced_known _ _ _ pre.1 _ c.plan_kind_in-kind.ensures _ c.in-1.is
          c.plan_second_in.ensures,
    )

pub returns-in-0 : goal.returns-in-0
returns-in-0 c = partners_leaf _ _ _ _ c.requires.1
    _ c.plan_kind_in-kind.ensures c.in-0.is

pub returns-in-1 : goal.returns-in-1
returns-in-1 c = partners_introduce _ _ _ _ c.requires.1
    _ c.plan_kind_in-kind.ensures _ _ c.in-1.is
    c.plan_second_in.ensures c.known_second.ensures

pub returns-in_default : goal.returns-in_default
returns-in_default c = partners_join _ _ _ _ c.requires.1
    _ c.plan_kind_in-kind.ensures c.in_default.in_default-own.rest.0.1 c.in_default.in_default-own.rest.1
