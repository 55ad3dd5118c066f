-- An edge by its label and nodes, or the second child.
use native.Mathlib.Omega.{arith}
use Rattle.rules.proofs.Inside.{node_inside}
use Rattle.rules.proofs.PlanLaws.{edge_there, edge_asked, child_asked}
use Rattle.rules.proofs.plans.second_word.Goals as goal

pub plan_second_in-second-requires : goal.plan_second_in-second-requires
plan_second_in-second-requires c = node_inside c.requires.0

pub plan_kind_in-requires : goal.plan_kind_in-requires
plan_kind_in-requires c = node_inside c.requires.0

pub edge_word-requires : goal.edge_word-requires
edge_word-requires c = edge_there _ _ _ c.requires.0
    _ _ c.plan_kind_in.ensures c.plan_second_in-second.ensures c.in-1.is

pub overflow_mul-result-in_default : goal.overflow_mul-result-in_default
overflow_mul-result-in_default c =
    let pre = c.requires in
    omega (
      arith,
      (child_asked _ _ _ pre.0 _ _ c.plan_kind_in.ensures
          c.plan_second_in-second.ensures pre.1 c.in_default.in_default-own.rest.1).1,
    )

pub overflow_add-result-in_default : goal.overflow_add-result-in_default
overflow_add-result-in_default c =
    let pre = c.requires in
    omega (
      arith,
      (child_asked _ _ _ pre.0 _ _ c.plan_kind_in.ensures
          c.plan_second_in-second.ensures pre.1 c.in_default.in_default-own.rest.1).1,
    )

pub returns-in-1 : goal.returns-in-1
returns-in-1 c =
    let kind = c.plan_kind_in.ensures in
    let second = c.plan_second_in-second.ensures in
    let word = c.edge_word.ensures in (
      edge_asked _ _ _ c.requires.0 _ _ kind second c.in-1.is
          _ word.0,
      omega (arith, word.1),
    )

pub returns-in_default : goal.returns-in_default
returns-in_default c =
    let pre = c.requires in
    child_asked _ _ _ pre.0 _ _ c.plan_kind_in.ensures c.plan_second_in-second.ensures
    pre.1 c.in_default.in_default-own.rest.1
