-- A passive item and one that wants no symbol have none; the others those of the label outside their set, place by
-- place.
use Prim.Native.Nat.{◌<◌, ◌^◌}
use borrow.Author.Rules.{rules}
use Rattle.rules.proofs.Inside.{node_inside}
use Rattle.rules.proofs.CandidateLaws.{candidates_passive, candidates_none, candidates_nowhere, introduces, candidates_first}
use Rattle.rules.proofs.candidates.Goals as goal

pub returns-then-x-ne0 : goal.returns-then-x-ne0
returns-then-x-ne0 c = candidates_passive _ _ c.args.t.now.tables.fit _ c.if-x-ne0.true

pub returns-then-want-ge64 : goal.returns-then-want-ge64
returns-then-want-ge64 c =
    let pre = c.requires in
    candidates_none _ _ c.args.t.now.tables.fit _ c.if-x-ne0.false _ pre c.if-want-ge64.true

pub returns-in_default : goal.returns-in_default
returns-in_default c =
    let pre = c.requires in
    let is_active = c.if-x-ne0.false in
    let near = c.if-want-ge64.false in
    candidates_nowhere _ _ c.args.t.now.tables.fit _ is_active _ pre near c.in_default.ensures

pub plan_second_in-i-requires : goal.plan_second_in-i-requires
plan_second_in-i-requires c = node_inside c.in-Some.ensures.known

pub fitting-requires : goal.fitting-requires
fitting-requires c =
    let x = c.args.x in
    let small : x.edges < 2 ^ 64 = search rules in
    let pre = c.requires in
    let is_active = c.if-x-ne0.false in
    let near = c.if-want-ge64.false in
    let above = c.in-Some.ensures in (
      introduces _ _ c.args.t.now.tables.fit _ is_active _ pre near _ above
          _ c.plan_second_in-i.ensures,
      candidates_first _ _ c.args.t.now.tables.fit _ is_active _ pre near small _ c.args.t.now.graphed,
    )
