-- One level of a plan: the levels left fall with each call.
use native.Mathlib.Omega.{arith}
use mathlib.Core.Path.{◌≡◌}
use Rattle.extractor.proofs.PartnerLaws.{within_end, within_leaf, within_introduce, within_join}
use Rattle.extractor.proofs.partners.+partners_within.Goals as goal

pub returns-then-left-eq0 : goal.returns-then-left-eq0
returns-then-left-eq0 t c = within_end _ _ _ _ _ _ c.if-left-eq0.true

pub returns-in-0 : goal.returns-in-0
returns-in-0 t c =
    within_leaf _ _ _ _ _ _ c.if-left-eq0.false _ _ _ c.plan_line-line.ensures.node c.in-0.is

pub returns-in-1 : goal.returns-in-1
returns-in-1 t c =
    let node = c.plan_line-line.ensures.node in
    within_introduce _ _ _ _ _ _ c.if-left-eq0.false _ _ _ node _ _ c.first_at-first.ensures c.second_at.ensures
    _ c.in-1.is c.partners_within.ensures

pub returns-in_default : goal.returns-in_default
returns-in_default t c =
    let node = c.plan_line-line.ensures.node in
    let kind = c.plan_line-line.result.kind in
    let above : kind ≡ 0 → ⊥ = λ e. omega arith in
    let joining : kind ≡ 1 → ⊥ = λ e. omega arith in
    within_join _ _ _ _ _ _ c.if-left-eq0.false _ _ _ node
    _ _ c.first_at-first-in_default.ensures c.second_at-second.ensures _ _ above joining
    c.partners_within-in_default.ensures c.partners_within-in_default-2.ensures
