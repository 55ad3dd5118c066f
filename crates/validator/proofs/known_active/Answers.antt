-- The tests in the order of the definition.
use Rattle.validator.proofs.WordTests.{rule_inside, in_sizes, active_no_rule, active_no_node, active_outside, active_by}
use Rattle.validator.proofs.known_active.Goals as goal

pub returns-then-s-of : goal.returns-then-s-of
returns-then-s-of c = active_no_rule _ _ _ c.requires _ _ c.if-s-of.true

pub rule_plan_in-requires : goal.rule_plan_in-requires
rule_plan_in-requires c = rule_inside _ _ _ c.requires _ c.if-s-of.false

pub returns-then-rule_plan_in-plan : goal.returns-then-rule_plan_in-plan
returns-then-rule_plan_in-plan c = active_no_node _ _ _ c.requires _ _ c.if-s-of.false
    _ c.rule_plan_in.ensures
    c.if-rule_plan_in-plan.true

pub in_graph-requires : goal.in_graph-requires
in_graph-requires c = in_sizes _ _ _ c.requires

pub returns-then-not-in_graph : goal.returns-then-not-in_graph
returns-then-not-in_graph c =
    let sized = c.requires in
    active_outside _ _ _ sized _ _ c.if-s-of.false _ c.rule_plan_in.ensures c.if-rule_plan_in-plan.false
    _ c.open_at-open.ensures _
    c.in_graph.ensures c.if-not-in_graph.true

pub returns : goal.returns
returns c =
    let sized = c.requires in
    active_by _ _ _ sized _ _ c.if-s-of.false _ c.rule_plan_in.ensures c.if-rule_plan_in-plan.false
    _ c.open_at-open.ensures _
    c.in_graph.ensures _ c.if-not-in_graph.false c.known_partners.ensures
