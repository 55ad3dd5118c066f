-- The rule's own line, its edges, the words between, and its plan (proofs/Leading).
use native.Mathlib.Omega.{arith}
use mathlib.Core.Path.{ap}
use mathlib.Core.Bool.{false≢true}
use Rattle.questions.specs.Layout.{plan_place, grammar_words}
use Rattle.tables.proofs.Gaps.{zeros_at}
use Rattle.tables.proofs.Leading.{edges_few, plan_few, rule_no, rule_edges_no, rule_gap_no, rule_plan_lem}
use Rattle.tables.proofs.checking.check_rule.Goals as goal

pub returns-then-not-rule_stands : goal.returns-then-not-rule_stands
returns-then-not-rule_stands c = (
  λ y. absurd (false≢true y),
  rule_no grammar_words _ _ _ c.rule_stands.ensures
      _ _ c.if-not-rule_stands.true-raw,
)

pub check_edges-requires : goal.check_edges-requires
check_edges-requires c = (
  c.requires,
  edges_few _ _ _ (c.rule_stands.ensures.yes c.if-not-rule_stands.false)
      c.rule_edges_in-edges.ensures,
)

pub returns-then-not-check_edges : goal.returns-then-not-check_edges
returns-then-not-check_edges c = (
  λ y. absurd (false≢true y),
  rule_edges_no grammar_words
      _ _ _ c.rule_stands.ensures _ _ c.if-not-rule_stands.false-raw
      _ _ c.check_edges.ensures c.if-not-check_edges.true-raw,
)

pub edge_place-requires : goal.edge_place-requires
edge_place-requires c = omega (
  arith,
  (edges_few
      _ _ _ (c.rule_stands.ensures.yes
      c.if-not-rule_stands.false) c.rule_edges_in-edges.ensures).few,
)

pub zeros-requires : goal.zeros-requires
zeros-requires c = (
  omega (
    arith,
    (edges_few _ _ _ (c.rule_stands.ensures.yes c.if-not-rule_stands.false)
        c.rule_edges_in-edges.ensures).few,
  ),
  omega arith,
)

pub returns-then-not-zeros : goal.returns-then-not-zeros
returns-then-not-zeros c = (
  λ y. absurd (false≢true y),
  rule_gap_no grammar_words _ _ _ c.rule_stands.ensures
      _ _ c.if-not-rule_stands.false-raw _ _ c.check_edges.ensures c.if-not-check_edges.false-raw
      _ (zeros_at _ _ _ _ _ _ c.edge_place.ensures c.plans_from.ensures
      c.zeros.ensures) c.if-not-zeros.true-raw,
)

pub check_plan-requires : goal.check_plan-requires
check_plan-requires c =
    let rule-stands = c.rule_stands in
    let if1 = c.if-not-rule_stands in (
      c.requires,
      plan_few _ _ _ (rule-stands.ensures.yes if1.false) c.rule_plan_in.ensures,
      edges_few _ _ _ (rule-stands.ensures.yes if1.false)
          c.rule_edges_in-edges.ensures,
    )

pub returns : goal.returns
returns c =
    let rule-stands = c.rule_stands in
    let if1 = c.if-not-rule_stands in
    let rule-plan-in = c.rule_plan_in in (
      λ y. omega (
        arith,
        (plan_few _ _ _ (rule-stands.ensures.yes if1.false)
            rule-plan-in.ensures).few,
        rule-plan-in.ensures,
      ),
      rule_plan_lem grammar_words _ _ _ rule-stands.ensures _ _ if1.false-raw
          _ _ c.check_edges.ensures c.if-not-check_edges.false-raw
          _ (zeros_at _ _ _ _ _ _ c.edge_place.ensures c.plans_from.ensures
          c.zeros.ensures) c.if-not-zeros.false-raw
          _ (ap (plan_place c.args.r) rule-plan-in.ensures) _ c.check_plan.ensures,
    )
