-- Rule after rule, and the words before each and behind the last (proofs/Leading).
use native.Mathlib.Omega.{arith}
use mathlib.Core.Path.{refl, sym, ap, ◌∙◌}
use mathlib.Core.List.{[]}
use Rattle.questions.specs.declared.Due.TheVariants.{Rule}
use Rattle.questions.specs.Layout.{plan_place, grammar_words}
use Rattle.tables.proofs.Gaps.{zeros_at}
use Rattle.tables.proofs.Leading.{concludes_on, concludes_last, lines_end, rules_gap_no, rules_no, rules_next}
use Rattle.tables.proofs.checking.check_rules.Goals as goal

pub returns-then-not-zeros : goal.returns-then-not-zeros
returns-then-not-zeros c = rules_gap_no grammar_words _ _ _ _ _ _ c.loop-r.invariant.1
    c.loop-r-test.true _ (zeros_at _ _ _ _ _ _ refl
    c.rule_place.ensures c.zeros.ensures) c.if-not-zeros.true-raw

pub returns-then-not-check_rule : goal.returns-then-not-check_rule
returns-then-not-check_rule c = rules_no grammar_words _ _ _ _ _ _ c.loop-r.invariant.1 c.loop-r-test.true
    _ (zeros_at _ _ _ _ _ _ refl c.rule_place.ensures c.zeros.ensures)
    c.if-not-zeros.false-raw _ _ c.check_rule.ensures.1 c.if-not-check_rule.true-raw

pub loop-r-preserved : goal.loop-r-preserved
loop-r-preserved c =
    let check-rule = c.check_rule in
    let if2 = c.if-not-check_rule in
    let rule-plan-in = c.rule_plan_in in
    let loop = c.loop-r in (
      omega (arith, check-rule.ensures.0 if2.false, rule-plan-in.ensures),
      rules_next grammar_words _ _ _ _ _ _ loop.invariant.1 c.loop-r-test.true
          _ (zeros_at _ _ _ _ _ _ refl c.rule_place.ensures c.zeros.ensures)
          c.if-not-zeros.false-raw _ _ check-rule.ensures.1 if2.false-raw c.requires.1
          _ (sym (c.plan_place-from.ensures ∙ ap (plan_place loop.r) rule-plan-in.ensures)),
    )

pub returns : goal.returns
returns c = concludes_on grammar_words [] _ _ _ _ _ (lines_end grammar_words [] _ _ _ Rule
    _ _ _ _ c.loop-r.invariant.1 c.loop-r-test.false _ (omega arith))
    _ (concludes_last grammar_words [] _ _ _ c.zeros-2.ensures)
