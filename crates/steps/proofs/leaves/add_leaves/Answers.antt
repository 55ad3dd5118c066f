-- What is left to add gives the leaf items of all rules.
use native.Mathlib.Omega.{arith}
use mathlib.Core.Path.{refl, sym, ap, ◌∙◌}
use Rattle.questions.specs.Abstract.{grammar_of}
use Rattle.records.specs.Words.{grown_by}
use Rattle.questions.proofs.WellFormedLent.{checked_grammar_ok}
use Rattle.questions.proofs.WellFormedAccepted.{rules_length}
use Rattle.steps.specs.Leaves.{rule_leaves}
use Rattle.steps.proofs.LeafLoops.{left_all_is, left_next, left_none, rule_whole, rule_number, leaves_all}
use Rattle.steps.proofs.leaves.add_leaves.Goals as goal

pub loop-r-init : goal.loop-r-init
loop-r-init c =
    let s = c.args in (
      omega (arith, c.rule_count-r.ensures),
      refl,
      left_all_is s.chart.now
          _ (λ q. rule_leaves (grammar_of s.g.now.words.now) q) c.requires
          _ (rule_number s.g.now.words.now _ c.rule_count-r.ensures),
    )

pub add_rule-requires : goal.add_rule-requires
add_rule-requires c =
    let i = c.loop-r.invariant in
    (omega (arith, i.0, c.loop-r-test.true), i.2.fits)

pub loop-r-preserved : goal.loop-r-preserved
loop-r-preserved c =
    let s = c.args in
    let i = c.loop-r.invariant in (
      omega (arith, i.0),
      c.add_rule.auto.chart ∙ i.1,
      left_next s.chart.now _ (λ q. rule_leaves (grammar_of s.g.now.words.now) q) c.loop-r.chart
          _ c.loop-r.r _ (omega (arith, c.loop-r-test.true))
          (λ q l. rule_whole (grammar_of s.g.now.words.now) (checked_grammar_ok s.g.now.words.now c.args.g.now.fit) q
          (omega (arith, i.0, rules_length s.g.now.words.now))) i.2 c.add_rule.ensures,
    )

pub returns : goal.returns
returns c =
    let s = c.args in
    left_none s.chart.now _ (λ q. rule_leaves (grammar_of s.g.now.words.now) q) _ c.loop-r.r
    (omega (arith, c.loop-r-test.false)) c.loop-r.invariant.2 ∙ ap (grown_by s.chart.now)
    (sym (leaves_all (grammar_of s.g.now.words.now)))
