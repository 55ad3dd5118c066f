-- What is left to add gives all the leaf items of the rule.
use native.Mathlib.Omega.{arith}
use mathlib.Core.Path.{refl, ◌∙◌}
use Rattle.questions.specs.Abstract.{grammar_of}
use Rattle.questions.proofs.WellFormedLent.{checked_grammar_ok}
use Rattle.questions.proofs.WellFormedAccepted.{rules_length}
use Rattle.joins.proofs.Known.{plan_size}
use Rattle.steps.specs.Leaves.{leaf_record}
use Rattle.steps.proofs.LeafLoops.{left_all_is, left_next, left_none, leaf_whole, rule_plan_lem, leaves_rule}
use Rattle.steps.proofs.leaves.add_rule.Goals as goal

pub loop-p-init : goal.loop-p-init
loop-p-init c =
    let s = c.args in
    let pre = c.requires in (
      omega (arith, c.rule_plan-p.ensures),
      refl,
      left_all_is s.chart.now
          _ (λ q. leaf_record (grammar_of s.g.now.words.now) s.r q) pre.1
          _ (rule_plan_lem s.g.now.words.now s.r _ s.g.now.fit pre.0 c.rule_plan-p.ensures),
    )

pub add_leaf-requires : goal.add_leaf-requires
add_leaf-requires c =
    let i = c.loop-p.invariant in (
      record {
        grammar = c.args.g.now.fit;
        rule = c.requires.0;
        node = omega (arith, i.0, c.loop-p-test.true);
      },
      i.2.fits,
    )

pub loop-p-preserved : goal.loop-p-preserved
loop-p-preserved c =
    let s = c.args in
    let i = c.loop-p.invariant in (
      omega (arith, i.0),
      c.add_leaf.auto.chart ∙ i.1,
      left_next s.chart.now _ (λ q. leaf_record (grammar_of s.g.now.words.now) s.r q) c.loop-p.chart
          _ c.loop-p.p _ (omega (arith, c.loop-p-test.true))
          (λ q l. leaf_whole (grammar_of s.g.now.words.now) (checked_grammar_ok s.g.now.words.now c.args.g.now.fit) s.r
          (omega (arith, c.requires.0, rules_length s.g.now.words.now)) q
          (omega (arith, i.0, plan_size s.g.now.words.now s.r c.args.g.now.fit c.requires.0))) i.2
          c.add_leaf.ensures,
    )

pub returns : goal.returns
returns c =
    let s = c.args in
    leaves_rule (grammar_of s.g.now.words.now) s.r s.chart.now
    _ (left_none s.chart.now _ (λ q. leaf_record (grammar_of s.g.now.words.now) s.r q) _ c.loop-p.p
    (omega (arith, c.loop-p-test.false)) c.loop-p.invariant.2)
