-- A `match` on the plan node's kind: a law for each way.
use native.Mathlib.Omega.{arith}
use Rattle.questions.proofs.WellFormedLent.{checked_grammar_ok}
use Rattle.questions.proofs.WellFormedAccepted.{rules_length}
use Rattle.joins.proofs.Known.{plan_size, rule_ok}
use Rattle.steps.proofs.LeafLoops.{leaf_added, leaf_skipped}
use Rattle.steps.proofs.leaves.add_leaf.Goals as goal

pub returns-in-0 : goal.returns-in-0
returns-in-0 c = leaf_added _ _ _ _ c.requires.0 c.plan_kind.ensures _ _ _ _ c.requires.1
    c.in-0.is c.leaf.ensures c.new_record.ensures
    c.add.ensures

pub returns-in_default : goal.returns-in_default
returns-in_default c = leaf_skipped _ _ _ _ c.requires.0 c.plan_kind.ensures
    _ c.requires.1 c.in_default.in_default-own.rest.1

pub leaf-requires : goal.leaf-requires
leaf-requires c =
    let known = c.requires.0 in
    let ok = checked_grammar_ok _ known.grammar in (
      omega (
        arith,
        known.rule,
        rules_length c.args.g.now,
        ok.rule_count_is.upper,
      ),
      omega (
        arith,
        known.node,
        plan_size _ _ known.grammar known.rule,
        (rule_ok _ _ known.grammar known.rule).plan.size.upper,
      ),
    )
