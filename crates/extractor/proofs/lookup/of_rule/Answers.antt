-- An accepted table has its first line.
use native.Mathlib.Omega.{arith}
use Rattle.joins.proofs.Known.{grammar_long}
use Rattle.extractor.proofs.lookup.of_rule.Goals as goal

pub rule_count_in-requires : goal.rule_count_in-requires
rule_count_in-requires g c = omega (arith, grammar_long _ c.args.g.now.fit)
