-- An unknown rule has no plan, a known one has that of its table lines.
use Rattle.joins.proofs.Known.{rule_there}
use Rattle.extractor.proofs.RuleLookup.{plan_counted}
use Rattle.extractor.proofs.lookup.plan_size.Goals as goal

pub of_rule-requires : goal.of_rule-requires
of_rule-requires c = rule_there _ _ c.args.g.now.fit

pub returns : goal.returns
returns c = plan_counted _ _ _ c.of_rule.ensures.known c.of_rule.ensures.unknown
