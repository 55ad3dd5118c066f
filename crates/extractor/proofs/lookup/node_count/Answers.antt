-- An unknown rule has no node, a known one has those of its table line.
use Rattle.joins.proofs.Known.{rule_there}
use Rattle.extractor.proofs.RuleLookup.{nodes_counted}
use Rattle.extractor.proofs.lookup.node_count.Goals as goal

pub of_rule-requires : goal.of_rule-requires
of_rule-requires c = rule_there _ _ c.args.g.now.fit

pub returns : goal.returns
returns c = nodes_counted _ _ _ c.args.g.now.fit c.of_rule.ensures.known c.of_rule.ensures.unknown
