-- One test of the definition after the other.
use Rattle.rules.proofs.WantLaws.{by_none, by_edge, by_child}
use Rattle.rules.proofs.wants.wanted.Goals as goal

pub returns-then-w-ge-PER_RULE : goal.returns-then-w-ge-PER_RULE
returns-then-w-ge-PER_RULE c = by_none _ c.if-w-ge-PER_RULE.true

pub returns-then-rest-eq-ASKS_EDGE : goal.returns-then-rest-eq-ASKS_EDGE
returns-then-rest-eq-ASKS_EDGE c = by_edge _ c.if-w-ge-PER_RULE.false c.if-rest-eq-ASKS_EDGE.true

pub returns : goal.returns
returns c = by_child _ c.if-w-ge-PER_RULE.false c.if-rest-eq-ASKS_EDGE.false
