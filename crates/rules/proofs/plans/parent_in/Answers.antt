-- Past either end nothing is above; the others stand in the table, with the word 0 where nothing is.
use Rattle.rules.proofs.PlanLaws.{parent_far, parent_past}
use Rattle.rules.proofs.plans.parent_in.Goals as goal

pub returns-then-r-ge64 : goal.returns-then-r-ge64
returns-then-r-ge64 c = parent_far _ c.args.g.now.grammar.fit _ _ c.if-r-ge64.true

pub returns-then-p-ge-PER_RULE : goal.returns-then-p-ge-PER_RULE
returns-then-p-ge-PER_RULE c = parent_past _ c.args.g.now.grammar.fit _ _ c.if-p-ge-PER_RULE.true
