-- By the kind of the item; where the rule, the plan node or the symbol is unknown the set is empty.
use Rattle.rules.proofs.CoverageLaws.{known_by, known_few, shown_none}
use Rattle.rules.proofs.coverage.shown.Goals as goal

pub returns-then-of-ge64 : goal.returns-then-of-ge64
returns-then-of-ge64 c = shown_none _ _

pub returns-then-of-rule_count : goal.returns-then-of-rule_count
returns-then-of-rule_count c = shown_none _ _

pub returns-then-p-rule_plan : goal.returns-then-p-rule_plan
returns-then-p-rule_plan c = shown_none _ _

pub images-requires-2 : goal.images-requires-2
images-requires-2 c =
    let rules = c.rule_count.ensures in
    let rule = c.if-of-rule_count.false in
    let known = known_by _ _ _ _ _ c.args.g.now.grammar.fit rules rule c.rule_plan.ensures c.if-p-rule_plan.false in
    known_few _ _ _ _ known c.rule_nodes.ensures
