-- By the kind: one child, two, or none.
use Rattle.tables.proofs.Planning.{marks_one, marks_two, marks_none}
use Rattle.tables.proofs.plans.mark_children.Goals as goal

pub returns-in-1 : goal.returns-in-1
returns-in-1 c = marks_one _ _ _ _ _ c.in-1.is c.with.ensures

pub returns-in-2 : goal.returns-in-2
returns-in-2 c = marks_two _ _ _ _ _ _ c.in-2.is c.with-in-2.ensures c.with-in-2-2.ensures

pub returns-in_default : goal.returns-in_default
returns-in_default c = marks_none _ _ _ _ c.in_default.in_default-own.rest.0.1 c.in_default.in_default-own.rest.1
