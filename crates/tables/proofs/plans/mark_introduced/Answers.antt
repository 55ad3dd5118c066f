-- By the kind: one edge or none.
use Rattle.tables.proofs.Planning.{marks_edge, marks_no_edge}
use Rattle.tables.proofs.plans.mark_introduced.Goals as goal

pub returns-in-1 : goal.returns-in-1
returns-in-1 c = marks_edge _ _ _ _ _ c.in-1.is c.with.ensures

pub returns-in_default : goal.returns-in_default
returns-in_default c = marks_no_edge _ _ _ _ c.in_default.in_default-own.rest.1
