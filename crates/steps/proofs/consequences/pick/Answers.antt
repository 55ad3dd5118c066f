-- By the case.
use Rattle.steps.proofs.consequences.pick.Goals as goal

pub returns-then-lead : goal.returns-then-lead
returns-then-lead c = rw c.if-lead.true

pub returns : goal.returns
returns c = rw c.if-lead.false
