-- By the kind of the item.
use Rattle.pivots.proofs.Answers.{uses_active, uses_passive}
use Rattle.pivots.proofs.uses_of.Goals as goal

pub returns-then-x-eq0 : goal.returns-then-x-eq0
returns-then-x-eq0 c = uses_active _ _ c.if-x-eq0.true

pub returns : goal.returns
returns c = uses_passive _ _ _ c.if-x-eq0.false c.symbol_word.ensures.0
