-- The tests of the set and of the nodes that the item shows.
use Rattle.rules.proofs.CoverageLaws.{covering_none, covering_all}
use Rattle.rules.proofs.coverage.covers.Goals as goal

pub returns-then-x-eq0 : goal.returns-then-x-eq0
returns-then-x-eq0 c = λ _. covering_none _ _ _ c.if-x-eq0.true

pub returns : goal.returns
returns c = covering_all _ _ _ _ _ c.open_in-nodes.ensures c.shown.ensures
