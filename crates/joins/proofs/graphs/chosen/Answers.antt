-- A choice by a test.
use Rattle.joins.proofs.GraphLaws.{chosen_out}
use Rattle.joins.proofs.graphs.chosen.Goals as goal

pub returns-else-has : goal.returns-else-has
returns-else-has c = chosen_out _ _ _ _ c.has.ensures c.if-has.false
