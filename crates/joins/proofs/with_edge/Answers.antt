-- A choice by a test.
use Rattle.masks.specs.Masks.{◌∪◌}
use Rattle.joins.proofs.with_edge.Goals as goal

pub returns-then-here : goal.returns-then-here
unfolding ◌∪◌
returns-then-here c = rw c.if-here.true

pub returns-else-here : goal.returns-else-here
unfolding ◌∪◌
returns-else-here c = rw c.if-here.false
