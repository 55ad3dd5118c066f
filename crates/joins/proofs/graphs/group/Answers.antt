-- The four edges one by one.
use Rattle.joins.proofs.GraphLaws.{group_none, group_next, group_all}
use Rattle.joins.proofs.graphs.group.Goals as goal

pub loop-k-init : goal.loop-k-init
loop-k-init c = group_none _ _

pub loop-k-preserved : goal.loop-k-preserved
loop-k-preserved c = group_next _ _ _ _ _ c.chosen-nodes.ensures c.loop-k.invariant

pub returns : goal.returns
returns c = group_all _ _ _ _ c.loop-k.auto.k-end c.loop-k-test.false c.loop-k.invariant
