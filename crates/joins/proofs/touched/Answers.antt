-- The nodes of the groups passed, on edges of the set and on others.
use native.Mathlib.Omega.{arith}
use Rattle.joins.proofs.Known.{graph_edges_few}
use Rattle.joins.proofs.GraphLaws.{touched_none, touched_next, touched_all}
use Rattle.joins.proofs.touched.Goals as goal

pub loop-b-init : goal.loop-b-init
loop-b-init c = (graph_edges_few _ _ c.args.t.now.fit, touched_none _ _ _)

pub loop-b-preserved : goal.loop-b-preserved
loop-b-preserved c = (c.loop-b.invariant.0, touched_next _ _ _ c.requires _ _ _ _ _ (omega arith) c.loop-b.invariant.1)

pub returns : goal.returns
returns c = touched_all _ _ _ _ _ _ _ _ c.graph_edges.ensures (omega arith) c.loop-b.invariant.1
