-- One group more: there are at most 64 edges, and so at most 256 words of groups.
use native.Mathlib.Omega.{arith}
use Rattle.joins.proofs.Known.{graph_edges_few}
use Rattle.joins.proofs.GraphLaws.{groups_next}
use Rattle.joins.proofs.graphs.put_groups.Goals as goal

pub loop-i-preserved : goal.loop-i-preserved
loop-i-preserved c = groups_next _ _ _ _ _ (omega (arith, graph_edges_few _ _ c.args.t.now.fit))
    c.group-m.ensures c.loop-i.invariant
