-- The edges passed have their sets.
use native.Mathlib.Omega.{arith}
use Rattle.joins.proofs.Touching.{listed_at}
use Rattle.joins.proofs.GraphLaws.{edge_few, sets_none, sets_next, sets_all}
use Rattle.joins.proofs.graphs.edge_sets.Goals as goal

pub loop-e-init : goal.loop-e-init
loop-e-init c = sets_none _ _

pub loop-e-preserved : goal.loop-e-preserved
loop-e-preserved c =
    sets_next _ _ _ _ _ _ _ (omega arith) (edge_few _ _ c.args.t.now.fit _ (omega arith)) c.graph_label.ensures c.rank_at-rank.ensures.0
    (listed_at _ _ _ _ _ _ c.graph_edge_place.ensures c.listed-on.ensures) c.loop-e.invariant

pub returns : goal.returns
returns c = sets_all _ _ _ _ _ c.graph_edges-n.ensures c.loop-e-test.false c.loop-e.invariant
