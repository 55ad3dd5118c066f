-- The word of the label, and then of each place passed.
use native.Mathlib.Omega.{arith}
use Rattle.joins.proofs.GraphLaws.{label_few, node_few, marked_label, marked_place, marked_edge, place_in_lem}
use Rattle.joins.proofs.graphs.mark_edge.Goals as goal

pub loop-k-init : goal.loop-k-init
loop-k-init c = marked_label _ _ _ _ _ _ (label_few _ _ c.args.t.now.fit _ c.requires.0
    _ c.graph_label-label.ensures) c.graph_label-label.ensures
    c.with-w.ensures c.requires.1

pub loop-k-preserved : goal.loop-k-preserved
loop-k-preserved c = marked_place _ _ _ _ _ _ _ (omega (arith, c.rank_at-rank.ensures.1))
    (node_few _ _ c.args.t.now.fit _ c.requires.0 _ _ (place_in_lem
    _ _ _ _ _ _ c.graph_label-label.ensures c.rank_at-rank.ensures.0
    c.loop-k-test.true) c.graph_node.ensures)
    c.graph_node.ensures c.with-v.ensures c.loop-k.invariant

pub returns : goal.returns
returns c = marked_edge _ _ _ _ _ _ _ c.graph_label-label.ensures
    c.rank_at-rank.ensures.0 c.loop-k.auto.k-end c.loop-k-test.false c.loop-k.invariant
