-- From the last node on: the rest of the edge is put over the map.
use native.Mathlib.Omega.{arith}
use Rattle.joins.proofs.Known.{edge_there}
use Rattle.joins.proofs.EdgeMaps.{edge_label_few}
use Rattle.extractor.proofs.PlaceLaws.{node_few, placing_start, placing_put, placing_kept}
use Rattle.extractor.proofs.PlaceLaws.{placing_done}
use Rattle.extractor.proofs.placing.place_nodes.Goals as goal

pub edge_label_in-requires : goal.edge_label_in-requires
edge_label_in-requires c = edge_there _ _ _ c.requires.0

pub rank_of-rank-requires : goal.rank_of-rank-requires
rank_of-rank-requires c =
    let known = c.requires.0 in
    (known.grammar, omega (arith, c.edge_label_in.ensures, edge_label_few _ _ _ known))

pub loop-k-init : goal.loop-k-init
loop-k-init c =
    let pre = c.requires in
    let label = c.edge_label_in.ensures in
    let rank = c.rank_of-rank.ensures.0 in
    placing_start _ _ _ pre.0 _ _ c.told-f _ _ _ label rank c.min-k.ensures

pub edge_node_in-x-requires : goal.edge_node_in-x-requires
edge_node_in-x-requires c =
    let known = c.requires.0 in
    let rank = c.rank_of-rank.ensures in
    let low = c.loop-k.invariant.low in
    (edge_there _ _ _ known, omega (arith, rank, low, c.loop-k-test.true))

pub offset_bounds-f-x : goal.offset_bounds-f-x
offset_bounds-f-x c =
    let pre = c.requires in
    let before = c.loop-k.invariant in
    let some = c.loop-k-test.true in
    let node = c.edge_node_in-x.ensures in
    let few = node_few _ _ _ pre.0 _ _ c.told-f _ _ _ some before node in
    omega (arith, few)

pub bounds-f-x : goal.bounds-f-x
bounds-f-x c =
    let pre = c.requires in
    let before = c.loop-k.invariant in
    let some = c.loop-k-test.true in
    let node = c.edge_node_in-x.ensures in
    let few = node_few _ _ _ pre.0 _ _ c.told-f _ _ _ some before node in
    omega (arith, before.merged.size, few)

pub loop-k-preserved-then-f-x-eq64 : goal.loop-k-preserved-then-f-x-eq64
loop-k-preserved-then-f-x-eq64 c =
    let pre = c.requires in
    let before = c.loop-k.invariant in
    let some = c.loop-k-test.true in
    let node = c.edge_node_in-x.ensures in
    placing_put _ _ _ pre.0 _ _ c.told-f _ _ _ some before node c.if-f-x-eq64.true

pub loop-k-preserved : goal.loop-k-preserved
loop-k-preserved c =
    let pre = c.requires in
    let before = c.loop-k.invariant in
    let some = c.loop-k-test.true in
    let node = c.edge_node_in-x.ensures in
    placing_kept _ _ _ pre.0 _ _ c.told-f _ _ _ some before node c.if-f-x-eq64.false

pub returns : goal.returns
returns c =
    let pre = c.requires in
    placing_done _ _ _ pre.0 _ _ c.told-f _ _ pre.1 c.loop-k-test.false c.loop-k.invariant
