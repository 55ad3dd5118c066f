-- The nodes of a graph edge are the first of its four places.
use mathlib.Core.Path.{ap, ◌∙◌}
use mathlib.Core.List.{List}
use Prim.Native.Nat.{ℕ}
use lib.ListN.{take}
use Rattle.hrg.specs.Trees.{padded}
use Rattle.hrg.specs.Items.{joined, attach}
use Rattle.questions.specs.Layout.{rank_at, rule_nodes, edge_label}
use Rattle.joins.specs.Joins.{edge_nodes}
use Rattle.joins.proofs.Known.{graph_edge_there}
use Rattle.joins.proofs.GraphLaws.{label_few}
use Rattle.extractor.proofs.PlaceLaws.{part_edge}
use Rattle.extractor.proofs.placing.place_edge.Goals as goal

pub graph_label_in-requires : goal.graph_label_in-requires
graph_label_in-requires c = graph_edge_there _ _ _ c.args.t.now.fit c.requires.1

pub rank_of-rank-requires : goal.rank_of-rank-requires
rank_of-rank-requires c =
    let fit = c.args.t.now.fit in
    (fit.grammar, label_few _ _ fit _ c.requires.1 _ c.graph_label_in.ensures)

pub nodes_of-nodes-requires : goal.nodes_of-nodes-requires
nodes_of-nodes-requires c = graph_edge_there _ _ _ c.args.t.now.fit c.requires.1

pub returns : goal.returns
returns c =
    let args = c.args in
    let known = c.requires.1 in
    let g = args.t.now.grammar.words.now in
    let n = rule_nodes g args.r in
    let nodes = edge_nodes g args.r args.i in
    let rank = rank_at g (edge_label g args.r args.i) in
    let label = c.graph_label_in.ensures in
    let ranked = c.rank_of-rank.ensures.0 ∙ ap (rank_at g) label in
    let four = c.nodes_of-nodes.ensures in
    let f = args.f.now in
    c.place_nodes.ensures
    ∙ ap
    (λ (l : List ℕ). padded (joined n f (attach n nodes (take rank l))))
    (part_edge g args.t.now.graph.now _ _ _ known ranked four)
