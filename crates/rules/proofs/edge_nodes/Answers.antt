-- The places passed have the edge's nodes, the others none.
use native.Mathlib.Omega.{arith}
use Prim.Native.Nat.{◌<◌}
use mathlib.Core.Path.{ap, ◌∙◌}
use Rattle.questions.specs.Layout.{rank_at, graph_label}
use Rattle.joins.proofs.GraphLaws.{label_few, node_few}
use Rattle.joins.proofs.MapLaws.{placed_bare}
use Rattle.rules.proofs.Inside.{graph_edge_inside}
use Rattle.rules.proofs.NodeLists.{edge_all}
use Rattle.rules.proofs.edge_nodes.Goals as goal

pub graph_label_in-requires : goal.graph_label_in-requires
graph_label_in-requires c = graph_edge_inside _ _ _ c.args.t.now.fit c.requires

pub rank_of-rank-requires : goal.rank_of-rank-requires
rank_of-rank-requires c = (
  c.args.t.now.fit.grammar,
  label_few _ _ c.args.t.now.fit _ c.requires
      _ c.graph_label_in.ensures,
)

pub loop-k-init : goal.loop-k-init
loop-k-init c = (
  c.rank_of-rank.ensures.0 ∙ ap (rank_at c.args.t.now.grammar.words.now)
      c.graph_label_in.ensures,
  placed_bare _,
)

pub graph_node_in-requires : goal.graph_node_in-requires
graph_node_in-requires c = (
  graph_edge_inside _ _ _ c.args.t.now.fit c.requires,
  omega (arith, c.rank_of-rank.ensures.1, c.loop-k-test.true),
)

pub with_node-l-requires : goal.with_node-l-requires
with_node-l-requires c =
    let inside : c.loop-k.k < rank_at c.args.t.now.grammar.words.now
    (graph_label c.args.t.now.graph.now c.args.e) = omega (
      arith,
      c.loop-k.invariant.0,
      c.loop-k-test.true,
    ) in (
      omega (arith, c.rank_of-rank.ensures.1, c.loop-k-test.true),
      omega (arith, node_few _ _ c.args.t.now.fit _ c.requires _ _ inside c.graph_node_in.ensures),
    )

pub returns : goal.returns
returns c = c.nodes_of.ensures ∙ edge_all _ _ _ c.requires _ _ (omega (arith, c.loop-k.invariant.0))
    (omega (arith, c.loop-k.invariant.0, c.loop-k-test.false)) c.loop-k.invariant.1
