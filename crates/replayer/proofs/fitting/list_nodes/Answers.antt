-- The places passed have the graph nodes of the edge, the others none.
use native.Mathlib.Omega.{arith}
use Rattle.replayer.proofs.EdgeTests.{edge_node_there, nodes_all}
use Rattle.replayer.proofs.fitting.list_nodes.Goals as goal

pub overflow_add-nodes : goal.overflow_add-nodes
overflow_add-nodes c = omega (
  arith,
  edge_node_there _ _ _ c.args.row.now.tables.fit c.args.row.now.sized _ c.requires.0
      _ c.edge_label.ensures _ c.rank_at-rank.ensures.0
      _ _ c.loop-k-test.true c.edge_node-x.ensures,
)

pub offset_bounds-row-x : goal.offset_bounds-row-x
offset_bounds-row-x c = omega (
  arith,
  edge_node_there _ _ _ c.args.row.now.tables.fit c.args.row.now.sized _ c.requires.0
      _ c.edge_label.ensures _ c.rank_at-rank.ensures.0
      _ _ c.loop-k-test.true c.edge_node-x.ensures,
)

pub bounds-row-x : goal.bounds-row-x
bounds-row-x c = omega (
  arith,
  edge_node_there _ _ _ c.args.row.now.tables.fit c.args.row.now.sized _ c.requires.0
      _ c.edge_label.ensures _ c.rank_at-rank.ensures.0
      _ _ c.loop-k-test.true c.edge_node-x.ensures,
)

pub returns : goal.returns
returns c = nodes_all _ _ _ c.args.row.now.tables.fit c.args.row.now.sized _ c.requires.0 _ c.edge_label.ensures
    _ c.rank_at-rank.ensures.0 _ _ (omega arith) c.loop-k-test.false c.loop-k.invariant
