-- The nodes passed are the same.
use native.Mathlib.Omega.{arith}
use Rattle.replayer.proofs.EdgeTests.{edge_node_there, nodes_no, nodes_same}
use Rattle.replayer.proofs.fitting.nodes_fit.Goals as goal

pub overflow_add-x : goal.overflow_add-x
overflow_add-x c = omega (
  arith,
  edge_node_there _ _ _ c.args.row.now.tables.fit c.args.row.now.sized _ c.requires.0
      _ c.edge_label.ensures _ c.rank_at-rank.ensures.0
      _ _ c.loop-k-test.true c.edge_node-x.ensures,
)

pub offset_bounds-row-x : goal.offset_bounds-row-x
offset_bounds-row-x c = omega (
  arith,
  edge_node_there _ _ _ c.args.row.now.tables.fit c.args.row.now.sized _ c.requires.0
      _ c.edge_label.ensures _ c.rank_at-rank.ensures.0
      _ _ c.loop-k-test.true c.edge_node-x.ensures,
)

pub bounds-row-x : goal.bounds-row-x
bounds-row-x c = omega (
  arith,
  edge_node_there _ _ _ c.args.row.now.tables.fit c.args.row.now.sized _ c.requires.0
      _ c.edge_label.ensures _ c.rank_at-rank.ensures.0
      _ _ c.loop-k-test.true c.edge_node-x.ensures,
)

pub returns-then-graph_node-row : goal.returns-then-graph_node-row
returns-then-graph_node-row c = nodes_no _ _ _ c.args.row.now.tables.fit c.args.row.now.sized
    _ c.requires.0 _ c.edge_label.ensures
    _ c.rank_at-rank.ensures.0 _ c.requires.1 c.requires.2
    _ _ _ c.loop-k-test.true c.edge_node-x.ensures
    c.graph_node.ensures c.if-graph_node-row.true

pub returns : goal.returns
returns c = nodes_same _ _ _ c.args.row.now.tables.fit c.args.row.now.sized _ c.requires.0 _ c.edge_label.ensures
    _ c.rank_at-rank.ensures.0 _ c.requires.1 c.requires.2 _ c.loop-k-test.false
    c.loop-k.invariant
