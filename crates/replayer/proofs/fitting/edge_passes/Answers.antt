-- The tests in their order, by a law each.
use Rattle.replayer.proofs.EdgeTests.{edge_unknown, edge_label_no, edge_nodes_no, edge_new}
use Rattle.replayer.proofs.fitting.edge_passes.Goals as goal

pub returns-then-graph_edges-g : goal.returns-then-graph_edges-g
returns-then-graph_edges-g c = edge_unknown _ _ _ c.args.row.now.tables.fit
    c.args.row.now.sized _ c.requires
    _ c.args.used _ c.graph_edges.ensures c.if-graph_edges-g.true

pub returns-then-graph_label-label : goal.returns-then-graph_label-label
returns-then-graph_label-label c = edge_label_no _ _ _ c.args.row.now.tables.fit
    c.args.row.now.sized _ c.requires _ c.args.used
    _ c.graph_edges.ensures c.if-graph_edges-g.false _ c.edge_label-label.ensures
    _ c.graph_label.ensures c.if-graph_label-label.true

pub returns-then-not-nodes_fit : goal.returns-then-not-nodes_fit
returns-then-not-nodes_fit c = edge_nodes_no _ _ _ c.args.row.now.tables.fit
    c.args.row.now.sized _ c.requires _ c.args.used
    _ c.graph_edges.ensures c.if-graph_edges-g.false _ c.edge_label-label.ensures
    _ c.graph_label.ensures c.if-graph_label-label.false _ c.nodes_fit.ensures
    c.if-not-nodes_fit.true

pub returns : goal.returns
returns c = edge_new _ _ _ c.args.row.now.tables.fit c.args.row.now.sized _ c.requires _ c.args.used
    _ c.graph_edges.ensures c.if-graph_edges-g.false _ c.edge_label-label.ensures
    _ c.graph_label.ensures c.if-graph_label-label.false _ c.nodes_fit.ensures
    c.if-not-nodes_fit.false _ c.has.ensures
