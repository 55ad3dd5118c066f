-- A short table is refused; else by the first line, and by what is behind it.
use Rattle.questions.specs.Layout.{graph_words}
use Rattle.tables.proofs.OnePass.{graph_short, graph_is}
use Rattle.tables.proofs.Leading.{concludes_on, graph_edges_few, graph_no, graph_line_lem}
use Rattle.tables.proofs.checking.check_graph.Goals as goal

pub returns-then-t-lt-GRAPH_WORDS : goal.returns-then-t-lt-GRAPH_WORDS
returns-then-t-lt-GRAPH_WORDS c = graph_short _ _ c.if-t-lt-GRAPH_WORDS.true

pub returns-then-not-graph_stands : goal.returns-then-not-graph_stands
returns-then-not-graph_stands c = graph_is _ _ c.if-t-lt-GRAPH_WORDS.false
    _ (graph_no graph_words _ _ _ c.graph_stands.ensures c.if-not-graph_stands.true-raw)

pub check_graph_edges-requires : goal.check_graph_edges-requires
check_graph_edges-requires c = (
  c.if-t-lt-GRAPH_WORDS.false,
  graph_edges_few _ _ _ (c.graph_stands.ensures.yes c.if-not-graph_stands.false)
      c.graph_edges_in.ensures,
)

pub returns : goal.returns
returns c = graph_is _ _ c.if-t-lt-GRAPH_WORDS.false
    _ (concludes_on graph_words _ _ _ _ _ _ (graph_line_lem graph_words
    _ _ _ c.graph_stands.ensures c.if-not-graph_stands.false-raw)
    _ c.check_graph_edges.ensures)
