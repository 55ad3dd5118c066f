use lib.Dec.{eqb}
use Rattle.questions.specs.Layout.{edge_node, graph_node}
use Rattle.preorder.specs.Replay.{rule_in}
use Rattle.replayer.specs.Fitting.{node_in}
use Rattle.replayer.proofs.NodeTests.{PassedTo}
use Rattle.replayer.proofs.fitting.nodes_fit.Given as goal

abbrev pub invariant-loop-k : goal.invariant-loop-k
invariant-loop-k l = PassedTo
    (λ k.
    eqb (graph_node l.row.tables.graph.now l.g k)
    (node_in l.row.fields.now (edge_node l.row.tables.grammar.words.now (rule_in l.row.fields.now) l.i k))) l.k
