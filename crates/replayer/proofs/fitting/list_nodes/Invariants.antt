use Rattle.questions.specs.Layout.{edge_node}
use Rattle.preorder.specs.Replay.{rule_in}
use Rattle.replayer.specs.Fitting.{node_in}
use Rattle.replayer.proofs.NodeTests.{Placed}
use Rattle.replayer.proofs.fitting.list_nodes.Given as goal

abbrev pub invariant-loop-k : goal.invariant-loop-k
invariant-loop-k l = Placed
    (λ k. node_in l.row.fields.now (edge_node l.row.tables.grammar.words.now (rule_in l.row.fields.now) l.i k))
    l.k l.nodes
