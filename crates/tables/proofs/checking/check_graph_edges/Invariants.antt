use Rattle.questions.specs.declared.Due.TheVariants.{GraphEdge}
use Rattle.questions.specs.Questions.{nodes_on_graph}
use Rattle.tables.proofs.EdgeLines.{Passed}
use Rattle.tables.proofs.checking.check_graph_edges.Given as goal

abbrev pub invariant-loop-e : goal.invariant-loop-e
invariant-loop-e l = Passed l.g l.t GraphEdge (nodes_on_graph l.g l.t) l.e l.mask
