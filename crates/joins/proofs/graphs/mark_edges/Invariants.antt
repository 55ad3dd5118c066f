use Rattle.joins.specs.Graphs.{Indexed}
use Rattle.joins.proofs.graphs.mark_edges.Given as goal

abbrev pub invariant-loop-e : goal.invariant-loop-e
invariant-loop-e l = Indexed l.t.grammar.words.now l.t.graph.now l.words l.e
