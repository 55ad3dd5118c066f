use Rattle.joins.proofs.GraphLaws.{MarkedTo}
use Rattle.joins.proofs.graphs.mark_edge.Given as goal

abbrev pub invariant-loop-k : goal.invariant-loop-k
invariant-loop-k l = MarkedTo l.t.grammar.words.now l.t.graph.now l.words l.e l.k
