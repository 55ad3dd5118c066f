use Rattle.joins.proofs.GraphLaws.{SetsTo}
use Rattle.joins.proofs.graphs.edge_sets.Given as goal

abbrev pub invariant-loop-e : goal.invariant-loop-e
invariant-loop-e l = SetsTo l.t.grammar.words.now l.t.graph.now l.sets l.e
