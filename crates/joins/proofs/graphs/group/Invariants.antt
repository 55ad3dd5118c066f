use Rattle.joins.proofs.GraphLaws.{GroupTo}
use Rattle.joins.proofs.graphs.group.Given as goal

abbrev pub invariant-loop-k : goal.invariant-loop-k
invariant-loop-k l = GroupTo l.sets l.i l.nodes l.k
