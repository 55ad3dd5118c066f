use Rattle.joins.proofs.GraphLaws.{GroupsTo}
use Rattle.joins.proofs.graphs.put_groups.Given as goal

abbrev pub invariant-loop-i : goal.invariant-loop-i
invariant-loop-i l = GroupsTo l.sets l.initial.words l.words l.i
