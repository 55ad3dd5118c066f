use Rattle.tables.specs.Marks.{nodes_at}
use Rattle.tables.proofs.Covering.{Sought}
use Rattle.tables.proofs.marks.distinct.Given as goal

abbrev pub invariant-loop-k : goal.invariant-loop-k
invariant-loop-k l = Sought l.nodes (nodes_at l.t l.p l.n) l.seen l.k
