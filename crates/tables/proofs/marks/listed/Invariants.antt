use Rattle.tables.proofs.Listing.{Looked}
use Rattle.tables.proofs.marks.listed.Given as goal

abbrev pub invariant-loop-k : goal.invariant-loop-k
invariant-loop-k l = Looked l.nodes l.f l.from l.seen l.k
