use Rattle.tables.proofs.LineFields.{Copied}
use Rattle.tables.proofs.checking.fields_into.Given as goal

abbrev pub invariant-loop-k : goal.invariant-loop-k
invariant-loop-k l = Copied l.t l.p l.f l.k
