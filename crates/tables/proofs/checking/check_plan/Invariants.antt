use Rattle.tables.specs.Plans.{Marked}
use Rattle.tables.proofs.Carrying.{Passed}
use Rattle.tables.proofs.checking.check_plan.Given as goal

abbrev pub invariant-loop-q : goal.invariant-loop-q
invariant-loop-q l = Marked l.t l.r l.q l.named.children l.named.introduced × Passed l.t l.r l.n l.q
