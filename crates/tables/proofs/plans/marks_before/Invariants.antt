use Rattle.tables.specs.Plans.{Marked}
use Rattle.tables.proofs.plans.marks_before.Given as goal

abbrev pub invariant-loop-q : goal.invariant-loop-q
invariant-loop-q l = Marked l.g l.r l.q l.children l.introduced
