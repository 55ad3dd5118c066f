use Rattle.joins.specs.Joins.{SidesOf}
use Rattle.joins.proofs.nodes_by.Given as goal

abbrev pub invariant-loop-i : goal.invariant-loop-i
invariant-loop-i l = SidesOf l.g l.t l.base l.i l.m l.s
