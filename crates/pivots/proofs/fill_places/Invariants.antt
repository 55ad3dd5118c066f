use Rattle.keys.specs.Keys.{Placed}
use Rattle.pivots.proofs.fill_places.Given as goal

abbrev pub invariant-loop-s : goal.invariant-loop-s
invariant-loop-s l = Placed l.initial.t l.s l.t
