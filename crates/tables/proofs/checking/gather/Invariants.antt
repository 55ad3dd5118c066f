use Prim.Native.Nat.{◌+◌, ◌*◌}
use Rattle.tables.specs.Concluding.{Gathered}
use Rattle.tables.proofs.checking.gather.Given as goal

abbrev pub invariant-loop-i : goal.invariant-loop-i
invariant-loop-i l = Gathered l.t l.a (l.a + 16 * l.i) l.low ×
    Gathered l.t l.half (l.half + 16 * l.i) l.high
