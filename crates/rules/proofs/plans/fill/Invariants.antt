use Prim.Native.Nat.{ℕ, ◌<◌}
use lib.ListN.{get_or}
use Rattle.rules.specs.Filling.{ToldTo}
use Rattle.rules.proofs.plans.fill.Given as goal

abbrev pub invariant-loop-r : goal.invariant-loop-r
invariant-loop-r l = ToldTo l.g.words.now l.t l.r 0 × ((k : ℕ) → get_or l.t k 0 < 4294967296)
