use Prim.Native.Nat.{ℕ, ◌≤◌, ◌<◌}
use Rattle.format.specs.Fields.{number_of}
use Rattle.lines.proofs.all_numbers.Given as goal

abbrev pub invariant-loop-k : goal.invariant-loop-k
invariant-loop-k l = (i : ℕ) → i < l.k → number_of l.line i ≤ 9999
