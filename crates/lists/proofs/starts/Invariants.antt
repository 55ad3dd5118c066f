use Rattle.std.proofs.Common.{◌≡◌, ℕ, ◌<◌, ◌≤◌, length, get_or}
use Rattle.lists.proofs.starts.Given as goal

abbrev pub invariant-loop-c : goal.invariant-loop-c
invariant-loop-c l =
    (length l.c-items ≡ 5)
    × ((k : ℕ) → k < l.c-index → get_or l.c-items k 0 ≡ get_or l.ws (get_or l.fn.query k 0) 0)
    × ((k : ℕ) → l.c-index ≤ k → get_or l.c-items k 0 ≡ get_or l.fn.query k 0)
