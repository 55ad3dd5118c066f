-- A list copied over the front of another, one number a turn.
use Rattle.std.specs.Prelude.{◌≡◌, List, ◌++◌, ℕ, suc, ◌+◌, ◌≤◌, ◌<◌, length, get_or, take, drop, set}
use Rattle.std.proofs.Common.{sym, ◌∙◌, arith, add-one, take-suc, drop-cons, length-take-le}
use Rattle.std.proofs.Math.Seq.{take-length, append_snoc}
use Rattle.std.proofs.lemmas.List.{set_at}

pub copy_more : (from former to : List ℕ) (i : ℕ) → i < length from → i < length former → to ≡ take i from ++ drop i former
    → set to i (get_or from i 0) ≡ take (i + 1) from ++ drop (i + 1) former
copy_more from former to i h l p =
    rw (p, drop-cons former i 0 l, add-one, take-suc from i 0 h)
    (set_at (take i from) (get_or former i 0) (drop (suc i) former) (get_or from i 0) i (length-take-le i from (omega arith)) ∙ sym (append_snoc (take i from) (get_or from i 0) (drop (suc i) former)))

pub copy_done : (from former to : List ℕ) (i : ℕ) → i ≤ length from → length from ≤ i → to ≡ take i from ++ drop i former
    → to ≡ from ++ drop (length from) former
copy_done from former to i l m p =
    let end : i ≡ length from = omega arith in
    p ∙ rw (end, take-length from)
