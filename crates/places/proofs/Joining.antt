-- Two maps joined as words are two maps joined.
use mathlib.Core.Path.{◌≡◌, refl, ap, ap₂, ◌∙◌}
use mathlib.Core.Bool.{Bool, true, false, ◌&&◌, not, and_comm}
use mathlib.Core.List.{List}
use Prim.Native.Nat.{ℕ, ◌-◌, ◌≤◌, ◌<◌}
use native.Mathlib.Nat.{mod-eq_of_lt}
use native.Mathlib.Omega.{arith}
use lib.Bits.{bit_and, bit_xor, and_mask, and_zero_r, xor_lt}
use lib.Dec.{eqb}
use Rattle.masks.specs.Masks.{member}
use Rattle.hrg.specs.Counts.{tabulate}
use Rattle.hrg.specs.Trees.{unplaced, at}
use Rattle.hrg.specs.Items.{either, or_else, joined, keep_if}
use Rattle.hrg.specs.ClosureRun.{agree, one_to_one}
use Rattle.places.specs.Words.{word_by, places_of, Packed, none_word}
use Rattle.places.specs.Laws.{places_by}
use Rattle.places.specs.Swar.{bare_of, choose_of, once_of, agrees_of, spread_of, high_bits, all_bits}
use Rattle.places.proofs.Bytewise.{by_ext, full, nones, full_others, and_by, xor_by, bare_by, choose_by, apart, fitting, tests_by}
use Rattle.places.proofs.Spreading.{spread_by}
use Rattle.places.proofs.Reading.{word_at_lem}
use Rattle.places.proofs.Once.{every_both, agree_is, once_is}

either_le : (b : Bool) (x y : ℕ) → x ≤ 64 → y ≤ 64 → either b x y ≤ 64
either_le true x y h k = k
either_le false x y h k = h

either_kept : (b : Bool) (v : ℕ) → either b unplaced v ≡ keep_if b v
either_kept true v = refl
either_kept false v = refl

xor_small : (v : ℕ) → v ≤ 64 → bit_xor v 64 < 256
xor_small v h = omega (arith, xor_lt 7 v 64 (omega arith) (omega arith))

dropped_byte : (b : Bool) (v : ℕ) → v ≤ 64 → bit_and (bit_xor v 64) (255 - full b) ≡ bit_xor (keep_if (not b) v) 64
dropped_byte true v h = and_zero_r (bit_xor v 64)
dropped_byte false v h = and_mask (bit_xor v 64) 8 ∙ mod-eq_of_lt (xor_small v h)

kept_le : (b : Bool) (v : ℕ) → v ≤ 64 → keep_if b v ≤ 64
kept_le true v h = h
kept_le false v h = omega arith

module _ {f t : List ℕ} {a b : ℕ} (pf : Packed f a) (pt : Packed t b) (x : (i : ℕ) → at f i ≤ unplaced) (y : (i : ℕ) → at t i ≤ unplaced) where
  abbrev J : ℕ → ℕ
  J i = or_else (at f i) (at t i)

  low : (i : ℕ) → J i ≤ 64
  low i = either_le (eqb (at f i) 64) (at f i) (at t i) (x i) (y i)

  word_j : choose_of (bare_of a) b a ≡ word_by 8 J
  word_j =
      ap₂ (λ v w. choose_of (bare_of v) w v) (word_at_lem 64 pf) (word_at_lem 64 pt)
      ∙ ap (λ v. choose_of v (word_by 8 (λ i. at t i)) (word_by 8 (λ i. at f i))) (bare_by (λ i. at f i) x)
      ∙ choose_by (λ i. eqb (at f i) 64) (λ i. at t i) (λ i. at f i) (λ i. omega (arith, y i)) (λ i. omega (arith, x i))

  pub test_is : eqb (bit_and (once_of (choose_of (bare_of a) b a)) (agrees_of (choose_of (bare_of a) b a) b)) high_bits ≡ (agree 8 f t && one_to_one 64 (joined 8 f t))
  unfolding joined
  test_is =
      ap₂ (λ v w. eqb (bit_and (once_of v) (agrees_of v w)) high_bits) word_j (word_at_lem 64 pt)
      ∙ tests_by J (λ i. at t i) low y
      ∙ every_both 8 (apart J) (fitting J (λ i. at t i))
      ∙ ap₂ ◌&&◌ (once_is J low) (agree_is f t x y)
      ∙ and_comm (one_to_one 64 (joined 8 f t)) (agree 8 f t)

  module _ (stays : ℕ) where
    pub kept_is : places_of (choose_of (spread_of stays) (choose_of (bare_of a) b a) none_word) ≡ tabulate 8 (λ i. keep_if (member stays i) (J i))
    kept_is =
        ap places_of
        (ap₂ (λ v w. choose_of v w none_word) (spread_by stays) word_j
        ∙ ap (choose_of (word_by 8 (λ i. full (member stays i))) (word_by 8 J)) nones
        ∙ choose_by (λ i. member stays i) J (λ i. 64) (λ i. omega (arith, low i)) (λ i. omega arith)
        ∙ by_ext 8 (λ i. either_kept (member stays i) (J i)))
        ∙ places_by (λ i. keep_if (member stays i) (J i)) (λ i. omega (arith, kept_le (member stays i) (J i) (low i)))

    pub dropped_is : places_of (bit_and (bit_xor (choose_of (bare_of a) b a) none_word) (all_bits - spread_of stays)) ≡ tabulate 8 (λ i. bit_xor (keep_if (not (member stays i)) (J i)) 64)
    dropped_is =
        ap places_of
        (ap₂ bit_and (ap₂ bit_xor word_j nones ∙ xor_by (λ i. omega (arith, low i)) (λ i. omega arith)) (ap (λ v. all_bits - v) (spread_by stays) ∙ full_others (λ i. member stays i))
        ∙ and_by (λ i. xor_small (J i) (low i)) (λ i. omega arith)
        ∙ by_ext 8 (λ i. dropped_byte (member stays i) (J i) (low i)))
        ∙ places_by (λ i. bit_xor (keep_if (not (member stays i)) (J i)) 64) (λ i. xor_small (keep_if (not (member stays i)) (J i)) (kept_le (not (member stays i)) (J i) (low i)))
