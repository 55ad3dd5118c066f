-- The bits of a word: one set, one cleared, and the first that is set.
use Prim.Native.Nat.{ℕ, zero, suc, ◌-◌, ◌*◌, ◌/◌, ◌%◌, ◌^◌, ◌<◌, min}
use mathlib.Core.Path.{◌≡◌, refl, sym, ap, ◌∙◌}
use mathlib.Core.Bool.{Bool, true, false, ◌||◌, or-false}
use native.Mathlib.Nat.{div-one, one-mul, mod-eq_of_lt, pow-suc}
use native.Mathlib.Omega.{arith}
use lib.Bits.{bit_and, and_shr, and_step}
use lib.Count.{count_trailing_zeros, under}
use lib.Dec.{eqb}
use lib.Pow.{pow-lt, shr-shr}
use Rattle.masks.specs.Masks.{bit, member, ◌∪◌, single}
use Rattle.masks.proofs.Laws.{bit_le, bit_empty, member_true, true_member, false_member, member_union, bit_single_self, bit_single_other}

-- ---- the lowest bit, and the others
bit_first : (m : ℕ) → bit m 0 ≡ m % 2
unfolding bit
bit_first m = ap (λ k. k % 2) (div-one m)

bit_later : (m e : ℕ) → bit m (suc e) ≡ bit (m / 2) e
unfolding bit
bit_later m e = ap (λ k. k % 2) (ap (λ k. m / 2 ^ k) (omega arith) ∙ sym (shr-shr m 1 e))

-- ---- the first bit that is set
pub record First (d w t : ℕ) : Type 0 where
  pub within : t < d
  pub here : bit w t ≡ 1
  pub none : (e : ℕ) → e < t → bit w e ≡ 0

none_later : (w t : ℕ) → w % 2 ≡ 0 → ((e : ℕ) → e < t → bit (w / 2) e ≡ 0) → (e : ℕ) → e < suc t → bit w e ≡ 0
none_later w t h f zero l = bit_first w ∙ h
none_later w t h f (suc e) l = bit_later w e ∙ f e (omega arith)

first_by : (d w r t : ℕ) → w % 2 ≡ r → (r ≡ 0 → First d (w / 2) t) → First (suc d) w (under r t)
first_by d w zero t h f =
    let F = f refl in
    record { within = omega (arith, F.within); here = bit_later w t ∙ F.here; none = none_later w t h F.none }
first_by d w (suc r) t h f = record { within = omega arith; here = bit_first w ∙ omega arith; none = λ e l. absurd (omega arith) }

pub first_bit : (d w : ℕ) → 0 < w → w < 2 ^ d → First d w (count_trailing_zeros d w)
unfolding count_trailing_zeros
first_bit zero w h l = absurd (omega arith)
first_bit (suc d) w h l =
    first_by d w (w % 2) (count_trailing_zeros d (w / 2)) refl (λ z. first_bit d (w / 2) (omega arith) (omega (arith, pow-suc 2 d)))

-- ---- a bit is set
pub set_self : (w k : ℕ) → member (w ∪ single k) k ≡ true
set_self w k = member_union w (single k) k ∙ ap (λ (t : Bool). member w k || t) (true_member (single k) k (bit_single_self k)) ∙ or_true (member w k)
  where
    or_true : (t : Bool) → (t || true) ≡ true
    or_true true = refl
    or_true false = refl

pub set_other : (w k e : ℕ) → (e ≡ k → ⊥) → member (w ∪ single k) e ≡ member w e
set_other w k e n = member_union w (single k) e ∙ ap (λ (t : Bool). member w e || t) (false_member (single k) e (bit_single_other k e n)) ∙ or-false (member w e)

-- as the machine makes it, by a shift
pub shifted : (e : ℕ) → e < 32 → 1 * 2 ^ e % 2 ^ 32 ≡ single e
unfolding single
shifted e h = rw (one-mul, mod-eq_of_lt (pow-lt h))

-- ---- a bit is cleared
bit_and_lem : (a b e : ℕ) → bit (bit_and a b) e ≡ min (bit a e) (bit b e)
unfolding bit
bit_and_lem a b e = rw and_shr (omega (arith, and_step (a / 2 ^ e) (b / 2 ^ e)))

bit_not : (n x e : ℕ) → x < 2 ^ n → e < n → bit (2 ^ n - 1 - x) e ≡ 1 - bit x e
bit_not zero x e h l = absurd (omega arith)
bit_not (suc n) x zero h l = bit_first (2 ^ suc n - 1 - x) ∙ omega (arith, pow-suc 2 n, bit_first x)
bit_not (suc n) x (suc e) h l =
    bit_later (2 ^ suc n - 1 - x) e ∙ ap (λ m. bit m e) (let q : (2 ^ suc n - 1 - x) / 2 ≡ 2 ^ n - 1 - x / 2 = omega (arith, pow-suc 2 n) in q) ∙ bit_not n (x / 2) e (omega (arith, pow-suc 2 n)) (omega arith)
    ∙ ap (λ m. 1 - m) (sym (bit_later x e))

cleared_bit : (w k e : ℕ) → k < 32 → e < 32 → bit (bit_and w (4294967295 - single k)) e ≡ min (bit w e) (1 - bit (single k) e)
unfolding single
cleared_bit w k e h l = bit_and_lem w (4294967295 - 2 ^ k) e ∙ ap (λ m. min (bit w e) m) (bit_not 32 (2 ^ k) e (pow-lt h) l)

pub clear_self : (w k : ℕ) → k < 32 → member (bit_and w (4294967295 - single k)) k ≡ false
clear_self w k h = false_member _ k (cleared_bit w k k h h ∙ omega (arith, bit_single_self k))

pub clear_other : (w k e : ℕ) → k < 32 → e < 32 → (e ≡ k → ⊥) → member (bit_and w (4294967295 - single k)) e ≡ member w e
unfolding member
clear_other w k e h l n = ap (λ m. eqb m 1) (cleared_bit w k e h l ∙ (let z : min (bit w e) (1 - bit (single k) e) ≡ bit w e = omega (arith, bit_single_other k e n, bit_le w e) in z))

-- ---- no bits
pub member_none : (e : ℕ) → member 0 e ≡ false
member_none e = false_member 0 e (bit_empty e)

pub member_some : (w e : ℕ) → member w e ≡ true → 0 < w
member_some zero e h = absurd (omega (arith, member_true 0 e h, bit_empty e))
member_some (suc w) e h = omega arith
