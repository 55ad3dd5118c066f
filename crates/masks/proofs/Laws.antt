-- The laws of masks, member by member: what other crates cite.
use Rattle.std.specs.Prelude.{ℕ, zero, suc, ◌+◌, ◌-◌, ◌*◌, ◌/◌, ◌%◌, ◌^◌, ◌≤◌, ◌<◌, min, max, ◌≡◌, refl, Bool, true, false, ◌||◌, ◌&&◌, T, eqb, ltb}
use Rattle.std.proofs.Common.{sym, ap, ◌∙◌, div-one, lt_of_lt_of_le, mod-eq_of_lt, one-mul, pow-suc, arith, eqb→eq, pow_pos, pow_mono, shr-shr, eqb-true, eq-eqb, ne_eqb, ltb-true, ltb-false}
use Rattle.std.proofs.Math.Nat.{zero-div, div_self, div-eq_of_lt}
use Rattle.std.proofs.Math.Decide.{dec_lt}
use Rattle.std.proofs.Math.Arith.{bin_ind, dbl_pred}
use Rattle.std.specs.Int.Bits.{bit_and, or_step, and_step}
use Rattle.std.proofs.lemmas.Nat.{or_shr, and_shr, or_lt}
use Rattle.std.proofs.Math.Dec.{eqb_refl}
use Rattle.std.proofs.Math.Pow.{pow-lt, ones_lt}
use Rattle.std.proofs.lemmas.Bool.{eqb-false}
use Rattle.masks.specs.Masks.{bit, member, ◌∪◌, Apart, disjoint, single, full, Subset, within, of_bits}

-- ---- a bit and a member
pub bit_le : (m e : ℕ) → bit m e ≤ 1
unfolding bit
bit_le m e = omega arith

pub member_true : (m e : ℕ) → member m e ≡ true → bit m e ≡ 1
unfolding member
member_true m e h = eqb-true (bit m e) 1 h

pub true_member : (m e : ℕ) → bit m e ≡ 1 → member m e ≡ true
unfolding member
true_member m e h = eq-eqb (bit m e) 1 h

pub member_false : (m e : ℕ) → member m e ≡ false → bit m e ≡ 0
unfolding member
member_false m e h =
    let other : bit m e ≡ 1 → ⊥ = eqb-false (bit m e) 1 h in
    omega (arith, bit_le m e)

pub false_member : (m e : ℕ) → bit m e ≡ 0 → member m e ≡ false
unfolding member
false_member m e h = ne_eqb (bit m e) 1 (λ p. omega arith)

same_bit : (a b e : ℕ) → member a e ≡ member b e → bit a e ≡ bit b e
same_bit a b e h = go (member b e) h refl
  where
    go : (p : Bool) → member a e ≡ p → member b e ≡ p → bit a e ≡ bit b e
    go true x y = member_true a e x ∙ sym (member_true b e y)
    go false x y = member_false a e x ∙ sym (member_false b e y)

-- ---- the lowest bit, and the others
bit_first : (m : ℕ) → bit m 0 ≡ m % 2
unfolding bit
bit_first m = ap (λ k. k % 2) (div-one m)

bit_later : (m e : ℕ) → bit m (suc e) ≡ bit (m / 2) e
unfolding bit
bit_later m e = ap (λ k. k % 2) (ap (λ k. m / 2 ^ k) (omega arith) ∙ sym (shr-shr m 1 e))

-- ---- masks are equal by their members
pub bit_empty : (e : ℕ) → bit 0 e ≡ 0
unfolding bit
bit_empty e = rw zero-div

ext_within : (k a b : ℕ) → a ≤ k → b ≤ k → ((e : ℕ) → bit a e ≡ bit b e) → a ≡ b
ext_within zero a b x y h = omega arith
ext_within (suc k) a b x y h =
    omega
    (arith, bit_first a, bit_first b, h 0, ext_within k (a / 2) (b / 2) (omega arith) (omega arith) (λ e. sym (bit_later a e) ∙ h (suc e) ∙ bit_later b e))

pub mask_ext : (a b : ℕ) → ((e : ℕ) → bit a e ≡ bit b e) → a ≡ b
mask_ext a b h = ext_within (a + b) a b (omega arith) (omega arith) h

-- ---- a bound is that no later number is a member
pub lt_bits : (n m e : ℕ) → m < 2 ^ n → n ≤ e → bit m e ≡ 0
unfolding bit
lt_bits n m e h l = rw (div-eq_of_lt (lt_of_lt_of_le h (pow_mono l)))

pub bits_lt : (n m : ℕ) → ((e : ℕ) → n ≤ e → bit m e ≡ 0) → m < 2 ^ n
bits_lt zero m h = omega (arith, mask_ext m 0 (λ e. h e (omega arith) ∙ sym (bit_empty e)))
bits_lt (suc n) m h =
    omega (arith, pow-suc 2 n, bits_lt n (m / 2) (λ e l. sym (bit_later m e) ∙ h (suc e) (omega arith)))

pub bit_high : (m e : ℕ) → m ≤ e → bit m e ≡ 0
bit_high m zero h = bit_first m ∙ omega arith
bit_high m (suc e) h = bit_later m e ∙ bit_high (m / 2) e (omega arith)

pub mask_ext_below : (k a b : ℕ) → a < 2 ^ k → b < 2 ^ k → ((e : ℕ) → e < k → bit a e ≡ bit b e) → a ≡ b
mask_ext_below k a b x y h = mask_ext a b (λ e. go e (dec_lt e k))
  where
    go : (e : ℕ) → Dec (e < k) → bit a e ≡ bit b e
    go e (yes l) = h e l
    go e (no l) = lt_bits k a e x (omega arith) ∙ sym (lt_bits k b e y (omega arith))

pub member_ext_below : (k a b : ℕ) → a < 2 ^ k → b < 2 ^ k → ((e : ℕ) → e < k → member a e ≡ member b e) → a ≡ b
member_ext_below k a b x y h = mask_ext_below k a b x y (λ e l. same_bit a b e (h e l))

pub nonempty : (m : ℕ) → 0 < m → (e : ℕ) × (bit m e ≡ 1)
nonempty = bin_ind (λ m. 0 < m → (e : ℕ) × (bit m e ≡ 1)) (λ h. absurd (omega arith)) (λ m ih h. go m ih h (dec_lt 0 (m % 2)))
  where
    go : (m : ℕ) → (0 < m / 2 → (e : ℕ) × (bit (m / 2) e ≡ 1)) → 0 < m → Dec (0 < m % 2) → (e : ℕ) × (bit m e ≡ 1)
    go m ih h (yes p) = (0, bit_first m ∙ omega arith)
    go m ih h (no p) =
        let next = ih (omega arith) in
        (suc next.0, bit_later m next.0 ∙ next.1)

-- ---- union and common members, bit by bit
bit_or_lem : (a b e : ℕ) → bit (a ∪ b) e ≡ max (bit a e) (bit b e)
unfolding bit ◌∪◌
bit_or_lem a b e = rw or_shr (omega (arith, or_step (a / 2 ^ e) (b / 2 ^ e)))

bit_and_lem : (a b e : ℕ) → bit (bit_and a b) e ≡ min (bit a e) (bit b e)
unfolding bit
bit_and_lem a b e = rw and_shr (omega (arith, and_step (a / 2 ^ e) (b / 2 ^ e)))

-- what holds of 0 and of 1 holds of a bit
by_bit : (P : ℕ → Type 0) → P 0 → P 1 → (p : ℕ) → p ≤ 1 → P p
by_bit P x y zero h = x
by_bit P x y (suc zero) h = y
by_bit P x y (suc (suc p)) h = absurd (omega arith)

max_test : (p q : ℕ) → p ≤ 1 → q ≤ 1 → eqb (max p q) 1 ≡ (eqb p 1 || eqb q 1)
max_test p q x y =
    by_bit
    (λ i. eqb (max i q) 1 ≡ (eqb i 1 || eqb q 1))
    (by_bit (λ j. eqb (max 0 j) 1 ≡ (eqb 0 1 || eqb j 1)) refl refl q y)
    (by_bit (λ j. eqb (max 1 j) 1 ≡ (eqb 1 1 || eqb j 1)) refl refl q y)
    p
    x

min_test : (p q : ℕ) → p ≤ 1 → q ≤ 1 → eqb (min p q) 1 ≡ (eqb p 1 && eqb q 1)
min_test p q x y =
    by_bit
    (λ i. eqb (min i q) 1 ≡ (eqb i 1 && eqb q 1))
    (by_bit (λ j. eqb (min 0 j) 1 ≡ (eqb 0 1 && eqb j 1)) refl refl q y)
    (by_bit (λ j. eqb (min 1 j) 1 ≡ (eqb 1 1 && eqb j 1)) refl refl q y)
    p
    x

pub member_union : (a b e : ℕ) → member (a ∪ b) e ≡ (member a e || member b e)
unfolding member
member_union a b e = rw bit_or_lem (max_test (bit a e) (bit b e) (bit_le a e) (bit_le b e))

member_both : (a b e : ℕ) → member (bit_and a b) e ≡ (member a e && member b e)
unfolding member
member_both a b e = rw bit_and_lem (min_test (bit a e) (bit b e) (bit_le a e) (bit_le b e))

pub union_lt : (k a b : ℕ) → a < 2 ^ k → b < 2 ^ k → (a ∪ b) < 2 ^ k
unfolding ◌∪◌
union_lt k a b x y = or_lt k a b x y

-- ---- disjoint masks
pub disjoint_sum : (a b : ℕ) → Apart a b → (e : ℕ) → bit a e + bit b e ≤ 1
disjoint_sum a b d e =
    omega
    (arith, bit_le a e, bit_le b e, bit_and_lem a b e, member_false (bit_and a b) e (member_both a b e ∙ d.apart e))

pub sum_disjoint : (a b : ℕ) → ((e : ℕ) → bit a e + bit b e ≤ 1) → Apart a b
sum_disjoint a b h =
    record { apart = λ e. sym (member_both a b e) ∙ false_member (bit_and a b) e (omega (arith, bit_and_lem a b e, h e)) }

pub bit_union : (a b e : ℕ) → Apart a b → bit (a ∪ b) e ≡ bit a e + bit b e
bit_union a b e d = omega (arith, bit_or_lem a b e, disjoint_sum a b d e)

pub union_of : (m a b : ℕ) → ((e : ℕ) → bit m e ≡ bit a e + bit b e) → m ≡ a ∪ b
union_of m a b h = mask_ext m (a ∪ b) (λ e. omega (arith, h e, bit_le m e, bit_or_lem a b e))

pub holds_disjoint : (a b : ℕ) → Apart a b → T (disjoint a b)
unfolding disjoint
holds_disjoint a b d =
    let none : bit_and a b ≡ 0 =
    mask_ext (bit_and a b) 0 (λ e. omega (arith, bit_and_lem a b e, disjoint_sum a b d e, bit_empty e))
    in
    rw none tt

pub disjoint_holds : (a b : ℕ) → T (disjoint a b) → Apart a b
unfolding disjoint
disjoint_holds a b h =
    let none : (e : ℕ) → bit (bit_and a b) e ≡ 0 = λ e. ap (λ m. bit m e) (eqb→eq (bit_and a b) 0 h) ∙ bit_empty e in
    sum_disjoint a b (λ e. omega (arith, none e, bit_and_lem a b e, bit_le a e, bit_le b e))

-- ---- subsets
pub within_holds : (a b : ℕ) → T (within a b) → Subset a b
unfolding within
within_holds a b h =
    let same : bit_and a b ≡ a = eqb→eq (bit_and a b) a h in
    record { each = λ e. omega (arith, bit_and_lem a b e, ap (λ m. bit m e) same) }

pub holds_within : (a b : ℕ) → Subset a b → T (within a b)
unfolding within
holds_within a b s =
    let same : bit_and a b ≡ a = mask_ext (bit_and a b) a (λ e. omega (arith, bit_and_lem a b e, s.each e)) in
    rw same (eqb_refl a)

-- ---- the mask of one number
pub bit_single_self : (g : ℕ) → bit (single g) g ≡ 1
unfolding bit single
bit_single_self g = rw (div_self (pow_pos g))

pub bit_single_other : (g e : ℕ) → (e ≡ g → ⊥) → bit (single g) e ≡ 0
unfolding single
bit_single_other zero zero n = absurd (n refl)
bit_single_other zero (suc e) n = bit_later 1 e ∙ bit_empty e
bit_single_other (suc g) zero n = bit_first (2 ^ suc g) ∙ omega (arith, pow-suc 2 g)
bit_single_other (suc g) (suc e) n =
    bit_later (2 ^ suc g) e ∙ ap (λ k. bit k e) (omega (arith, pow-suc 2 g)) ∙ bit_single_other g e (λ p. n (ap suc p))

pub member_single : (g e : ℕ) → member (single g) e ≡ eqb e g
member_single g e = go (eqb e g) refl
  where
    go : (p : Bool) → eqb e g ≡ p → member (single g) e ≡ p
    go true h = true_member (single g) e (rw (eqb-true e g h) (bit_single_self g))
    go false h = false_member (single g) e (bit_single_other g e (eqb-false e g h))

-- as the machine makes it, by a shift
pub shifted_single : (e : ℕ) → e < 64 → 1 * 2 ^ e % 2 ^ 64 ≡ single e
unfolding single
shifted_single e h = rw (one-mul, mod-eq_of_lt (pow-lt h))

-- ---- the first numbers
pub bit_full_out : (n e : ℕ) → n ≤ e → bit (full n) e ≡ 0
unfolding full
bit_full_out n e h = lt_bits n (2 ^ n - 1) e (ones_lt n) h

full_more : (n : ℕ) → full (suc n) ≡ full n * 2 + 1
unfolding full
full_more n = rw pow-suc (dbl_pred (pow_pos n))

pub bit_full_in : (n e : ℕ) → e < n → bit (full n) e ≡ 1
bit_full_in zero e h = absurd (omega arith)
bit_full_in (suc n) zero h = bit_first (full (suc n)) ∙ omega (arith, full_more n)
bit_full_in (suc n) (suc e) h =
    bit_later (full (suc n)) e ∙ ap (λ k. bit k e) (omega (arith, full_more n)) ∙ bit_full_in n e (omega arith)

pub member_full : (n e : ℕ) → member (full n) e ≡ ltb e n
member_full n e = go (ltb e n) refl
  where
    go : (p : Bool) → ltb e n ≡ p → member (full n) e ≡ p
    go true h = true_member (full n) e (bit_full_in n e (ltb-true e n h))
    go false h = false_member (full n) e (bit_full_out n e (ltb-false e n h))

-- ---- a mask from its bits
pub bit_of_bits : (n : ℕ) (c : ℕ → ℕ) → ((e : ℕ) → c e ≤ 1) → ((e : ℕ) → n ≤ e → c e ≡ 0) → (e : ℕ) → bit (of_bits n c) e ≡ c e
unfolding of_bits
bit_of_bits zero c h z e = bit_empty e ∙ sym (z e (omega arith))
bit_of_bits (suc n) c h z zero = bit_first (of_bits (suc n) c) ∙ omega (arith, h 0)
bit_of_bits (suc n) c h z (suc e) =
    bit_later (of_bits (suc n) c) e ∙ ap (λ k. bit k e) (omega (arith, h 0)) ∙ bit_of_bits n (λ i. c (suc i)) (λ i. h (suc i)) (λ i l. z (suc i) (omega arith)) e
