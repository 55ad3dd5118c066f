-- Sets of numbers below 64, held as the bits of a number, and what the functions over them promise.
use Rattle.std.specs.Prelude.{ℕ, zero, suc, ◌+◌, ◌-◌, ◌*◌, ◌/◌, ◌%◌, ◌^◌, ◌≤◌, ◌<◌, min, ◌≡◌, Bool, true, false, ◌||◌, ◌&&◌, eqb, ltb}
use Rattle.std.specs.Int.Bits.{bit_or, bit_and}

infixl 60 ◌∪◌
-- 1 where e is a member of m, else 0
unfoldable pub bit : ℕ → ℕ → ℕ
bit m e = m / 2 ^ e % 2

-- whether e is a member of m
unfoldable pub member : ℕ → ℕ → Bool
member m e = eqb (bit m e) 1

-- the members of a and those of b
unfoldable pub ◌∪◌ : ℕ → ℕ → ℕ
a ∪ b = bit_or a b

-- no number is in both
pub record Apart (a b : ℕ) : Type 0 where
  pub apart : (e : ℕ) → (member a e && member b e) ≡ false

-- the same as a computed test
unfoldable pub disjoint : ℕ → ℕ → Bool
disjoint a b = eqb (bit_and a b) 0

-- the set of e alone
unfoldable pub single : ℕ → ℕ
single e = 2 ^ e

-- the set of the first n numbers
unfoldable pub full : ℕ → ℕ
full n = 2 ^ n - 1

-- each member of a is one of b
pub record Subset (a b : ℕ) : Type 0 where
  pub each : (e : ℕ) → bit a e ≤ bit b e

-- the same as a computed test
unfoldable pub within : ℕ → ℕ → Bool
within a b = eqb (bit_and a b) a

-- the number whose first n bits are given, and that has no others
unfoldable pub of_bits : ℕ → (ℕ → ℕ) → ℕ
of_bits zero c = 0
of_bits (suc n) c = c 0 + 2 * of_bits n (λ e. c (suc e))

-- r is the union of a and b
pub record United (a b r : ℕ) : Type 0 where
  pub value : r ≡ a ∪ b
  pub members : (e : ℕ) → e < 64 → member r e ≡ (member a e || member b e)

-- r says whether a and b have no member in common
pub record Tested (a b : ℕ) (r : Bool) : Type 0 where
  pub value : r ≡ disjoint a b
  pub sound : r ≡ true → Apart a b
  pub complete : Apart a b → r ≡ true

-- r says whether e is a member of m
pub record Found (m e : ℕ) (r : Bool) : Type 0 where
  pub value : r ≡ member m e

-- r has the members of m, and e where that is below 64
pub record Added (m e r : ℕ) : Type 0 where
  pub value : e < 64 → r ≡ m ∪ single e
  pub same : 64 ≤ e → r ≡ m
  pub members : (k : ℕ) → k < 64 → member r k ≡ (member m k || eqb k e)

-- r has the numbers that are below n and below 64
pub record Filled (n r : ℕ) : Type 0 where
  pub value : r ≡ full (min n 64)
  pub members : (k : ℕ) → k < 64 → member r k ≡ ltb k n
