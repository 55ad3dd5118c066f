-- A set of places as a word.
use mathlib.Core.Path.{◌≡◌, refl, ap, ◌∙◌}
use mathlib.Core.Bool.{Bool, true}
use Prim.Native.Nat.{ℕ, zero, suc, ◌+◌, ◌*◌, ◌/◌, ◌%◌, ◌^◌, ◌<◌}
use lib.Bits.{bit_and}
use native.Mathlib.Omega.{arith}
use borrow.Author.Tests.{eqb-true}
use lib.Dec.{eqb}
use Rattle.masks.specs.Masks.{bit, member}
use Rattle.hrg.specs.WellFormedTest.{every}
use Rattle.places.specs.Words.{word_by}
use Rattle.places.specs.Swar.{spread_of, low_bits, high_bits}
use Rattle.places.proofs.Bytewise.{full, by_same, every_out}

-- each of the 256 sets, computed
spreads : ℕ → Bool
spreads m = eqb (spread_of m) (word_by 8 (λ i. full (member m i)))

all_spread : every 256 spreads ≡ true
unfolding every spreads spread_of word_by member bit
all_spread = refl

-- only the first eight bits count
low_bit : (m i : ℕ) → i < 8 → member (m % 256) i ≡ member m i
unfolding member bit
low_bit m i h = ap (λ b. eqb b 1) (go m i h)
  where
    go : (m i : ℕ) → i < 8 → m % 256 / 2 ^ i % 2 ≡ m / 2 ^ i % 2
    go m zero h = omega arith
    go m (suc zero) h = omega arith
    go m (suc (suc zero)) h = omega arith
    go m (suc (suc (suc zero))) h = omega arith
    go m (suc (suc (suc (suc zero)))) h = omega arith
    go m (suc (suc (suc (suc (suc zero))))) h = omega arith
    go m (suc (suc (suc (suc (suc (suc zero)))))) h = omega arith
    go m (suc (suc (suc (suc (suc (suc (suc zero))))))) h = omega arith
    go m (suc (suc (suc (suc (suc (suc (suc (suc i)))))))) h = absurd (omega arith)

low_set : (m : ℕ) → spread_of m ≡ spread_of (m % 256)
unfolding spread_of
low_set m =
    let e : m % 256 ≡ m % 256 % 256 = omega arith in
    ap (λ k. bit_and (bit_and (k * 72340172838076673) 9241421688590303745 + low_bits) high_bits / 128 * 255) e

pub spread_by : (m : ℕ) → spread_of m ≡ word_by 8 (λ i. full (member m i))
unfolding spreads
spread_by m =
    low_set m
    ∙ eqb-true (spread_of (m % 256)) (word_by 8 (λ i. full (member (m % 256) i))) (every_out 256 spreads all_spread (m % 256) (omega arith))
    ∙ by_same 8 (λ i h. ap full (low_bit m i h))
