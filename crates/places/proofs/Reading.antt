-- The node at one place of a word, read and put.
use mathlib.Core.Path.{◌≡◌, refl, sym, ap, ap₂, ◌∙◌}
use mathlib.Core.Bool.{Bool, true, false}
use mathlib.Core.List.{List, [], ◌∷◌}
use Prim.Native.Nat.{ℕ, zero, suc, ◌+◌, ◌-◌, ◌*◌, ◌/◌, ◌%◌, ◌^◌, ◌≤◌, ◌<◌}
use native.Mathlib.Nat.{pow-suc, mod-eq_of_lt, mul_assoc}
use native.Mathlib.Omega.{arith}
use borrow.Author.Tests.{eqb-true, eqb-false, eq-eqb, ne_eqb}
use lib.Bits.{bit_and, bit_or, and_mask, and_zero_r, or_zero_l, or_zero_r}
use lib.Dec.{eqb}
use lib.ListN.{get_or, set, replicate, length-set}
use lib.Pow.{pow-add, shl_exact, shr-shr}
use lib.Seq.{ext_get_or, get_or-set_same, get_or-set_other}
use Rattle.hrg.specs.Counts.{tabulate}
use Rattle.hrg.specs.Trees.{unplaced, at}
use Rattle.hrg.specs.Items.{either}
use Rattle.hrg.proofs.Sums.{length_tabulate, at_tabulate}
use Rattle.places.specs.Words.{word_by, word_of, bytes_and, places_of, Packed, none_word}
use Rattle.places.specs.Laws.{tabulated, places_by, places_word, readable, word_places, length_places, word_eight}
use Rattle.places.specs.Swar.{all_bits}
use Rattle.places.proofs.Bytewise.{by_ext, full, eqb_cases, full_others, and_by, or_by, and_byte}

-- ---- words and their places
-- the places of a packed word are those that it was packed from
pub places_packed : {l : List ℕ} {w : ℕ} → Packed l w → places_of w ≡ l
places_packed {l} p = ap places_of p.value ∙ places_word l (readable p.places)

-- a word by the places of its list, whatever stands past the end
pub word_at_lem : {l : List ℕ} {w : ℕ} (d : ℕ) → Packed l w → w ≡ word_by 8 (λ i. get_or l i d)
unfolding word_of word_by tabulate
word_at_lem {l} d p =
    let e : l ≡ tabulate 8 (λ i. get_or l i d) = sym (ap (λ n. tabulate n (λ i. get_or l i d)) (sym p.places.size) ∙ tabulated l d) in
    p.value ∙ ap word_of e

pub word_packed : (w : ℕ) → w < 2 ^ 64 → Packed (places_of w) w
word_packed w h = record { value = sym (word_places w); places = word_eight w h }

byte_any : (l : List ℕ) (d : ℕ) → d < 256 → ((i : ℕ) → get_or l i 0 < 256) → (i : ℕ) → get_or l i d < 256
byte_any [] d h b i = h
byte_any (v ∷ l) d h b zero = b 0
byte_any (v ∷ l) d h b (suc i) = byte_any l d h (λ i. b (suc i)) i

-- each place of a word is a byte
pub place_byte : (w : ℕ) → w < 2 ^ 64 → (i : ℕ) → at (places_of w) i < 256
place_byte w h = byte_any (places_of w) 64 (omega arith) (word_eight w h).bytes

-- ---- eight places that have no node
pub none_word_lem : none_word ≡ word_of (replicate 8 unplaced)
unfolding word_of word_by
none_word_lem = refl

pub none_places : places_of none_word ≡ replicate 8 unplaced
unfolding places_of bytes_and
none_places = refl

-- ---- one place is read
byte_at : (n w k : ℕ) → k ≤ n → w < 256 ^ suc n → get_or (bytes_and n w) k 0 ≡ w / 2 ^ (8 * k) % 256
unfolding bytes_and
byte_at zero w zero h l = omega arith
byte_at zero w (suc k) h l = absurd (omega arith)
byte_at (suc n) w zero h l = omega arith
byte_at (suc n) w (suc k) h l =
    let e : 8 + 8 * k ≡ 8 * suc k = omega arith in
    byte_at n (w / 256) k (omega arith) (omega (arith, pow-suc 256 (suc n))) ∙ ap (λ v. v % 256) (shr-shr w 8 (8 * k) ∙ ap (λ j. w / 2 ^ j) e)

pub place_at_lem : (w k : ℕ) → w < 2 ^ 64 → k < 8 → get_or (places_of w) k 0 ≡ w / 2 ^ (8 * k) % 256
unfolding places_of
place_at_lem w k h l = byte_at 7 w k (omega arith) h

-- ---- one place is put
zeros_by : (n : ℕ) → word_by n (λ i. 0) ≡ 0
unfolding word_by
zeros_by zero = refl
zeros_by (suc n) = omega (arith, zeros_by n)

single_by : (n k v : ℕ) → k < n → word_by n (λ i. either (eqb i k) 0 v) ≡ v * 2 ^ (8 * k)
unfolding word_by
single_by zero k v h = absurd (omega arith)
single_by (suc n) zero v h =
    omega (arith, by_ext n {f = λ i. either (eqb (suc i) 0) 0 v} {g = λ i. 0} (λ i. ap (λ b. either b 0 v) (ne_eqb (suc i) 0 (λ e. omega arith))), zeros_by n)
single_by (suc n) (suc k) v h =
    let e : 8 * k + 8 ≡ 8 * suc k = omega arith in
    let s : (i : ℕ) → either (eqb (suc i) (suc k)) 0 v ≡ either (eqb i k) 0 v = λ i. ap (λ b. either b 0 v) (same i) in
    let q : v * 2 ^ (8 * k) * 256 ≡ v * 2 ^ (8 * suc k) = mul_assoc v (2 ^ (8 * k)) 256 ∙ ap (λ j. v * j) (sym (pow-add 2 (8 * k) 8) ∙ ap (λ j. 2 ^ j) e) in
    omega (arith, ap (λ b. either b 0 v) (ne_eqb 0 (suc k) (λ e. omega arith)), by_ext n s, single_by n k v (omega arith), q)
  where
    same : (i : ℕ) → eqb (suc i) (suc k) ≡ eqb i k
    same i = eqb_cases (λ b. eqb (suc i) (suc k) ≡ b) i k (λ e. eq-eqb (suc i) (suc k) (ap suc e)) (λ d. ne_eqb (suc i) (suc k) (λ e. d (omega arith)))

put_byte : (t : Bool) (b v : ℕ) → b < 256 → bit_or (bit_and b (255 - full t)) (either t 0 v) ≡ either t b v
put_byte true b v h = ap (λ u. bit_or u v) (and_zero_r b) ∙ or_zero_l v
put_byte false b v h = or_zero_r (bit_and b 255) ∙ and_mask b 8 ∙ mod-eq_of_lt h

module _ (w k v : ℕ) (h : w < 2 ^ 64) (l : k < 8) (b : v < 256) where
  abbrev put : ℕ → ℕ
  put i = either (eqb i k) (at (places_of w) i) v

  either_lt : (t : Bool) (x : ℕ) → x < 256 → either t x v < 256
  either_lt true x p = b
  either_lt false x p = p

  small : (i : ℕ) → at (places_of w) i < 256
  small = place_byte w h

  zero_lt : (t : Bool) → either t 0 v < 256
  zero_lt true = b
  zero_lt false = omega arith

  put_word : bit_or (bit_and w (all_bits - 255 * 2 ^ (8 * k) % 2 ^ 64)) (v * 2 ^ (8 * k) % 2 ^ 64) ≡ word_by 8 put
  put_word =
      let room : 8 + 8 * k ≤ 64 = omega arith in
      let s = ap (λ u. all_bits - u) (shl_exact 8 (8 * k) 64 (omega arith) room ∙ sym (single_by 8 k 255 l)) ∙ full_others (λ i. eqb i k) in
      let u = shl_exact 8 (8 * k) 64 b room ∙ sym (single_by 8 k v l) in
      ap₂ bit_or (ap₂ bit_and (word_at_lem 64 (word_packed w h)) s ∙ and_by small (λ i. omega arith)) u
      ∙ or_by (and_byte (λ i. 255 - full (eqb i k)) small) (λ i. zero_lt (eqb i k))
      ∙ by_ext 8 (λ i. put_byte (eqb i k) (at (places_of w) i) v (small i))

  pub place_put : places_of (bit_or (bit_and w (all_bits - 255 * 2 ^ (8 * k) % 2 ^ 64)) (v * 2 ^ (8 * k) % 2 ^ 64)) ≡ set (places_of w) k v
  place_put =
      ap places_of put_word ∙ places_by put (λ i. either_lt (eqb i k) (at (places_of w) i) (small i))
      ∙ ext_get_or unplaced (tabulate 8 put) (set (places_of w) k v) (length_tabulate 8 put ∙ sym (length-set (places_of w) k v ∙ length_places w))
      (λ i d. at_tabulate 8 put i (omega (arith, length_tabulate 8 put)) ∙ go i (eqb i k) refl)
    where
      go : (i : ℕ) (t : Bool) → eqb i k ≡ t → put i ≡ at (set (places_of w) k v) i
      go i true e = ap (λ t. either t (at (places_of w) i) v) e ∙ sym (ap (at (set (places_of w) k v)) (eqb-true i k e) ∙ get_or-set_same (places_of w) k v unplaced (omega (arith, length_places w)))
      go i false e = ap (λ t. either t (at (places_of w) i) v) e ∙ sym (get_or-set_other (places_of w) k i v unplaced (eqb-false i k e))
