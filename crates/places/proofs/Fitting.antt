-- The test of all places at once is that of each.
use mathlib.Core.Path.{◌≡◌, refl, sym, ap, ap₂, ◌∙◌}
use mathlib.Core.Bool.{Bool, true, false, ◌&&◌, not, cond}
use Prim.Native.Nat.{ℕ, zero, suc, ◌+◌, ◌-◌, ◌*◌, ◌/◌, ◌%◌, ◌^◌, ◌≤◌, ◌<◌}
use native.Mathlib.Nat.{one-mul}
use native.Mathlib.Decide.{dec_lt}
use native.Mathlib.Omega.{arith}
use borrow.Author.Tests.{eq-eqb, ne_eqb, lt-ltb, le-ltb}
use lib.Bits.{bit_and, bit_or, and_mask, and_high, or_shr, or_lt}
use lib.Dec.{eqb, ltb}
use Rattle.masks.specs.Masks.{member}
use Rattle.hrg.specs.Trees.{at}
use Rattle.hrg.specs.Items.{either}
use Rattle.hrg.specs.WellFormedTest.{every}
use Rattle.places.specs.Words.{word_by, places_of}
use Rattle.places.specs.Laws.{Bytes}
use Rattle.places.specs.Swar.{choose_of, differs_of, spread_of, over_of}
use Rattle.places.specs.Maps.{fits}
use Rattle.places.proofs.Bytewise.{by_ext, and_by, or_by, add_by, times_by, high, high_byte, highs, nones, same_byte, eqb_cases, differs_by, choose_by}
use Rattle.places.proofs.Spreading.{spread_by}
use Rattle.places.proofs.Reading.{word_at_lem, word_packed, place_byte}
use Rattle.places.proofs.Once.{every_ext}

-- ---- one byte
over_byte : (u n : ℕ) → u < 128 → n ≤ 128 → bit_and (u + (128 - n)) 128 ≡ high (not (ltb u n))
over_byte u n h l = and_high (u + (128 - n)) 1 7 ∙ go (dec_lt u n)
  where
    go : Dec (u < n) → (u + (128 - n)) / 128 % 2 * 128 ≡ high (not (ltb u n))
    go (yes y) = (let e : (u + (128 - n)) / 128 % 2 * 128 ≡ 0 = omega arith in e) ∙ sym (ap (λ t. high (not t)) (lt-ltb u n y))
    go (no y) = (let e : (u + (128 - n)) / 128 % 2 * 128 ≡ 128 = omega arith in e) ∙ sym (ap (λ t. high (not t)) (le-ltb u n (omega arith)))

-- bit 7 of a byte, and of a test
high_bit : (v q : ℕ) (b : Bool) → v / 128 ≡ q → bit_and (bit_or v (high b)) 128 ≡ bit_or q (high b / 128) % 2 * 128
high_bit v q b e = and_high (bit_or v (high b)) 1 7 ∙ ap (λ u. u % 2 * 128) (or_shr v (high b) 7 ∙ ap (λ u. bit_or u (high b / 128)) e)

high_clear : (b : Bool) → bit_or 0 (high b / 128) % 2 * 128 ≡ high b
high_clear true = refl
high_clear false = refl

high_set : (b : Bool) → bit_or 1 (high b / 128) % 2 * 128 ≡ 128
high_set true = refl
high_set false = refl

-- what is wrong with a byte, but for bit 7
abbrev wrong : Bool → ℕ → ℕ → Bool
wrong p n u = cond p (not (ltb u n)) (not (eqb u 64))

wrong_not : (p : Bool) (n v : ℕ) → wrong p n v ≡ not (cond p (ltb v n) (eqb v 64))
wrong_not true n v = refl
wrong_not false n v = refl

large_not : (p : Bool) (n v : ℕ) → n ≤ 64 → 128 ≤ v → cond p (ltb v n) (eqb v 64) ≡ false
large_not true n v l h = le-ltb v n (omega arith)
large_not false n v l h = ne_eqb v 64 (λ e. omega arith)

wrong_byte : (p : Bool) (n v : ℕ) → n ≤ 64 → v < 256 → bit_and (bit_or v (high (wrong p n (v % 128)))) 128 ≡ high (not (cond p (ltb v n) (eqb v 64)))
wrong_byte p n v l h = go (dec_lt v 128)
  where
    go : Dec (v < 128) → bit_and (bit_or v (high (wrong p n (v % 128)))) 128 ≡ high (not (cond p (ltb v n) (eqb v 64)))
    go (yes y) =
        let e : v % 128 ≡ v = omega arith in
        high_bit v 0 (wrong p n (v % 128)) (omega arith) ∙ high_clear (wrong p n (v % 128)) ∙ ap (λ u. high (wrong p n u)) e ∙ ap high (wrong_not p n v)
    go (no y) = high_bit v 1 (wrong p n (v % 128)) (omega arith) ∙ high_set (wrong p n (v % 128)) ∙ sym (ap (λ t. high (not t)) (large_not p n v l (omega arith)))

high_either : (p a b : Bool) → either p (high b) (high a) ≡ high (cond p a b)
high_either true a b = refl
high_either false a b = refl

-- ---- all bytes
over_by : (f : ℕ → ℕ) (n : ℕ) → Bytes f → n ≤ 128 → over_of (word_by 8 f) n ≡ word_by 8 (λ i. high (not (ltb (f i % 128) n)))
unfolding over_of word_by
over_by f n x l =
    let u : ℕ → ℕ = λ i. bit_and (f i) 127 in
    let m : (i : ℕ) → u i ≡ f i % 128 = λ i. and_mask (f i) 7 in
    let a : bit_and (word_by 8 f) 9187201950435737471 ≡ word_by 8 u = and_by x (same_byte 127 (omega arith)) in
    let k : 72340172838076673 * (128 - n) ≡ word_by 8 (λ i. 128 - n) = sym (times_by 8 (128 - n) (λ i. 1)) ∙ by_ext 8 (λ i. one-mul (128 - n)) in
    let y : Bytes (λ i. u i + (128 - n)) = λ i. omega (arith, m i) in
    ap₂ (λ v w. bit_and (v + w) 9259542123273814144) a k
    ∙ ap (λ v. bit_and v 9259542123273814144) (add_by 8 u (λ i. 128 - n))
    ∙ and_by y (same_byte 128 (omega arith))
    ∙ by_ext 8 (λ i. ap (λ v. bit_and (v + (128 - n)) 128) (m i) ∙ over_byte (f i % 128) n (omega arith) l)

-- no place has a test that holds
none_digits : (b : Bool) (q : ℕ) → eqb (q * 256 + high b) 0 ≡ (not b && eqb q 0)
none_digits true q = ne_eqb (q * 256 + 128) 0 (λ e. omega arith)
none_digits false q = eqb_cases (λ t. eqb (q * 256 + 0) 0 ≡ t) q 0 (λ e. eq-eqb (q * 256 + 0) 0 (omega arith)) (λ d. ne_eqb (q * 256 + 0) 0 (λ e. d (omega arith)))

none_by : (n : ℕ) (p : ℕ → Bool) → eqb (word_by n (λ i. high (p i))) 0 ≡ every n (λ i. not (p i))
unfolding word_by every
none_by zero p = refl
none_by (suc n) p = none_digits (p 0) (word_by n (λ i. high (p (suc i)))) ∙ ap (λ t. not (p 0) && t) (none_by n (λ i. p (suc i)))

not_not : (b : Bool) → not (not b) ≡ b
not_not true = refl
not_not false = refl

module _ (w used n : ℕ) (fit : w < 2 ^ 64) (l : n ≤ 64) where
  abbrev node : ℕ → ℕ
  node i = at (places_of w) i

  abbrev bad : ℕ → Bool
  bad i = wrong (member used i) n (node i % 128)

  bytes : Bytes node
  bytes = place_byte w fit

  word : w ≡ word_by 8 node
  word = word_at_lem 64 (word_packed w fit)

  lows : bit_and w 9187201950435737471 ≡ word_by 8 (λ i. node i % 128)
  unfolding word_by
  lows = ap (λ v. bit_and v 9187201950435737471) word ∙ and_by bytes (same_byte 127 (omega arith)) ∙ by_ext 8 (λ i. and_mask (node i) 7)

  wrongs : choose_of (spread_of used) (over_of w n) (differs_of (bit_and w 9187201950435737471) 4629771061636907072) ≡ word_by 8 (λ i. high (bad i))
  wrongs =
      let o = ap (λ v. over_of v n) word ∙ over_by node n bytes (omega arith) in
      let d = ap₂ differs_of lows nones ∙ differs_by (λ i. node i % 128) (λ i. 64) (λ i. omega arith) (λ i. omega arith) in
      ap₂ (λ v w. choose_of (spread_of used) v w) o d
      ∙ ap (λ s. choose_of s (word_by 8 (λ i. high (not (ltb (node i % 128) n)))) (word_by 8 (λ i. high (not (eqb (node i % 128) 64))))) (spread_by used)
      ∙ choose_by (λ i. member used i) (λ i. high (not (ltb (node i % 128) n))) (λ i. high (not (eqb (node i % 128) 64))) (high_byte (λ i. not (ltb (node i % 128) n))) (high_byte (λ i. not (eqb (node i % 128) 64)))
      ∙ by_ext 8 (λ i. high_either (member used i) (not (ltb (node i % 128) n)) (not (eqb (node i % 128) 64)))

  pub fits_is : eqb (bit_and (bit_or w (choose_of (spread_of used) (over_of w n) (differs_of (bit_and w 9187201950435737471) 4629771061636907072))) 9259542123273814144) 0 ≡ fits n used (places_of w)
  unfolding fits
  fits_is =
      let test : ℕ → Bool = λ i. cond (member used i) (ltb (node i) n) (eqb (node i) 64) in
      let t : ℕ → ℕ = λ i. bit_or (node i) (high (bad i)) in
      let x : Bytes t = λ i. or_lt 8 (node i) (high (bad i)) (bytes i) (high_byte bad i) in
      ap (λ v. eqb v 0)
      (ap₂ bit_and (ap₂ bit_or word wrongs ∙ or_by bytes (high_byte bad)) highs
      ∙ and_by x (same_byte 128 (omega arith))
      ∙ by_ext 8 (λ i. wrong_byte (member used i) n (node i) l (bytes i)))
      ∙ none_by 8 (λ i. not (test i))
      ∙ every_ext 8 (λ i. not_not (test i))
