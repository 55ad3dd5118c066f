-- What the words of bytes become, byte by byte.
use mathlib.Core.Path.{◌≡◌, refl, sym, ap, ap₂, ◌∙◌}
use mathlib.Core.Bool.{Bool, true, false, ◌&&◌, ◌||◌, not}
use Prim.Native.Nat.{ℕ, zero, suc, ◌+◌, ◌-◌, ◌*◌, ◌/◌, ◌%◌, ◌≤◌, ◌<◌}
use native.Mathlib.Nat.{mod-eq_of_lt, add-mul, mul_right_comm, mul-div_cancel, zero-mul}
use native.Mathlib.Omega.{arith}
use borrow.Author.Tests.{eqb-true, eqb-false, eq-eqb, ne_eqb}
use lib.Arith.{digits_div, digits_mod}
use lib.Bits.{bit_and, bit_or, bit_xor, and_block, or_block, xor_block, and_mask, and_zero_r, and_shifted, and_comm, and_le_l, and_le_r, or_zero_l, or_zero_r, or_lt, xor_add_and, xor_lt, xor_self, and_high}
use lib.Dec.{eqb}
use Rattle.hrg.specs.Counts.{flag}
use Rattle.hrg.specs.Items.{either}
use Rattle.hrg.specs.WellFormedTest.{Decides, every}
use Rattle.hrg.proofs.Degrees.{test_T, T_test}
use Rattle.hrg.proofs.WellFormedTest.{decides_every}
use Rattle.places.specs.Words.{word_by, none_word}
use Rattle.places.specs.Laws.{Bytes}
use Rattle.places.specs.Swar.{bare_of, choose_of, differs_of, turn_of, once_of, agrees_of, low_bits, high_bits, all_bits}

-- ---- every place
pub tests : (b : Bool) → Decides b (b ≡ true)
tests b = record { sound = T_test b; complete = test_T b }

pub every_in : (n : ℕ) (p : ℕ → Bool) → ((i : ℕ) → i < n → p i ≡ true) → every n p ≡ true
every_in n p h = T_test (every n p) ((decides_every n (λ i. tests (p i))).complete h)

pub every_out : (n : ℕ) (p : ℕ → Bool) → every n p ≡ true → (i : ℕ) → i < n → p i ≡ true
every_out n p h = (decides_every n (λ i. tests (p i))).sound (test_T (every n p) h)

-- ---- an operation of words is that of their bytes
pub by_ext : (n : ℕ) {f g : ℕ → ℕ} → ((i : ℕ) → f i ≡ g i) → word_by n f ≡ word_by n g
unfolding word_by
by_ext zero e = refl
by_ext (suc n) e = ap₂ (λ q r. q * 256 + r) (by_ext n (λ i. e (suc i))) (e 0)

pub by_same : (n : ℕ) {f g : ℕ → ℕ} → ((i : ℕ) → i < n → f i ≡ g i) → word_by n f ≡ word_by n g
unfolding word_by
by_same zero e = refl
by_same (suc n) e = ap₂ (λ q r. q * 256 + r) (by_same n (λ i l. e (suc i) (omega arith))) (e 0 (omega arith))

-- an operation of bits goes block by block
abbrev Blocks : (ℕ → ℕ → ℕ) → Type 0
Blocks op = (a b r s : ℕ) → r < 256 → s < 256 → op (a * 256 + r) (b * 256 + s) ≡ op a b * 256 + op r s

op_by : (op : ℕ → ℕ → ℕ) → Blocks op → op 0 0 ≡ 0 → (n : ℕ) {f g : ℕ → ℕ} → Bytes f → Bytes g → op (word_by n f) (word_by n g) ≡ word_by n (λ i. op (f i) (g i))
unfolding word_by
op_by op law z zero x y = z
op_by op law z (suc n) {f} {g} x y =
    law (word_by n (λ i. f (suc i))) (word_by n (λ i. g (suc i))) (f 0) (g 0) (x 0) (y 0)
    ∙ ap (λ q. q * 256 + op (f 0) (g 0)) (op_by op law z n (λ i. x (suc i)) (λ i. y (suc i)))

pub and_by : {f g : ℕ → ℕ} → Bytes f → Bytes g → bit_and (word_by 8 f) (word_by 8 g) ≡ word_by 8 (λ i. bit_and (f i) (g i))
and_by x y = op_by bit_and (and_block 8) refl 8 x y

pub or_by : {f g : ℕ → ℕ} → Bytes f → Bytes g → bit_or (word_by 8 f) (word_by 8 g) ≡ word_by 8 (λ i. bit_or (f i) (g i))
or_by x y = op_by bit_or (or_block 8) refl 8 x y

pub xor_by : {f g : ℕ → ℕ} → Bytes f → Bytes g → bit_xor (word_by 8 f) (word_by 8 g) ≡ word_by 8 (λ i. bit_xor (f i) (g i))
xor_by x y = op_by bit_xor (xor_block 8) refl 8 x y

pub add_by : (n : ℕ) (f g : ℕ → ℕ) → word_by n f + word_by n g ≡ word_by n (λ i. f i + g i)
unfolding word_by
add_by zero f g = refl
add_by (suc n) f g = omega (arith, add_by n (λ i. f (suc i)) (λ i. g (suc i)))

sub_by : (n : ℕ) (f g : ℕ → ℕ) → ((i : ℕ) → g i ≤ f i) → word_by n f - word_by n g ≡ word_by n (λ i. f i - g i)
sub_by n f g le = omega (arith, add_by n (λ i. f i - g i) g, by_ext n {f = λ i. f i - g i + g i} {g = f} (λ i. omega (arith, le i)))

pub times_by : (n k : ℕ) (f : ℕ → ℕ) → word_by n (λ i. f i * k) ≡ word_by n f * k
unfolding word_by
times_by zero k f = sym (zero-mul k)
times_by (suc n) k f =
    let q = word_by n (λ i. f (suc i)) in
    ap (λ u. u * 256 + f 0 * k) (times_by n k (λ i. f (suc i))) ∙ ap (λ u. u + f 0 * k) (mul_right_comm q k 256) ∙ sym (add-mul (q * 256) (f 0) k)

-- ---- bytes that are tests: 255 or 128 for yes, 0 for no
abbrev pub full : Bool → ℕ
full t = either t 0 255

abbrev pub high : Bool → ℕ
high t = either t 0 128

pub either_le : (t : Bool) (k : ℕ) → either t 0 k ≤ k
either_le true k = omega arith
either_le false k = omega arith

full_byte : (p : ℕ → Bool) → Bytes (λ i. full (p i))
full_byte p i = omega (arith, either_le (p i) 255)

pub high_byte : (p : ℕ → Bool) → Bytes (λ i. high (p i))
high_byte p i = omega (arith, either_le (p i) 128)

-- by cases of a test of two numbers
pub eqb_cases : (P : Bool → Type 0) (a b : ℕ) → (a ≡ b → P true) → ((a ≡ b → ⊥) → P false) → P (eqb a b)
eqb_cases P a b same other = go (eqb a b) refl
  where
    go : (t : Bool) → eqb a b ≡ t → P t
    go true e = same (eqb-true a b e)
    go false e = other (eqb-false a b e)

bare_byte : (b : ℕ) → b ≤ 64 → bit_and b 64 ≡ flag (eqb b 64) * 64
bare_byte b h = eqb_cases (λ t. bit_and b 64 ≡ flag t * 64) b 64 (λ e. ap (λ u. bit_and u 64) e) (λ n. and_comm b 64 ∙ and_shifted 1 6 b (omega arith))

full_flag : (t : Bool) → flag t * 255 ≡ full t
full_flag true = refl
full_flag false = refl

choose_byte : (t : Bool) (a b : ℕ) → a < 256 → b < 256 → bit_or (bit_and a (full t)) (bit_and b (255 - full t)) ≡ either t b a
choose_byte true a b x y = ap₂ bit_or (and_mask a 8 ∙ mod-eq_of_lt x) (and_zero_r b) ∙ or_zero_r a
choose_byte false a b x y = ap₂ bit_or (and_zero_r a) (and_mask b 8 ∙ mod-eq_of_lt y) ∙ or_zero_l b

differs_byte : (a b : ℕ) → a < 128 → b < 128 → bit_and (bit_and (bit_xor a b) 127 + 127) 128 ≡ high (not (eqb a b))
differs_byte a b x y =
    let d = bit_xor a b in
    let l : d < 128 = xor_lt 7 a b x y in
    let m : bit_and d 127 ≡ d = and_mask d 7 ∙ mod-eq_of_lt l in
    let k : bit_and (d + 127) 128 ≡ (d + 127) / 128 % 2 * 128 = and_high (d + 127) 1 7 in
    ap (λ u. bit_and (u + 127) 128) m
    ∙ k
    ∙ eqb_cases (λ t. (d + 127) / 128 % 2 * 128 ≡ high (not t)) a b (λ e. ap (λ u. (u + 127) / 128 % 2 * 128) (ap (λ u. bit_xor u b) e ∙ xor_self b)) (λ n.
    let pos : 0 < d = omega (arith, xor_add_and a b, and_le_l a b, and_le_r a b) in
    let q : (d + 127) / 128 ≡ 1 = omega arith in
    ap (λ u. u % 2 * 128) q)

and_test : (p q : Bool) → bit_and (high p) (high q) ≡ high (p && q)
and_test true true = refl
and_test true false = refl
and_test false q = refl

or_test : (p q : Bool) → bit_and (bit_or (high p) (full q)) 128 ≡ high (p || q)
or_test true true = refl
or_test true false = refl
or_test false true = refl
or_test false false = refl

not_test : (p : Bool) → 128 - high p ≡ high (not p)
not_test true = refl
not_test false = refl

-- ---- the functions, byte by byte
pub highs : high_bits ≡ word_by 8 (λ i. high true)
unfolding word_by
highs = refl

pub nones : 4629771061636907072 ≡ word_by 8 (λ i. 64)
unfolding word_by
nones = refl

pub same_byte : (k : ℕ) → k < 256 → Bytes (λ i. k)
same_byte k h i = h

pub and_byte : {f : ℕ → ℕ} (g : ℕ → ℕ) → Bytes f → Bytes (λ i. bit_and (f i) (g i))
and_byte {f} g x i = omega (arith, x i, and_le_l (f i) (g i))

pub bare_by : (f : ℕ → ℕ) → ((i : ℕ) → f i ≤ 64) → bare_of (word_by 8 f) ≡ word_by 8 (λ i. full (eqb (f i) 64))
unfolding bare_of word_by
bare_by f le =
    let t : ℕ → ℕ = λ i. flag (eqb (f i) 64) in
    let x : Bytes f = λ i. omega (arith, le i) in
    let a : bit_and (word_by 8 f) none_word ≡ word_by 8 t * 64 = and_by x (same_byte 64 (omega arith)) ∙ by_ext 8 (λ i. bare_byte (f i) (le i)) ∙ times_by 8 64 t in
    ap (λ u. u / 64 * 255) a ∙ ap (λ u. u * 255) (mul-div_cancel (word_by 8 t) (omega arith)) ∙ sym (times_by 8 255 t) ∙ by_ext 8 (λ i. full_flag (eqb (f i) 64))

-- the other places
pub full_others : (p : ℕ → Bool) → all_bits - word_by 8 (λ i. full (p i)) ≡ word_by 8 (λ i. 255 - full (p i))
unfolding word_by
full_others p = sub_by 8 (λ i. 255) (λ i. full (p i)) (λ i. either_le (p i) 255)

pub choose_by : (p : ℕ → Bool) (f g : ℕ → ℕ) → Bytes f → Bytes g → choose_of (word_by 8 (λ i. full (p i))) (word_by 8 f) (word_by 8 g) ≡ word_by 8 (λ i. either (p i) (g i) (f i))
unfolding choose_of word_by
choose_by p f g x y =
    let s : ℕ → ℕ = λ i. full (p i) in
    let l : Bytes (λ i. 255 - s i) = λ i. omega arith in
    ap₂ bit_or (and_by x (full_byte p)) (ap (λ u. bit_and (word_by 8 g) u) (full_others p) ∙ and_by y l)
    ∙ or_by (and_byte s x) (and_byte (λ i. 255 - s i) y)
    ∙ by_ext 8 (λ i. choose_byte (p i) (f i) (g i) (x i) (y i))

pub differs_by : (f g : ℕ → ℕ) → ((i : ℕ) → f i < 128) → ((i : ℕ) → g i < 128) → differs_of (word_by 8 f) (word_by 8 g) ≡ word_by 8 (λ i. high (not (eqb (f i) (g i))))
unfolding differs_of word_by
differs_by f g x y =
    let d : ℕ → ℕ = λ i. bit_xor (f i) (g i) in
    let fx : Bytes f = λ i. omega (arith, x i) in
    let gx : Bytes g = λ i. omega (arith, y i) in
    let dx : Bytes d = λ i. omega (arith, xor_lt 7 (f i) (g i) (x i) (y i)) in
    let ex : Bytes (λ i. bit_and (d i) 127 + 127) = λ i. omega (arith, and_le_r (d i) 127) in
    let a : bit_xor (word_by 8 f) (word_by 8 g) ≡ word_by 8 d = xor_by fx gx in
    let b : bit_and (word_by 8 d) low_bits ≡ word_by 8 (λ i. bit_and (d i) 127) = and_by dx (same_byte 127 (omega arith)) in
    let e : word_by 8 (λ i. bit_and (d i) 127) + low_bits ≡ word_by 8 (λ i. bit_and (d i) 127 + 127) = add_by 8 (λ i. bit_and (d i) 127) (λ i. 127) in
    ap (λ u. bit_and (bit_and u low_bits + low_bits) high_bits) a
    ∙ ap (λ u. bit_and (u + low_bits) high_bits) b
    ∙ ap (λ u. bit_and u high_bits) e
    ∙ and_by ex (same_byte 128 (omega arith))
    ∙ by_ext 8 (λ i. differs_byte (f i) (g i) (x i) (y i))

abbrev pub next : ℕ → ℕ
next i = (i + 1) % 8

turn_by : (f : ℕ → ℕ) → Bytes f → turn_of (word_by 8 f) ≡ word_by 8 (λ i. f (next i))
unfolding turn_of word_by
turn_by f x =
    let q = word_by 7 (λ i. f (suc i)) in
    rw (digits_mod q (x 0), digits_div q (x 0)) (omega arith)

-- ---- all places at once
all_digits : (b : Bool) (q r : ℕ) → eqb (q * 256 + high b) (r * 256 + 128) ≡ (b && eqb q r)
all_digits true q r =
    eqb_cases (λ t. eqb (q * 256 + 128) (r * 256 + 128) ≡ t) q r (λ e. eq-eqb (q * 256 + 128) (r * 256 + 128) (omega arith)) (λ d. ne_eqb (q * 256 + 128) (r * 256 + 128) (λ e. d (omega arith)))
all_digits false q r = ne_eqb (q * 256 + 0) (r * 256 + 128) (λ e. omega arith)

all_by : (n : ℕ) (p : ℕ → Bool) → eqb (word_by n (λ i. high (p i))) (word_by n (λ i. high true)) ≡ every n p
unfolding word_by every
all_by zero p = refl
all_by (suc n) p =
    all_digits (p 0) (word_by n (λ i. high (p (suc i)))) (word_by n (λ i. high true)) ∙ ap (λ t. p 0 && t) (all_by n (λ i. p (suc i)))

or_tests : (p q : ℕ → Bool) → bit_and (bit_or (word_by 8 (λ i. high (p i))) (word_by 8 (λ i. full (q i)))) high_bits ≡ word_by 8 (λ i. high (p i || q i))
or_tests p q =
    let l : Bytes (λ i. bit_or (high (p i)) (full (q i))) = λ i. or_lt 8 (high (p i)) (full (q i)) (high_byte p i) (full_byte q i) in
    ap₂ bit_and (or_by (high_byte p) (full_byte q)) highs ∙ and_by l (same_byte 128 (omega arith)) ∙ by_ext 8 (λ i. or_test (p i) (q i))

and_tests : (p q : ℕ → Bool) → bit_and (word_by 8 (λ i. high (p i))) (word_by 8 (λ i. high (q i))) ≡ word_by 8 (λ i. high (p i && q i))
and_tests p q = and_by (high_byte p) (high_byte q) ∙ by_ext 8 (λ i. and_test (p i) (q i))

-- place i of f has no node, or that of none of the next four
abbrev pub apart : (ℕ → ℕ) → ℕ → Bool
apart f i =
    let d : ℕ → Bool = λ k. not (eqb (f i) (f k)) in
    d (next i) && d (next (next i)) && (d (next (next (next i))) && d (next (next (next (next i))))) || eqb (f i) 64

-- place i of t has no node, or that of j
abbrev pub fitting : (ℕ → ℕ) → (ℕ → ℕ) → ℕ → Bool
fitting j t i = not (not (eqb (j i) (t i))) || eqb (t i) 64

module _ (j t : ℕ → ℕ) (x : (i : ℕ) → j i ≤ 64) (y : (i : ℕ) → t i ≤ 64) where
  low : (i : ℕ) → j i < 128
  low i = omega (arith, x i)

  turned : (k : ℕ → ℕ) → turn_of (word_by 8 (λ i. j (k i))) ≡ word_by 8 (λ i. j (k (next i)))
  turned k = turn_by (λ i. j (k i)) (λ i. omega (arith, x (k i)))

  differ : (k : ℕ → ℕ) {w : ℕ} → w ≡ word_by 8 (λ i. j (k i)) → differs_of (word_by 8 j) w ≡ word_by 8 (λ i. high (not (eqb (j i) (j (k i)))))
  differ k e = ap (differs_of (word_by 8 j)) e ∙ differs_by j (λ i. j (k i)) low (λ i. low (k i))

  once_by : once_of (word_by 8 j) ≡ word_by 8 (λ i. high (apart j i))
  unfolding once_of
  once_by =
      let r1 = turned (λ i. i) in
      let r2 = ap turn_of r1 ∙ turned (λ i. next i) in
      let r3 = ap turn_of r2 ∙ turned (λ i. next (next i)) in
      let r4 = ap turn_of r3 ∙ turned (λ i. next (next (next i))) in
      let d : ℕ → ℕ → Bool = λ k i. not (eqb (j i) (j k)) in
      let a = ap₂ bit_and (differ (λ i. next i) r1) (differ (λ i. next (next i)) r2) ∙ and_tests (λ i. d (next i) i) (λ i. d (next (next i)) i) in
      let b = ap₂ bit_and (differ (λ i. next (next (next i))) r3) (differ (λ i. next (next (next (next i)))) r4) ∙ and_tests (λ i. d (next (next (next i))) i) (λ i. d (next (next (next (next i)))) i) in
      let c = ap₂ bit_and a b ∙ and_tests (λ i. d (next i) i && d (next (next i)) i) (λ i. d (next (next (next i))) i && d (next (next (next (next i)))) i) in
      ap₂ (λ u v. bit_and (bit_or u v) high_bits) c (bare_by j x) ∙ or_tests (λ i. d (next i) i && d (next (next i)) i && (d (next (next (next i))) i && d (next (next (next (next i)))) i)) (λ i. eqb (j i) 64)

  agrees_by : agrees_of (word_by 8 j) (word_by 8 t) ≡ word_by 8 (λ i. high (fitting j t i))
  unfolding agrees_of
  agrees_by =
      let p : ℕ → Bool = λ i. not (eqb (j i) (t i)) in
      let d = ap₂ (λ u v. u - v) highs (differs_by j t low (λ i. omega (arith, y i))) ∙ sub_by 8 (λ i. 128) (λ i. high (p i)) (λ i. either_le (p i) 128) ∙ by_ext 8 (λ i. not_test (p i)) in
      ap₂ (λ u v. bit_and (bit_or u v) high_bits) d (bare_by t y) ∙ or_tests (λ i. not (p i)) (λ i. eqb (t i) 64)

  pub tests_by : eqb (bit_and (once_of (word_by 8 j)) (agrees_of (word_by 8 j) (word_by 8 t))) high_bits ≡ every 8 (λ i. apart j i && fitting j t i)
  tests_by =
      ap₂ eqb (ap₂ bit_and once_by agrees_by ∙ and_tests (apart j) (fitting j t)) highs ∙ all_by 8 (λ i. apart j i && fitting j t i)
