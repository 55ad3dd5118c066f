-- The laws of bytes and words: there and back, bounds, and equality.
use Rattle.std.specs.Prelude.{◌≡◌, refl, Bool, true, false, ◌&&◌, List, [], ◌∷◌, ℕ, zero, suc, ◌+◌, ◌*◌, ◌/◌, ◌%◌, ◌^◌, ◌<◌, length, get_or, eqb}
use Rattle.std.proofs.Common.{sym, ap, ap₂, ◌∙◌, pow-suc, arith, eqb-true, eq-eqb, ne_eqb}
use Rattle.std.proofs.lemmas.Bool.{eqb-false}
use Rattle.std.proofs.Math.Arith.{digits_div, digits_mod}
use Rattle.hrg.specs.Counts.{tabulate}
use Rattle.hrg.specs.ClosureRun.{same_list}
use Rattle.places.specs.Words.{word_by, word_of, bytes_and, places_of, Places, Readable, Packed}

-- each of the numbers f 0, f 1, .. is a byte
abbrev pub Bytes : (ℕ → ℕ) → Type 0
Bytes f = (i : ℕ) → f i < 256

pub tabulated : (l : List ℕ) (d : ℕ) → tabulate (length l) (λ i. get_or l i d) ≡ l
unfolding tabulate
tabulated [] d = refl
tabulated (a ∷ l) d = ap (λ t. a ∷ t) (tabulated l d)

pub word_lt : (n : ℕ) (f : ℕ → ℕ) → Bytes f → word_by n f < 256 ^ n
unfolding word_by
word_lt zero f b = omega arith
word_lt (suc n) f b = omega (arith, b 0, pow-suc 256 n, word_lt n (λ i. f (suc i)) (λ i. b (suc i)))

-- the last one has what is left, and may be more
bytes_word : (n : ℕ) (f : ℕ → ℕ) → ((i : ℕ) → i < n → f i < 256) → bytes_and n (word_by (suc n) f) ≡ tabulate (suc n) f
unfolding bytes_and word_by tabulate
bytes_word zero f b = ap (λ v. v ∷ []) (let e : 0 * 256 + f 0 ≡ f 0 = omega arith in e)
bytes_word (suc n) f b =
    let q = word_by (suc n) (λ i. f (suc i)) in
    let small : f 0 < 256 = b 0 (omega arith) in
    let e : (q * 256 + f 0) % 256 ≡ f 0 = digits_mod q small in
    let d : (q * 256 + f 0) / 256 ≡ q = digits_div q small in
    ap₂ (λ v w. v ∷ bytes_and n w) e d
    ∙ ap (λ t. f 0 ∷ t) (bytes_word n (λ i. f (suc i)) (λ i l. b (suc i) (omega arith)))

word_bytes : (n w : ℕ) → word_by (suc n) (λ i. get_or (bytes_and n w) i 0) ≡ w
unfolding bytes_and word_by
word_bytes zero w = omega arith
word_bytes (suc n) w = omega (arith, word_bytes n (w / 256))

-- the places of eight bytes' word are these bytes
pub places_by : (f : ℕ → ℕ) → Bytes f → places_of (word_by 8 f) ≡ tabulate 8 f
unfolding places_of
places_by f b = bytes_word 7 f (λ i l. b i)

-- eight places are those of their word
pub readable : {l : List ℕ} → Places l → Readable l
readable p = record { size = p.size; bytes = λ i h. p.bytes i }

pub places_word : (l : List ℕ) → Readable l → places_of (word_of l) ≡ l
unfolding word_of places_of
places_word l p = bytes_word 7 (λ i. get_or l i 0) p.bytes ∙ ap (λ n. tabulate n (λ i. get_or l i 0)) (sym p.size) ∙ tabulated l 0

-- a word is that of its places
pub word_places : (w : ℕ) → word_of (places_of w) ≡ w
unfolding word_of places_of
word_places w = word_bytes 7 w

length_bytes : (n w : ℕ) → length (bytes_and n w) ≡ suc n
unfolding bytes_and
length_bytes zero w = refl
length_bytes (suc n) w = ap suc (length_bytes n (w / 256))

pub length_places : (w : ℕ) → length (places_of w) ≡ 8
unfolding places_of
length_places w = length_bytes 7 w

bytes_small : (n w i : ℕ) → w < 256 ^ suc n → get_or (bytes_and n w) i 0 < 256
unfolding bytes_and
bytes_small zero w zero h = omega arith
bytes_small zero w (suc i) h = omega arith
bytes_small (suc n) w zero h = omega arith
bytes_small (suc n) w (suc i) h = bytes_small n (w / 256) i (omega (arith, pow-suc 256 (suc n)))

bytes_below : (n w i : ℕ) → i < n → get_or (bytes_and n w) i 0 < 256
unfolding bytes_and
bytes_below zero w i h = absurd (omega arith)
bytes_below (suc n) w zero h = omega arith
bytes_below (suc n) w (suc i) h = bytes_below n (w / 256) i (omega arith)

-- what is taken from a word is read again from it, and of a word of 64 bits it is eight places
pub places_readable : (w : ℕ) → Readable (places_of w)
unfolding places_of
places_readable w = record { size = length_bytes 7 w; bytes = λ i h. bytes_below 7 w i h }

pub word_eight : (w : ℕ) → w < 18446744073709551616 → Places (places_of w)
unfolding places_of
word_eight w h = record { size = length_bytes 7 w; bytes = λ i. bytes_small 7 w i h }

-- ---- equality by whole words
-- a number is q and r if its digits are
and_true_right : (b : Bool) → (b && true) ≡ b
and_true_right true = refl
and_true_right false = refl

digits_same : (m q r : ℕ) → r < 256 → eqb m (q * 256 + r) ≡ (eqb (m % 256) r && eqb (m / 256) q)
digits_same m q r h = go (eqb (m % 256) r) (eqb (m / 256) q) refl refl
  where
    go : (a b : Bool) → eqb (m % 256) r ≡ a → eqb (m / 256) q ≡ b → eqb m (q * 256 + r) ≡ (a && b)
    go true true x y = eq-eqb m (q * 256 + r) (omega (arith, eqb-true (m % 256) r x, eqb-true (m / 256) q y))
    go true false x y = ne_eqb m (q * 256 + r) (λ e. eqb-false (m / 256) q y (omega arith))
    go false b x y = ne_eqb m (q * 256 + r) (λ e. eqb-false (m % 256) r x (omega arith))

bytes_same : (n m : ℕ) (f : ℕ → ℕ) → Bytes f → eqb m (word_by (suc n) f) ≡ same_list (bytes_and n m) (tabulate (suc n) f)
unfolding word_by bytes_and tabulate same_list
bytes_same zero m f b = ap (λ v. eqb m v) (let e : 0 * 256 + f 0 ≡ f 0 = omega arith in e) ∙ sym (and_true_right (eqb m (f 0)))
bytes_same (suc n) m f b =
    digits_same m (word_by (suc n) (λ i. f (suc i))) (f 0) (b 0)
    ∙ ap (λ t. eqb (m % 256) (f 0) && t) (bytes_same n (m / 256) (λ i. f (suc i)) (λ i. b (suc i)))

-- a word is that of eight places exactly if its places are these
pub same_places : {l : List ℕ} {w : ℕ} (m : ℕ) → Packed l w → eqb m w ≡ same_list (places_of m) l
unfolding word_of places_of
same_places {l} m p =
    ap (λ v. eqb m v) p.value
    ∙ bytes_same 7 m (λ i. get_or l i 0) p.places.bytes
    ∙ ap (λ t. same_list (places_of m) t) (ap (λ n. tabulate n (λ i. get_or l i 0)) (sym p.places.size) ∙ tabulated l 0)
