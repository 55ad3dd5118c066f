-- Words that are 0: one word made of many, and a few tested one by one.
use Prim.Native.Nat.{ℕ, ◌+◌, ◌-◌, ◌*◌, ◌≤◌, ◌<◌}
use native.Mathlib.Omega.{arith}
use native.Mathlib.Decide.{dec_lt}
use mathlib.Core.Path.{◌≡◌, sym, ap, ◌∙◌, subst}
use mathlib.Core.Bool.{Bool, true, false, false≢true}
use mathlib.Core.List.{List}
use lib.Bits.{bit_or, or_add_and, and_le_l, and_le_r}
use lib.ListN.{length, get_or, take, drop, length-take, length-drop}
use lib.Seq.{get_or-take, get_or-drop}
use Rattle.std.specs.Bool.{MatchBool}
use Rattle.std.specs.List.{AllWithin, HoldsAt}
use Rattle.tables.specs.Concluding.{Zero, Zeros, Gathered, eight_from}

-- ---- one by one
module _ (t : List ℕ) (a : ℕ) where
  pub zero_none : Zero t a a
  zero_none i k l = absurd (omega arith)

  pub zeros_at : (b c d : ℕ) (z : Bool) → a ≡ c → b ≡ d → Zeros t a b z → Zeros t c d z
  zeros_at b c d z e f zs = rw (← e, ← f) zs

  -- each is tested
  pub zeros_by : (b : ℕ) → a ≤ b → b ≤ length t → (r : Bool)
      → MatchBool r (AllWithin (λ x. x ≡ 0) (take (b - a) (drop a t)) 0 (length (take (b - a) (drop a t))))
      ((k : ℕ) × (k < length (take (b - a) (drop a t))) × HoldsAt (λ x. x ≡ 0 → ⊥) (take (b - a) (drop a t)) k)
      → Zeros t a b r
  zeros_by b l m r h = go r h
    where
      long : length (take (b - a) (drop a t)) ≡ b - a
      long = simp (length-take, length-drop) (omega arith)

      own : (k : ℕ) → k < b - a → get_or (take (b - a) (drop a t)) k 0 ≡ get_or t (a + k) 0
      own k d = get_or-take (b - a) (drop a t) k 0 d ∙ get_or-drop a t k 0

      go : (s : Bool) → MatchBool s (AllWithin (λ x. x ≡ 0) (take (b - a) (drop a t)) 0 (length (take (b - a) (drop a t))))
          ((k : ℕ) × (k < length (take (b - a) (drop a t))) × HoldsAt (λ x. x ≡ 0 → ⊥) (take (b - a) (drop a t)) k) → Zeros t a b s
      go true f = record {
        yes = λ y i k d. ap (λ j. get_or t j 0) (let e : i ≡ a + (i - a) = omega arith in e) ∙ sym (own (i - a) (omega arith)) ∙ f (i - a) 0 (omega arith) (omega (arith, long));
        no = λ y. absurd (false≢true (sym y));
      }
      go false f = record {
        yes = λ y. absurd (false≢true y);
        no = λ y z. f.2 0 (own f.0 (omega (arith, f.1, long)) ∙ z (a + f.0) (omega arith) (omega (arith, f.1, long)));
      }

-- ---- one word made of many
or_none : (a b : ℕ) → bit_or a b ≡ 0 → (a ≡ 0) × (b ≡ 0)
or_none a b h = (omega (arith, or_add_and a b, and_le_r a b), omega (arith, or_add_and a b, and_le_l a b))

pub gathered_more : (t : List ℕ) (a i any : ℕ) → Gathered t a i any → a ≤ i → Gathered t a (i + 1) (bit_or any (get_or t i 0))
gathered_more t a i any G l = record {
  yes = λ h k b e. go k b e (or_none any (get_or t i 0) h) (dec_lt k i);
  no = λ z.
      let x : any ≡ 0 = G.no (λ k b e. z k b (omega arith)) in
      let y : get_or t i 0 ≡ 0 = z i l (omega arith) in
      rw (x, y);
}
  where
    go : (k : ℕ) → a ≤ k → k < i + 1 → (any ≡ 0) × (get_or t i 0 ≡ 0) → Dec (k < i) → get_or t k 0 ≡ 0
    go k b e h (yes d) = G.yes h.0 k b d
    go k b e h (no d) = let same : k ≡ i = omega arith in rw same h.1

-- the same where the next place is said otherwise
gathered_on : (t : List ℕ) (a i j any : ℕ) → Gathered t a i any → a ≤ i → i + 1 ≡ j → Gathered t a j (bit_or any (get_or t i 0))
gathered_on t a i j any G l e = subst (λ k. Gathered t a k (bit_or any (get_or t i 0))) e (gathered_more t a i any G l)

gathered_eight : (t : List ℕ) (a i any r : ℕ) → Gathered t a i any → a ≤ i → r ≡ eight_from t i any → Gathered t a (i + 8) r
gathered_eight t a i any r G l e =
    let one = gathered_on t a i (i + 1) any G l (omega arith) in
    let two = gathered_on t a (i + 1) (i + 2) _ one (omega arith) (omega arith) in
    let three = gathered_on t a (i + 2) (i + 3) _ two (omega arith) (omega arith) in
    let four = gathered_on t a (i + 3) (i + 4) _ three (omega arith) (omega arith) in
    let five = gathered_on t a (i + 4) (i + 5) _ four (omega arith) (omega arith) in
    let six = gathered_on t a (i + 5) (i + 6) _ five (omega arith) (omega arith) in
    let seven = gathered_on t a (i + 6) (i + 7) _ six (omega arith) (omega arith) in
    subst (Gathered t a (i + 8)) (sym e) (gathered_on t a (i + 7) (i + 8) _ seven (omega arith) (omega arith))

pub gathered_turn : (t : List ℕ) (a i j any p q : ℕ) → Gathered t a i any → a ≤ i → p ≡ eight_from t i any → q ≡ eight_from t (i + 8) p → i + 16 ≡ j → Gathered t a j q
gathered_turn t a i j any p q G l e f s =
    subst (λ k. Gathered t a k q) (let x : i + 8 + 8 ≡ j = omega arith in x) (gathered_eight t a (i + 8) p q (gathered_eight t a i any p G l e) (omega arith) f)

-- .. of those before i and those from there on
pub gathered_both : (t : List ℕ) (a i b p q : ℕ) → a ≤ i → i ≤ b → Gathered t a i p → Gathered t i b q → Gathered t a b (bit_or p q)
gathered_both t a i b p q l m G K = record { yes = λ h k c d. go (or_none p q h) k c d (dec_lt k i); no = both }
  where
    go : (p ≡ 0) × (q ≡ 0) → (k : ℕ) → a ≤ k → k < b → Dec (k < i) → get_or t k 0 ≡ 0
    go z k c d (yes e) = G.yes z.0 k c e
    go z k c d (no e) = K.yes z.1 k (omega arith) d

    both : Zero t a b → bit_or p q ≡ 0
    both z =
        let none : p ≡ 0 = G.no (λ k c d. z k c (omega arith)) in
        let rest : q ≡ 0 = K.no (λ k c d. z k (omega arith) d) in
        rw (none, rest)

-- two halves of as many words, gone through by turns
pub halves : (t : List ℕ) (a n half i p q : ℕ) → half ≡ a + 16 * n → i ≡ n → Gathered t a (a + 16 * i) p → Gathered t half (half + 16 * i) q → Gathered t a (a + 32 * n) (bit_or p q)
halves t a n half i p q h e G K =
    gathered_both t a half (a + 32 * n) p q (omega arith) (omega arith)
    (subst (λ k. Gathered t a k p) (let s : a + 16 * i ≡ half = omega arith in s) G) (subst (λ k. Gathered t half k q) (let s : half + 16 * i ≡ a + 32 * n = omega arith in s) K)
