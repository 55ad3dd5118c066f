-- Laws of the computed tests.
use Rattle.std.specs.Prelude.{ℕ, zero, suc, ◌≤◌, ◌<◌, ◌≡◌, refl, Bool, true, false, ◌&&◌, List, [], ◌∷◌, eqb, leb, IsTrue, ◌↔◌}
use Rattle.std.proofs.Common.{sym, ap, ◌∙◌, arith, eqb-true, eq-eqb, le-leb, leb-true}
use Rattle.std.proofs.Math.Bool.{and-false, and-eq-true_iff}
use Rattle.std.proofs.lemmas.Bool.{false≢true}
use Rattle.std.specs.Cmp.Lexicographic.{pointwise}
use Rattle.std.proofs.Math.Decide.{dec_lt}
use Rattle.format.specs.Tests.{all_below, same_bytes}

-- both parts of a test that holds
pub both : (a b : Bool) → (a && b) ≡ true → (a ≡ true) × (b ≡ true)
both a b = (and-eq-true_iff a b).0

-- ---- every number below n
pub all_no : (n k : ℕ) (p : ℕ → Bool) → k < n → p k ≡ false → all_below n p ≡ false
unfolding all_below
all_no zero k p l h = absurd (omega arith)
all_no (suc n) k p l h = go (dec_lt k n) (λ m. all_no n k p m h)
  where
    go : Dec (k < n) → (k < n → all_below n p ≡ false) → (all_below n p && p n) ≡ false
    go (yes m) earlier = rw (earlier m)
    go (no m) earlier =
        let same : n ≡ k = omega arith in
        rw (same, h) (and-false (all_below k p))

pub all_at : (n : ℕ) (p : ℕ → Bool) → all_below n p ≡ true → (k : ℕ) → k < n → p k ≡ true
all_at n p h k l = go (p k) refl
  where
    go : (x : Bool) → p k ≡ x → x ≡ true
    go true e = refl
    go false e = absurd (false≢true (sym (all_no n k p l e) ∙ h))

pub all_of : (n : ℕ) (p : ℕ → Bool) → ((k : ℕ) → k < n → p k ≡ true) → all_below n p ≡ true
unfolding all_below
all_of zero p h = refl
all_of (suc n) p h = rw (all_of n p (λ k l. h k (omega arith)), h n (omega arith))

pub all_same : (n : ℕ) (p q : ℕ → Bool) → ((k : ℕ) → k < n → p k ≡ q k) → all_below n p ≡ all_below n q
unfolding all_below
all_same zero p q h = refl
all_same (suc n) p q h = rw (all_same n p q (λ k l. h k (omega arith)), h n (omega arith))

-- a test of every number below n, by what it says
pub all_by : (n m : ℕ) (f : ℕ → ℕ) (b : Bool) → (IsTrue b ↔ ((k : ℕ) → k < n → f k ≤ m)) → b ≡ all_below n (λ k. leb (f k) m)
all_by n m f b h = go b (all_below n (λ k. leb (f k) m)) refl h
  where
    go : (a t : Bool) → all_below n (λ k. leb (f k) m) ≡ t → (IsTrue a ↔ ((k : ℕ) → k < n → f k ≤ m)) → a ≡ t
    go true t e h = sym (all_of n (λ k. leb (f k) m) (λ k l. le-leb (f k) m (h.0 refl k l))) ∙ e
    go false true e h = h.1 (λ k l. leb-true (f k) m (all_at n (λ k. leb (f k) m) e k l))
    go false false e h = refl

-- ---- bytes that are the same
pub same_refl : (bs : List ℕ) → same_bytes bs bs ≡ true
unfolding same_bytes
same_refl [] = refl
same_refl (b ∷ bs) = rw (eq-eqb b b refl, same_refl bs)

pub same_eq : (bs cs : List ℕ) → same_bytes bs cs ≡ true → bs ≡ cs
unfolding same_bytes
same_eq [] [] h = refl
same_eq [] (c ∷ cs) h = absurd (false≢true h)
same_eq (b ∷ bs) [] h = absurd (false≢true h)
same_eq (b ∷ bs) (c ∷ cs) h =
    let two = both (eqb b c) (same_bytes bs cs) h in
    let first : b ≡ c = eqb-true b c two.0 in
    let rest : bs ≡ cs = same_eq bs cs two.1 in
    cc

-- bytes compared one by one
pub same_pointwise : (bs cs : List ℕ) → pointwise eqb bs cs ≡ same_bytes bs cs
unfolding same_bytes
same_pointwise [] [] = refl
same_pointwise [] (c ∷ cs) = refl
same_pointwise (b ∷ bs) [] = refl
same_pointwise (b ∷ bs) (c ∷ cs) = ap (λ t. eqb b c && t) (same_pointwise bs cs)
