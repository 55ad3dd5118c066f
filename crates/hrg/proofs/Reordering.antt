-- Lists with the same members in another order.
use mathlib.Core.Path.{◌≡◌, refl, subst}
use mathlib.Core.List.{List, [], ◌∷◌, map}
use Prim.Native.Nat.{ℕ, zero, suc, ◌+◌, ◌<◌}
use native.Mathlib.Nat.{not-suc-le-zero}
use native.Mathlib.Omega.{arith}
use Rattle.hrg.specs.Counts.{hit, occurs, Reordered, none, keep, swap, trans}
use Rattle.hrg.proofs.Sums.{hit_self, hit_eq}

pub reordered_refl : {A : Type 0} (xs : List A) → Reordered xs xs
reordered_refl [] = none
reordered_refl (x ∷ xs) = keep (reordered_refl xs)

pub reordered_sym : {A : Type 0} {xs ys : List A} → Reordered xs ys → Reordered ys xs
reordered_sym none = none
reordered_sym (keep r) = keep (reordered_sym r)
reordered_sym swap = swap
reordered_sym (trans r s) = trans (reordered_sym s) (reordered_sym r)

pub reordered_map : {A B : Type 0} (f : A → B) {xs ys : List A} → Reordered xs ys → Reordered (map f xs) (map f ys)
reordered_map f none = none
reordered_map f (keep r) = keep (reordered_map f r)
reordered_map f swap = swap
reordered_map f (trans r s) = trans (reordered_map f r) (reordered_map f s)

-- ---- numbers: equal counts are enough
record Without (x : ℕ) (ys : List ℕ) : Type 0 where
  rest : List ℕ
  order : Reordered (x ∷ rest) ys
  counts : (i : ℕ) → occurs i ys ≡ hit i x + occurs i rest

without : (x : ℕ) (ys : List ℕ) → 0 < occurs x ys → Without x ys
unfolding occurs
without x [] h = absurd (not-suc-le-zero h)
without x (y ∷ ys) h = go (hit x y) refl (without x ys)
  where
    go : (k : ℕ) → hit x y ≡ k → (0 < occurs x ys → Without x ys) → Without x (y ∷ ys)
    go zero q ih =
        let w = ih (omega arith) in
        record { rest = y ∷ w.rest; order = trans swap (keep w.order); counts = λ i. omega (arith, w.counts i) }
    go (suc k) q ih =
        let e = hit_eq x y (omega arith) in
        subst (λ (z : ℕ). Without x (z ∷ ys)) e (record { rest = ys; order = reordered_refl (x ∷ ys); counts = λ i. refl })

pub reordered_of : (xs ys : List ℕ) → ((i : ℕ) → occurs i xs ≡ occurs i ys) → Reordered xs ys
unfolding occurs
reordered_of [] [] h = none
reordered_of [] (y ∷ ys) h = absurd (omega (arith, h y, hit_self y))
reordered_of (x ∷ xs) ys h =
    let w = without x ys (omega (arith, h x, hit_self x)) in
    trans (keep (reordered_of xs w.rest (λ i. omega (arith, h i, w.counts i)))) w.order
