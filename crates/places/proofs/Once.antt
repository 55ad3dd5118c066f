-- The tests of places are those of the definitions: two maps agree, and are one_to_one_is together.
use mathlib.Core.Path.{◌≡◌, refl, sym, ap, ap₂, ◌∙◌}
use mathlib.Core.Bool.{Bool, true, false, ◌&&◌, ◌||◌, not, false≢true}
use mathlib.Core.Logic.{◌⊎◌, inl, inr, ⊎_elim}
use mathlib.Core.List.{List, [], ◌∷◌}
use Prim.Native.Nat.{ℕ, zero, suc, ◌+◌, ◌≤◌, ◌<◌}
use native.Mathlib.Omega.{arith}
use borrow.Author.Tests.{eqb-true, eqb-false, eq-eqb, le-leb, lt-leb, leb-true}
use lib.ListN.{length}
use lib.Dec.{eqb, leb}
use Rattle.hrg.specs.Counts.{hit, occurs, tabulate}
use Rattle.hrg.specs.Trees.{at}
use Rattle.hrg.specs.Items.{either, or_else}
use Rattle.hrg.specs.WellFormedTest.{every}
use Rattle.hrg.specs.ClosureRun.{agree, one_to_one}
use Rattle.hrg.proofs.Sums.{hit_self, hit_ne, none_left, length_tabulate, at_tabulate, occurs_at, occurs_find}
use Rattle.places.proofs.Bytewise.{every_in, every_out, next, apart, fitting, eqb_cases}

-- ---- every place
both : (a b c d : Bool) → (a && b && (c && d)) ≡ (a && c && (b && d))
both true b true d = refl
both true true false d = refl
both true false false d = refl
both false b c d = refl

pub every_both : (n : ℕ) (p q : ℕ → Bool) → every n (λ i. p i && q i) ≡ (every n p && every n q)
unfolding every
every_both zero p q = refl
every_both (suc n) p q = ap (λ t. p 0 && q 0 && t) (every_both n (λ i. p (suc i)) (λ i. q (suc i))) ∙ both (p 0) (q 0) (every n (λ i. p (suc i))) (every n (λ i. q (suc i)))

pub every_ext : (n : ℕ) {p q : ℕ → Bool} → ((i : ℕ) → p i ≡ q i) → every n p ≡ every n q
unfolding every
every_ext zero e = refl
every_ext (suc n) e = ap₂ ◌&&◌ (e 0) (every_ext n (λ i. e (suc i)))

-- ---- maps that agree
same_none : (a : ℕ) → a ≤ 64 → leb 64 a ≡ eqb a 64
same_none a h = eqb_cases (λ t. leb 64 a ≡ t) a 64 (λ e. le-leb 64 a (omega arith)) (λ d. lt-leb 64 a (omega arith))

fit : (f t : ℕ) → f ≤ 64 → t ≤ 64 → (not (not (eqb (or_else f t) t)) || eqb t 64) ≡ (leb 64 f || leb 64 t || eqb f t)
fit f t x y =
    eqb_cases (λ b. (not (not (eqb (either b f t) t)) || eqb t 64) ≡ (b || eqb t 64 || eqb f t)) f 64 (λ e. ap (λ b. not (not b) || eqb t 64) (eq-eqb t t refl)) (λ d. swap (eqb f t) (eqb t 64))
    ∙ ap₂ (λ (a b : Bool). a || b || eqb f t) (sym (same_none f x)) (sym (same_none t y))
  where
    swap : (a b : Bool) → (not (not a) || b) ≡ (b || a)
    swap true true = refl
    swap true false = refl
    swap false true = refl
    swap false false = refl

pub agree_is : (f t : List ℕ) → ((i : ℕ) → at f i ≤ 64) → ((i : ℕ) → at t i ≤ 64) → every 8 (fitting (λ i. or_else (at f i) (at t i)) (λ i. at t i)) ≡ agree 8 f t
unfolding agree
agree_is f t x y = every_ext 8 (λ i. fit (at f i) (at t i) (x i) (y i))

-- ---- how often a node stands in a list
occurs_none : (v : ℕ) (l : List ℕ) → ((y : ℕ) → y < length l → at l y ≡ v → ⊥) → occurs v l ≡ 0
occurs_none v l h = none_left (occurs v l) (λ o. let (x, k, e) = occurs_find v l o in h x k e)

occurs_two : (v : ℕ) (l : List ℕ) (x y : ℕ) → (x ≡ y → ⊥) → x < length l → y < length l → at l x ≡ v → at l y ≡ v → 2 ≤ occurs v l
unfolding occurs
occurs_two v [] x y u j k e d = omega arith
occurs_two v (w ∷ l) zero zero u j k e d = absurd (u refl)
occurs_two v (w ∷ l) (suc x) zero u j k e d =
    omega (arith, hit_self v, ap (hit v) d, ap (λ i. occurs i l) e, occurs_at l x (omega arith))
occurs_two v (w ∷ l) zero (suc y) u j k e d =
    omega (arith, hit_self v, ap (hit v) e, ap (λ i. occurs i l) d, occurs_at l y (omega arith))
occurs_two v (w ∷ l) (suc x) (suc y) u j k e d = omega (arith, occurs_two v l x y (λ q. u (ap suc q)) (omega arith) (omega arith) e d)

-- different places have different nodes
Pairs : List ℕ → Type 0
Pairs l = (x y : ℕ) → x < y → y < length l → at l x ≡ at l y → at l x ≡ 64

pairs_once : (l : List ℕ) → Pairs l → (v : ℕ) → v < 64 → occurs v l ≤ 1
unfolding occurs Pairs
pairs_once [] h v k = omega arith
pairs_once (w ∷ l) h v k = go (eqb v w) refl (pairs_once l (λ x y a b q. h (suc x) (suc y) (omega arith) (omega arith) q) v k)
  where
    go : (b : Bool) → eqb v w ≡ b → occurs v l ≤ 1 → hit v w + occurs v l ≤ 1
    go true e ih =
        let s = eqb-true v w e in
        omega (arith, hit_self v, ap (hit v) (sym s), occurs_none v l (λ y d q. omega (arith, h 0 (suc y) (omega arith) (omega arith) (sym s ∙ sym q))))
    go false e ih = omega (arith, hit_ne v w (eqb-false v w e))

-- ---- places that are apart
parts : (a b c d e : Bool) → (a && b && (c && d) || e) ≡ true → (e ≡ true) ⊎ ((a ≡ true) × (b ≡ true) × (c ≡ true) × (d ≡ true))
parts a b c d true h = inl refl
parts true true true true false h = inr (refl, refl, refl, refl)
parts true true true false false h = absurd (false≢true h)
parts true true false d false h = absurd (false≢true h)
parts true false c d false h = absurd (false≢true h)
parts false b c d false h = absurd (false≢true h)

whole : (a b c d : Bool) → a ≡ true → b ≡ true → c ≡ true → d ≡ true → (a && b && (c && d)) ≡ true
whole a b c d x y z w = ap₂ ◌&&◌ (ap₂ ◌&&◌ x y) (ap₂ ◌&&◌ z w)

or_right : (a b : Bool) → b ≡ true → (a || b) ≡ true
or_right true b h = refl
or_right false b h = h

or_left : (a b : Bool) → a ≡ true → (a || b) ≡ true
or_left a b h = ap (λ t. t || b) h

unlike : (a b : ℕ) → not (eqb a b) ≡ true → a ≡ b → ⊥
unlike a b h e = false≢true (sym (ap not (eq-eqb a b e)) ∙ h)

-- k is one of the four places after i
abbrev Near : ℕ → ℕ → Type 0
Near i k = (k ≡ next i) ⊎ ((k ≡ next (next i)) ⊎ ((k ≡ next (next (next i))) ⊎ (k ≡ next (next (next (next i))))))

ext : (a b : Bool) → (a ≡ true → b ≡ true) → (b ≡ true → a ≡ true) → a ≡ b
ext true b f g = sym (f refl)
ext false true f g = g refl
ext false false f g = refl

module _ (J : ℕ → ℕ) (le : (i : ℕ) → J i ≤ 64) where
  near : (i k : ℕ) → apart J i ≡ true → Near i k → J i ≡ J k → J i ≡ 64
  near i k h w e =
      let a = next i in
      let b = next a in
      let c = next b in
      let d = next c in
      ⊎_elim (λ z. eqb-true (J i) 64 z)
      (λ q. absurd (⊎_elim (λ u. unlike (J i) (J a) q.0 (e ∙ ap J u)) (λ v. ⊎_elim (λ u. unlike (J i) (J b) q.1 (e ∙ ap J u)) (λ r. ⊎_elim (λ u. unlike (J i) (J c) q.2 (e ∙ ap J u)) (λ u. unlike (J i) (J d) q.3 (e ∙ ap J u)) r) v) w))
      (parts (not (eqb (J i) (J a))) (not (eqb (J i) (J b))) (not (eqb (J i) (J c))) (not (eqb (J i) (J d))) (eqb (J i) 64) h)

  pair : every 8 (apart J) ≡ true → (x y : ℕ) → x < y → y < 8 → J x ≡ J y → J x ≡ 64
  pair h x y l m e =
      let on : Near x y → J x ≡ 64 = λ w. near x y (every_out 8 (apart J) h x (omega arith)) w e in
      let back : Near y x → J x ≡ 64 = λ w. e ∙ near y x (every_out 8 (apart J) h y m) w (sym e) in
      let P : Bool → Type 0 = λ t. J x ≡ 64 in
      eqb_cases P y (x + 1) (λ u. on (inl (omega arith))) (λ n1.
      eqb_cases P y (x + 2) (λ u. on (inr (inl (omega arith)))) (λ n2.
      eqb_cases P y (x + 3) (λ u. on (inr (inr (inl (omega arith))))) (λ n3.
      eqb_cases P y (x + 4) (λ u. on (inr (inr (inr (omega arith))))) (λ n4.
      eqb_cases P y (x + 5) (λ u. back (inr (inr (inl (omega arith))))) (λ n5.
      eqb_cases P y (x + 6) (λ u. back (inr (inl (omega arith)))) (λ n6. back (inl (omega arith))))))))

  pairs : every 8 (apart J) ≡ true → Pairs (tabulate 8 J)
  unfolding Pairs
  pairs h x y l m e =
      let k : y < 8 = omega (arith, length_tabulate 8 J) in
      let i : x < 8 = omega arith in
      at_tabulate 8 J x i ∙ pair h x y l k (sym (at_tabulate 8 J x i) ∙ e ∙ at_tabulate 8 J y k)

  far : one_to_one 64 (tabulate 8 J) ≡ true → (i k : ℕ) → i < 8 → k < 8 → (i ≡ k → ⊥) → J i < 64 → not (eqb (J i) (J k)) ≡ true
  unfolding one_to_one
  far h i k a b d c =
      let l = tabulate 8 J in
      let once : occurs (J i) l ≤ 1 = leb-true (occurs (J i) l) 1 (every_out 64 (λ v. leb (occurs v l) 1) h (J i) c) in
      let n : length l ≡ 8 = length_tabulate 8 J in
      eqb_cases (λ t. not t ≡ true) (J i) (J k) (λ e. absurd (let z : ⊥ = omega (arith, occurs_two (J i) l i k d (omega arith) (omega arith) (at_tabulate 8 J i a) (at_tabulate 8 J k b ∙ sym e)) in z)) (λ u. refl)

  pub once_is : every 8 (apart J) ≡ one_to_one 64 (tabulate 8 J)
  unfolding one_to_one
  once_is =
      ext (every 8 (apart J)) (one_to_one 64 (tabulate 8 J))
      (λ h. every_in 64 (λ v. leb (occurs v (tabulate 8 J)) 1) (λ v l. le-leb (occurs v (tabulate 8 J)) 1 (pairs_once (tabulate 8 J) (pairs h) v l)))
      (λ h. every_in 8 (apart J) (λ i l.
      let a = next i in
      let b = next a in
      let c = next b in
      let d = next c in
      let all = not (eqb (J i) (J a)) && not (eqb (J i) (J b)) && (not (eqb (J i) (J c)) && not (eqb (J i) (J d))) in
      eqb_cases (λ t. (all || t) ≡ true) (J i) 64 (λ e. or_right all true refl) (λ n.
      let s : J i < 64 = omega (arith, le i) in
      or_left all false (whole (not (eqb (J i) (J a))) (not (eqb (J i) (J b))) (not (eqb (J i) (J c))) (not (eqb (J i) (J d)))
      (far h i a l (omega arith) (λ u. omega arith) s) (far h i b l (omega arith) (λ u. omega arith) s) (far h i c l (omega arith) (λ u. omega arith) s) (far h i d l (omega arith) (λ u. omega arith) s)))))
