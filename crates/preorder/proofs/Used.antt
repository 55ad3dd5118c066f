-- The lists of used numbers as masks: the laws by which a replay in code keeps a mask for each list.
use mathlib.Core.Path.{◌≡◌, refl, sym, ap, ap₂, subst, ◌∙◌}
use mathlib.Core.Bool.{Bool, true, false, not, ◌||◌}
use mathlib.Core.List.{List, [], ◌∷◌, ◌++◌}
use Prim.Native.Nat.{ℕ, zero, suc, ◌+◌, ◌^◌, ◌<◌}
use native.Mathlib.Omega.{arith}
use lib.Dec.{T, eqb, ltb}
use borrow.Author.Tests.{eqb-true, eqb-false, eq-eqb, ne_eqb, lt-ltb, ltb-true}
use Rattle.masks.specs.Masks.{member, ◌∪◌, single, full}
use Rattle.masks.proofs.Laws.{member_union, member_single, false_member, bit_empty, bits_lt, bit_full_out, member_full, member_ext_below}
use Rattle.hrg.specs.Counts.{hit, occurs}
use Rattle.hrg.specs.WellFormedTest.{Decides, every}
use Rattle.hrg.proofs.WellFormedTest.{decides_le, decides_every}
use Rattle.hrg.proofs.Sums.{hit_self, hit_ne, occurs_append}

-- The mask has just the numbers of the list as members.
pub record Holds (m : ℕ) (l : List ℕ) : Type 0 where
  pub members : (v : ℕ) → member m v ≡ ltb 0 (occurs v l)

pub holds_none : Holds 0 []
unfolding occurs
holds_none = record { members = λ v. false_member 0 v (bit_empty v) }

-- the test on a mask
pub holds_new : (m : ℕ) (l : List ℕ) (v : ℕ) → Holds m l → eqb (occurs v l) 0 ≡ not (member m v)
holds_new m l v h = go (occurs v l) (h.members v)
  where
    go : (k : ℕ) → member m v ≡ ltb 0 k → eqb k 0 ≡ not (member m v)
    go zero e = rw e
    go (suc k) e = rw e (ne_eqb (suc k) 0 (λ p. omega arith) ∙ ap not (sym (lt-ltb 0 (suc k) (omega arith))))

-- one number more, at either end of the list
holds_both : (m a : ℕ) (l : List ℕ) (v : ℕ) → member m v ≡ ltb 0 (occurs v l) → member (m ∪ single a) v ≡ ltb 0 (hit v a + occurs v l)
holds_both m a l v e = member_union m (single a) v ∙ ap₂ ◌||◌ e (member_single a v) ∙ go (eqb v a) refl
  where
    go : (b : Bool) → eqb v a ≡ b → (ltb 0 (occurs v l) || b) ≡ ltb 0 (hit v a + occurs v l)
    go true q = or_true (ltb 0 (occurs v l)) ∙ sym (lt-ltb 0 (hit v a + occurs v l) (omega (arith, ap (hit v) (eqb-true v a q), hit_self v)))
      where
        or_true : (b : Bool) → (b || true) ≡ true
        or_true true = refl
        or_true false = refl
    go false q =
        let e : occurs v l ≡ hit v a + occurs v l = omega (arith, hit_ne v a (eqb-false v a q)) in
        or_false (ltb 0 (occurs v l)) ∙ ap (ltb 0) e
      where
        or_false : (b : Bool) → (b || false) ≡ b
        or_false true = refl
        or_false false = refl

pub holds_cons : (m a : ℕ) (l : List ℕ) → Holds m l → Holds (m ∪ single a) (a ∷ l)
unfolding occurs
holds_cons m a l h = record { members = λ v. holds_both m a l v (h.members v) }

pub holds_snoc : (m a : ℕ) (l : List ℕ) → Holds m l → Holds (m ∪ single a) (l ++ a ∷ [])
unfolding occurs
holds_snoc m a l h =
    record {
      members = λ v.
          let e : hit v a + occurs v l ≡ occurs v (l ++ a ∷ []) = omega (arith, occurs_append v l (a ∷ [])) in
          holds_both m a l v (h.members v) ∙ ap (ltb 0) e;
    }

-- 'all are used' is that the mask is full
pub holds_all : (n m : ℕ) (l : List ℕ) → Holds m l → m < 2 ^ n → every n (λ v. ltb 0 (occurs v l)) ≡ eqb m (full n)
holds_all n m l h small = go (every n (λ v. ltb 0 (occurs v l))) refl
  where
    all : Decides (every n (λ v. ltb 0 (occurs v l))) ((v : ℕ) → v < n → 0 < occurs v l)
    all = decides_every n (λ v. decides_le 1 (occurs v l))

    go : (b : Bool) → every n (λ v. ltb 0 (occurs v l)) ≡ b → b ≡ eqb m (full n)
    go true e =
        let used : (v : ℕ) → v < n → 0 < occurs v l = all.sound (subst T (sym e) tt) in
        sym (eq-eqb m (full n) (member_ext_below n m (full n) small (bits_lt n (full n) (bit_full_out n))
        (λ v i. h.members v ∙ lt-ltb 0 (occurs v l) (used v i) ∙ sym (member_full n v ∙ lt-ltb v n i))))
    go false e =
        sym (ne_eqb m (full n) (λ p. subst T e (all.complete
        (λ v i. ltb-true 0 (occurs v l) (sym (h.members v) ∙ ap (λ (k : ℕ). member k v) p ∙ member_full n v ∙ lt-ltb v n i)))))
