-- Parts for a list of edge numbers, each with a fact of its number: put together, and put into another order.
use mathlib.Core.Path.{◌≡◌, refl, sym, ap, ◌∙◌, subst}
use mathlib.Core.List.{List, [], ◌∷◌, ◌++◌}
use Prim.Native.Nat.{ℕ, zero, suc, ◌<◌}
use native.Mathlib.Omega.{arith}
use native.Mathlib.Nat.{not-suc-le-zero}
use Rattle.hrg.specs.Counts.{hit, occurs, Reordered, none, keep, swap, trans}
use Rattle.hrg.specs.Grammars.{Grammar}
use Rattle.hrg.specs.Trees.{Parts, end, edge, tree}
use Rattle.hrg.proofs.Sums.{hit_self, hit_eq}
use Rattle.hrg.proofs.Parts.{◌⧺◌, edges_append, inner_append, applications_append, size_append, SameUse}

pub parts_end : (ps : Parts) → ps ⧺ end ≡ ps
unfolding ◌⧺◌
parts_end end = refl
parts_end (edge g ps) = ap (edge g) (parts_end ps)
parts_end (tree t ps) = ap (tree t) (parts_end ps)

pub parts_assoc : (ps qs rs : Parts) → (ps ⧺ qs) ⧺ rs ≡ ps ⧺ (qs ⧺ rs)
unfolding ◌⧺◌
parts_assoc end qs rs = refl
parts_assoc (edge g ps) qs rs = ap (edge g) (parts_assoc ps qs rs)
parts_assoc (tree t ps) qs rs = ap (tree t) (parts_assoc ps qs rs)

-- Parts that are put together of one for each number, in the order of the list.
pub data Each (Q : ℕ → Parts → Type 0) : List ℕ → Parts → Type 0 where
  nothing : Each Q [] end
  first : {i : ℕ} {is : List ℕ} {p ps : Parts} → Q i p → Each Q is ps → Each Q (i ∷ is) (p ⧺ ps)

module _ {Q : ℕ → Parts → Type 0} where
  pub each_one : {i : ℕ} {p : Parts} → Q i p → Each Q (i ∷ []) p
  each_one {i} {p} q = subst (λ (ps : Parts). Each Q (i ∷ []) ps) (parts_end p) (first q nothing)

  pub each_append : {is js : List ℕ} {ps qs : Parts} → Each Q is ps → Each Q js qs → Each Q (is ++ js) (ps ⧺ qs)
  unfolding ◌⧺◌
  each_append nothing d = d
  each_append {js = js} {qs = qs} (first {i = i} {is = is} {p = p} {ps = ps} q c) d =
      subst (λ (rs : Parts). Each Q (i ∷ (is ++ js)) rs) (sym (parts_assoc p ps qs)) (first q (each_append c d))

  pub each_at : {is : List ℕ} {ps : Parts} → Each Q is ps → (i : ℕ) → 0 < occurs i is → (p : Parts) × Q i p
  unfolding occurs
  each_at nothing i o = absurd (not-suc-le-zero o)
  each_at (first {i = j} {is = is} {p = p} q c) i o = go (hit i j) refl (λ o. each_at c i o)
    where
      go : (k : ℕ) → hit i j ≡ k → (0 < occurs i is → (p : Parts) × Q i p) → (p : Parts) × Q i p
      go zero e rest = rest (omega arith)
      go (suc k) e rest = (p, subst (λ (z : ℕ). Q z p) (sym (hit_eq i j (omega arith))) q)

  pub each_map : {S : ℕ → Parts → Type 0} {is : List ℕ} {ps : Parts} → ((i : ℕ) (p : Parts) → 0 < occurs i is → Q i p → S i p) → Each Q is ps → Each S is ps
  unfolding occurs
  each_map f nothing = nothing
  each_map f (first {i = i} {p = p} q c) = first (f i p (omega (arith, hit_self i)) q) (each_map (λ j p o. f j p (omega arith)) c)

-- ---- another order
pub record Rearranged (Q : ℕ → Parts → Type 0) (G : Grammar) (js : List ℕ) (ps : Parts) : Type 0 where
  pub parts : Parts
  pub each : Each Q js parts
  pub same : SameUse G parts ps

module _ (G : Grammar) where
  same_first : (p ps qs : Parts) → SameUse G ps qs → SameUse G (p ⧺ ps) (p ⧺ qs)
  same_first p ps qs s =
      record {
        edges = λ e. omega (arith, s.edges e, edges_append p ps e, edges_append p qs e);
        inner = λ v. omega (arith, s.inner v, inner_append G p ps v, inner_append G p qs v);
        count = omega (arith, s.count, applications_append G p ps, applications_append G p qs);
        size = omega (arith, s.size, size_append p ps, size_append p qs);
      }

  same_swap : (p q ps : Parts) → SameUse G (q ⧺ (p ⧺ ps)) (p ⧺ (q ⧺ ps))
  same_swap p q ps =
      record {
        edges = λ e. omega (arith, edges_append q (p ⧺ ps) e, edges_append p ps e, edges_append p (q ⧺ ps) e, edges_append q ps e);
        inner = λ v. omega (arith, inner_append G q (p ⧺ ps) v, inner_append G p ps v, inner_append G p (q ⧺ ps) v, inner_append G q ps v);
        count = omega (arith, applications_append G q (p ⧺ ps), applications_append G p ps, applications_append G p (q ⧺ ps), applications_append G q ps);
        size = omega (arith, size_append q (p ⧺ ps), size_append p ps, size_append p (q ⧺ ps), size_append q ps);
      }

  pub rearrange : {Q : ℕ → Parts → Type 0} {is js : List ℕ} {ps : Parts} → Reordered is js → Each Q is ps → Rearranged Q G js ps
  rearrange {ps = ps} none c = record { parts = ps; each = c; same = record { edges = λ e. refl; inner = λ v. refl; count = refl; size = refl } }
  rearrange {Q} (keep {a} {xs} {ys} r) c = go c (λ qs d. rearrange {ps = qs} r d)
    where
      go : {ps : Parts} → Each Q (a ∷ xs) ps → ((qs : Parts) → Each Q xs qs → Rearranged Q G ys qs) → Rearranged Q G (a ∷ ys) ps
      go (first {p = p} {ps = ps} q d) rest =
          let m = rest ps d in
          record { parts = p ⧺ m.parts; each = first q m.each; same = same_first p m.parts ps m.same }
  rearrange {Q} (swap {a} {b} {xs}) c = go c
    where
      go : {ps : Parts} → Each Q (a ∷ b ∷ xs) ps → Rearranged Q G (b ∷ a ∷ xs) ps
      go (first {p = p} q (first {p = o} {ps = ps} w d)) = record { parts = o ⧺ (p ⧺ ps); each = first w (first q d); same = same_swap p o ps }
  rearrange (trans r s) c =
      let m = rearrange r c in
      let k = rearrange s m.each in
      record {
        parts = k.parts;
        each = k.each;
        same = record {
          edges = λ e. k.same.edges e ∙ m.same.edges e;
          inner = λ v. k.same.inner v ∙ m.same.inner v;
          count = k.same.count ∙ m.same.count;
          size = k.same.size ∙ m.same.size;
        };
      }
