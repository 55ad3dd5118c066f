-- Parts of an application: put together, taken apart, put into another order, moved to another placement.
use mathlib.Core.Path.{◌≡◌, refl, ap, ◌∙◌, subst}
use mathlib.Core.List.{List, [], ◌∷◌, ◌++◌}
use Prim.Native.Nat.{ℕ, suc, ◌+◌, ◌<◌}
use native.Mathlib.Omega.{arith}
use lib.ListN.{length}
use Rattle.hrg.specs.Counts.{occurs, Reordered, none, keep, swap, trans}
use Rattle.hrg.specs.Grammars.{Edge, Graph, Grammar, edge_at}
use Rattle.hrg.specs.Trees.{images, Tree, apply, Parts, end, edge, tree, edges_of, edges_in, inner_of, inner_in, applications_in, FitsEdge, Fits, FitsParts}
use Rattle.hrg.proofs.Sums.{occurs_append}

infixr 50 ◌⧺◌
unfoldable pub ◌⧺◌ : Parts → Parts → Parts
end ⧺ qs = qs
edge g ps ⧺ qs = edge g (ps ⧺ qs)
tree t ps ⧺ qs = tree t (ps ⧺ qs)

-- ---- what parts use and count, added up
pub edges_append : (ps qs : Parts) (e : ℕ) → occurs e (edges_in (ps ⧺ qs)) ≡ occurs e (edges_in ps) + occurs e (edges_in qs)
unfolding ◌⧺◌ edges_in occurs
edges_append end qs e = omega arith
edges_append (edge g ps) qs e = omega (arith, edges_append ps qs e)
edges_append (tree t ps) qs e =
    omega (arith, edges_append ps qs e, occurs_append e (edges_of t) (edges_in (ps ⧺ qs)), occurs_append e (edges_of t) (edges_in ps))

module _ (G : Grammar) where
  pub inner_append : (ps qs : Parts) (v : ℕ) → occurs v (inner_in G (ps ⧺ qs)) ≡ occurs v (inner_in G ps) + occurs v (inner_in G qs)
  unfolding ◌⧺◌ inner_in occurs
  inner_append end qs v = omega arith
  inner_append (edge g ps) qs v = inner_append ps qs v
  inner_append (tree t ps) qs v =
      omega (arith, inner_append ps qs v, occurs_append v (inner_of G t) (inner_in G (ps ⧺ qs)), occurs_append v (inner_of G t) (inner_in G ps))

  pub applications_append : (ps qs : Parts) → applications_in G (ps ⧺ qs) ≡ applications_in G ps + applications_in G qs
  unfolding ◌⧺◌ applications_in
  applications_append end qs = omega arith
  applications_append (edge g ps) qs = applications_append ps qs
  applications_append (tree t ps) qs = omega (arith, applications_append ps qs)

-- how many rules stand in a tree, whatever they cost
unfoldable mutual
  pub size : Tree → ℕ
  size (apply r place ps) = suc (size_in ps)

  pub size_in : Parts → ℕ
  size_in end = 0
  size_in (edge g ps) = size_in ps
  size_in (tree t ps) = size t + size_in ps

pub size_append : (ps qs : Parts) → size_in (ps ⧺ qs) ≡ size_in ps + size_in qs
unfolding ◌⧺◌ size_in
size_append end qs = omega arith
size_append (edge g ps) qs = size_append ps qs
size_append (tree t ps) qs = omega (arith, size_append ps qs)

-- The same graph edges, inner nodes and applications, each as often.
pub record SameUse (G : Grammar) (ps qs : Parts) : Type 0 where
  pub edges : (e : ℕ) → occurs e (edges_in ps) ≡ occurs e (edges_in qs)
  pub inner : (v : ℕ) → occurs v (inner_in G ps) ≡ occurs v (inner_in G qs)
  pub count : applications_in G ps ≡ applications_in G qs
  pub size : size_in ps ≡ size_in qs

module _ (G : Grammar) (H : Graph) where
  pub fits_append : (place : List ℕ) (ps qs : Parts) (es fs : List Edge) → FitsParts G H place ps es → FitsParts G H place qs fs → FitsParts G H place (ps ⧺ qs) (es ++ fs)
  unfolding ◌⧺◌
  fits_append place end qs [] fs x y = y
  fits_append place end qs (e ∷ es) fs x y = absurd x
  fits_append place (edge g ps) qs [] fs x y = absurd x
  fits_append place (edge g ps) qs (e ∷ es) fs x y = (x.0, fits_append place ps qs es fs x.1 y)
  fits_append place (tree t ps) qs [] fs x y = absurd x
  fits_append place (tree t ps) qs (e ∷ es) fs x y = (x.0, fits_append place ps qs es fs x.1 y)

  -- parts for the edges of two lists are parts for the first and parts for the second
  pub record Halves (place : List ℕ) (ps : Parts) (es fs : List Edge) : Type 0 where
    pub first : Parts
    pub second : Parts
    pub whole : ps ≡ first ⧺ second
    pub fits_first : FitsParts G H place first es
    pub fits_second : FitsParts G H place second fs

  pub fits_split : (place : List ℕ) (ps : Parts) (es fs : List Edge) → FitsParts G H place ps (es ++ fs) → Halves place ps es fs
  unfolding ◌⧺◌
  fits_split place ps [] fs x = record { first = end; second = ps; whole = refl; fits_first = tt; fits_second = x }
  fits_split place end (e ∷ es) fs x = absurd x
  fits_split place (edge g ps) (e ∷ es) fs x =
      let h = fits_split place ps es fs x.1 in
      record { first = edge g h.first; second = h.second; whole = ap (edge g) h.whole; fits_first = (x.0, h.fits_first); fits_second = h.fits_second }
  fits_split place (tree t ps) (e ∷ es) fs x =
      let h = fits_split place ps es fs x.1 in
      record { first = tree t h.first; second = h.second; whole = ap (tree t) h.whole; fits_first = (x.0, h.fits_first); fits_second = h.fits_second }

  -- another placement that agrees on the nodes of the edges
  pub fits_place : (place other : List ℕ) (ps : Parts) (es : List Edge)
      → ((i : ℕ) → i < length es → images place (edge_at es i).attachment ≡ images other (edge_at es i).attachment)
      → FitsParts G H place ps es → FitsParts G H other ps es
  fits_place place other end [] q x = x
  fits_place place other end (e ∷ es) q x = absurd x
  fits_place place other (edge g ps) [] q x = absurd x
  fits_place place other (edge g ps) (e ∷ es) q x =
      (subst (λ (L : List ℕ). FitsEdge G H e.label L g) (q 0 (omega arith)) x.0, fits_place place other ps es (λ i l. q (suc i) (omega arith)) x.1)
  fits_place place other (tree t ps) [] q x = absurd x
  fits_place place other (tree t ps) (e ∷ es) q x =
      (subst (λ (L : List ℕ). Fits G H e.label L t) (q 0 (omega arith)) x.0, fits_place place other ps es (λ i l. q (suc i) (omega arith)) x.1)

  pub record Moved (place : List ℕ) (ps : Parts) (es : List Edge) : Type 0 where
    pub parts : Parts
    pub fits : FitsParts G H place parts es
    pub same : SameUse G parts ps

  same_refl : (ps : Parts) → SameUse G ps ps
  same_refl ps = record { edges = λ e. refl; inner = λ v. refl; count = refl; size = refl }

  same_edge : (g : ℕ) (ps qs : Parts) → SameUse G ps qs → SameUse G (edge g ps) (edge g qs)
  unfolding edges_in inner_in applications_in size_in occurs
  same_edge g ps qs s = record { edges = λ e. omega (arith, s.edges e); inner = s.inner; count = s.count; size = s.size }

  same_tree : (t : Tree) (ps qs : Parts) → SameUse G ps qs → SameUse G (tree t ps) (tree t qs)
  unfolding edges_in inner_in applications_in size_in
  same_tree t ps qs s =
      record {
        edges = λ e. omega (arith, s.edges e, occurs_append e (edges_of t) (edges_in ps), occurs_append e (edges_of t) (edges_in qs));
        inner = λ v. omega (arith, s.inner v, occurs_append v (inner_of G t) (inner_in G ps), occurs_append v (inner_of G t) (inner_in G qs));
        count = omega (arith, s.count);
        size = omega (arith, s.size);
      }

  same_trans : (ps qs rs : Parts) → SameUse G ps qs → SameUse G qs rs → SameUse G ps rs
  same_trans ps qs rs s t = record { edges = λ e. s.edges e ∙ t.edges e; inner = λ v. s.inner v ∙ t.inner v; count = s.count ∙ t.count; size = s.size ∙ t.size }

  -- the first two parts exchanged
  swapped : (place : List ℕ) (a b : Edge) (xs : List Edge) (ps : Parts) → FitsParts G H place ps (a ∷ b ∷ xs) → Moved place ps (b ∷ a ∷ xs)
  unfolding edges_in inner_in applications_in size_in occurs
  swapped place a b xs end x = absurd x
  swapped place a b xs (edge g end) x = absurd x.1
  swapped place a b xs (tree t end) x = absurd x.1
  swapped place a b xs (edge g (edge h ps)) x =
      record { parts = edge h (edge g ps); fits = (x.1.0, (x.0, x.1.1)); same = record { edges = λ e. omega arith; inner = λ v. refl; count = refl; size = refl } }
  swapped place a b xs (edge g (tree u ps)) x =
      record {
        parts = tree u (edge g ps);
        fits = (x.1.0, (x.0, x.1.1));
        same = record { edges = λ e. omega (arith, occurs_append e (edges_of u) (g ∷ edges_in ps), occurs_append e (edges_of u) (edges_in ps)); inner = λ v. refl; count = refl; size = refl };
      }
  swapped place a b xs (tree t (edge h ps)) x =
      record {
        parts = edge h (tree t ps);
        fits = (x.1.0, (x.0, x.1.1));
        same = record { edges = λ e. omega (arith, occurs_append e (edges_of t) (h ∷ edges_in ps), occurs_append e (edges_of t) (edges_in ps)); inner = λ v. refl; count = refl; size = refl };
      }
  swapped place a b xs (tree t (tree u ps)) x =
      record {
        parts = tree u (tree t ps);
        fits = (x.1.0, (x.0, x.1.1));
        same = record {
          edges = λ e. omega (
            arith,
            occurs_append e (edges_of u) (edges_of t ++ edges_in ps),
            occurs_append e (edges_of t) (edges_in ps),
            occurs_append e (edges_of t) (edges_of u ++ edges_in ps),
            occurs_append e (edges_of u) (edges_in ps),
          );
          inner = λ v. omega (
            arith,
            occurs_append v (inner_of G u) (inner_of G t ++ inner_in G ps),
            occurs_append v (inner_of G t) (inner_in G ps),
            occurs_append v (inner_of G t) (inner_of G u ++ inner_in G ps),
            occurs_append v (inner_of G u) (inner_in G ps),
          );
          count = omega arith;
          size = omega arith;
        };
      }

  pub fits_reorder : (place : List ℕ) {es fs : List Edge} → Reordered es fs → (ps : Parts) → FitsParts G H place ps es → Moved place ps fs
  fits_reorder place none ps x = record { parts = ps; fits = x; same = same_refl ps }
  fits_reorder place (keep {a} {xs} {ys} r) ps x = go ps x (fits_reorder place r)
    where
      go : (ps : Parts) → FitsParts G H place ps (a ∷ xs) → ((qs : Parts) → FitsParts G H place qs xs → Moved place qs ys) → Moved place ps (a ∷ ys)
      go end x ih = absurd x
      go (edge g qs) x ih = let m = ih qs x.1 in record { parts = edge g m.parts; fits = (x.0, m.fits); same = same_edge g m.parts qs m.same }
      go (tree t qs) x ih = let m = ih qs x.1 in record { parts = tree t m.parts; fits = (x.0, m.fits); same = same_tree t m.parts qs m.same }
  fits_reorder place (swap {a} {b} {xs}) ps x = swapped place a b xs ps x
  fits_reorder place (trans r s) ps x =
      let m = fits_reorder place r ps x in
      let k = fits_reorder place s m.parts m.fits in
      record { parts = k.parts; fits = k.fits; same = same_trans k.parts m.parts ps k.same m.same }
