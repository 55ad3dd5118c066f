-- Trees that stand for the same edge and have the same rows are the same tree.
use mathlib.Core.Path.{◌≡◌, refl, sym, ap, subst, ◌∙◌}
use mathlib.Core.List.{List, [], ◌∷◌, ◌++◌, append_assoc, append-nil}
use Prim.Native.Nat.{ℕ, ◌+◌}
use native.Mathlib.Omega.{arith}
use lib.ListN.{length, take, drop}
use lib.Seq.{take_at, drop_at}
use Rattle.hrg.specs.Grammars.{terminal, nonterminal, Edge, Graph, Grammar, kind_of, right_of}
use Rattle.hrg.specs.Trees.{images, Tree, Parts, apply, end, edge, tree, Fits, FitsParts}
use Rattle.preorder.specs.Rows.{size, part_numbers, tree_rows, part_rows, rows_of}

-- two lists that are split at the same place
split_eq : (xs ys us vs : List ℕ) → length xs ≡ length us → xs ++ ys ≡ us ++ vs → (xs ≡ us) × (ys ≡ vs)
split_eq xs ys us vs l e = (
  sym (take_at xs ys (length us) l) ∙ ap (take (length us)) e ∙ take_at us vs (length us) refl,
  sym (drop_at xs ys (length us) l) ∙ ap (drop (length us)) e ∙ drop_at us vs (length us) refl,
)

module _ (G : Grammar) (H : Graph) where
  two_kinds : {A : Type 0} (s : ℕ) → kind_of G s ≡ terminal → kind_of G s ≡ nonterminal → A
  two_kinds s p q = let z : ◌≡◌ {A = ℕ} 0 1 = cc in absurd (omega arith)

  fits_kind : (s : ℕ) (L : List ℕ) (t : Tree) → Fits G H s L t → kind_of G s ≡ nonterminal
  fits_kind s L (apply r place ps) f = f.0.kind

  mutual
    unfolding tree_rows part_numbers

    tree_unique : (s : ℕ) (L : List ℕ) (n : ℕ) (t u : Tree) (k m : List (List ℕ)) → Fits G H s L t → Fits G H s L u → tree_rows n t ++ k ≡ tree_rows n u ++ m → (t ≡ u) × (k ≡ m)
    tree_unique s L n (apply r place ps) (apply r' place' ps') k m f f' e =
        let er : r ≡ r' = cc in
        let fields : place ++ part_numbers (n + 1) ps ≡ place' ++ part_numbers (n + 1) ps' = cc in
        let rest : part_rows (n + 1) ps ++ k ≡ part_rows (n + 1) ps' ++ m = cc in
        let both = split_eq place (part_numbers (n + 1) ps) place' (part_numbers (n + 1) ps') (f.0.sized ∙ ap (λ (z : ℕ). (right_of G z).nodes) er ∙ sym f'.0.sized) fields in
        let ep : place ≡ place' = both.0 in
        let same = parts_unique place ps ps' (right_of G r).edges (n + 1) k m f.1
        (subst (λ (z : ℕ). FitsParts G H place ps' (right_of G z).edges) (sym er) (subst (λ (l : List ℕ). FitsParts G H l ps' (right_of G r').edges) (sym ep) f'.1)) both.1 rest in
        let eps : ps ≡ ps' = same.0 in
        ((cc), same.1)

    parts_unique : (place : List ℕ) (ps qs : Parts) (rs : List Edge) (n : ℕ) (k m : List (List ℕ)) → FitsParts G H place ps rs → FitsParts G H place qs rs
        → part_numbers n ps ≡ part_numbers n qs → part_rows n ps ++ k ≡ part_rows n qs ++ m → (ps ≡ qs) × (k ≡ m)
    parts_unique place end end [] n k m f f' x e = (refl, e)
    parts_unique place end (edge g qs) [] n k m f f' x e = absurd f'
    parts_unique place end (tree u qs) [] n k m f f' x e = absurd f'
    parts_unique place (edge g ps) qs [] n k m f f' x e = absurd f
    parts_unique place (tree t ps) qs [] n k m f f' x e = absurd f
    parts_unique place end qs (r ∷ rs) n k m f f' x e = absurd f
    parts_unique place (edge g ps) end (r ∷ rs) n k m f f' x e = absurd f'
    parts_unique place (edge g ps) (edge h qs) (r ∷ rs) n k m f f' x e =
        let eg : g ≡ h = cc in
        let numbers : part_numbers n ps ≡ part_numbers n qs = cc in
        let same = parts_unique place ps qs rs n k m f.1 f'.1 numbers e in
        let eps : ps ≡ qs = same.0 in
        ((cc), same.1)
    parts_unique place (edge g ps) (tree u qs) (r ∷ rs) n k m f f' x e = two_kinds r.label f.0.kind (fits_kind _ _ u f'.0)
    parts_unique place (tree t ps) end (r ∷ rs) n k m f f' x e = absurd f'
    parts_unique place (tree t ps) (edge h qs) (r ∷ rs) n k m f f' x e = two_kinds r.label f'.0.kind (fits_kind _ _ t f.0)
    parts_unique place (tree t ps) (tree u qs) (r ∷ rs) n k m f f' x e =
        let first = tree_unique r.label (images place r.attachment) n t u (part_rows (n + size t) ps ++ k) (part_rows (n + size u) qs ++ m) f.0 f'.0
        (sym (append_assoc (tree_rows n t) (part_rows (n + size t) ps) k) ∙ e ∙ append_assoc (tree_rows n u) (part_rows (n + size u) qs) m) in
        let et : t ≡ u = first.0 in
        let numbers : part_numbers (n + size t) ps ≡ part_numbers (n + size u) qs = cc in
        let es : size u ≡ size t = ap size (sym et) in
        let same = parts_unique place ps qs rs (n + size t) k m f.1 f'.1
        (numbers ∙ ap (λ (z : ℕ). part_numbers (n + z) qs) es) (first.1 ∙ ap (λ (z : ℕ). part_rows (n + z) qs ++ m) es) in
        let eps : ps ≡ qs = same.0 in
        ((cc), same.1)

  pub rows_unique : (s : ℕ) (L : List ℕ) (t u : Tree) → Fits G H s L t → Fits G H s L u → rows_of t ≡ rows_of u → t ≡ u
  unfolding rows_of
  rows_unique s L t u f f' e =
      (tree_unique s L 0 t u [] [] f f' (append-nil (tree_rows 0 t) ∙ e ∙ sym (append-nil (tree_rows 0 u)))).0
