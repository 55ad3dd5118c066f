-- The laws of rows: as many as there are applications; and the rows from a number on.
use mathlib.Core.Path.{◌≡◌, refl, sym, ap, ◌∙◌}
use mathlib.Core.List.{List, [], ◌∷◌, ◌++◌}
use Prim.Native.Nat.{ℕ, suc, ◌+◌, ◌≤◌, ◌<◌}
use native.Mathlib.Omega.{arith}
use native.Mathlib.Numerals.{add-one}
use lib.ListN.{length, get_or, take, drop, length-append, length-drop, take-append-drop}
use lib.Seq.{drop-cons, drop-drop, drop_at}
use Rattle.hrg.specs.Grammars.{Grammar, cost}
use Rattle.hrg.specs.Trees.{Tree, Parts, apply, end, edge, tree, applications, applications_in}
use Rattle.preorder.specs.Rows.{size, size_in, tree_rows, part_rows}

-- ---- as many rows as applications
mutual
  unfolding size tree_rows

  pub length_rows : (n : ℕ) (t : Tree) → length (tree_rows n t) ≡ size t
  length_rows n (apply r place ps) = ap suc (length_part_rows (n + 1) ps)

  pub length_part_rows : (n : ℕ) (ps : Parts) → length (part_rows n ps) ≡ size_in ps
  length_part_rows n end = refl
  length_part_rows n (edge g ps) = length_part_rows n ps
  length_part_rows n (tree t ps) =
      omega (arith, length-append (tree_rows n t) (part_rows (n + size t) ps), length_rows n t, length_part_rows (n + size t) ps)

pub size_positive : (t : Tree) → 1 ≤ size t
unfolding size
size_positive (apply r place ps) = omega arith

-- ---- each application counts 1
mutual
  unfolding applications size cost

  pub size_applications : (G : Grammar) (t : Tree) → applications G t ≡ size t
  size_applications G (apply r place ps) = omega (arith, size_parts G ps)

  size_parts : (G : Grammar) (ps : Parts) → applications_in G ps ≡ size_in ps
  size_parts G end = refl
  size_parts G (edge g ps) = size_parts G ps
  size_parts G (tree t ps) = omega (arith, size_applications G t, size_parts G ps)

-- ---- the rows from number n on
-- there is a row n, and the rest are the rows after it
pub record Next (rows : List (List ℕ)) (n : ℕ) (row : List ℕ) (rest : List (List ℕ)) : Type 0 where
  pub known : n < length rows
  pub here : get_or rows n [] ≡ row
  pub after : drop (n + 1) rows ≡ rest

pub next_row : (rows : List (List ℕ)) (n : ℕ) (row : List ℕ) (rest : List (List ℕ)) → drop n rows ≡ row ∷ rest → Next rows n row rest
next_row rows n row rest e =
    let known : n < length rows = omega (arith, length-drop n rows, ap length e) in
    let split : get_or rows n [] ∷ drop (suc n) rows ≡ row ∷ rest = sym (drop-cons rows n [] known) ∙ e in
    record { known = known; here = (cc); after = ap (λ k. drop k rows) (add-one n) ∙ (cc) }

-- the rows after those of a tree
pub rows_after : (rows : List (List ℕ)) (n : ℕ) (t : Tree) (rest : List (List ℕ)) → drop n rows ≡ tree_rows n t ++ rest → drop (n + size t) rows ≡ rest
rows_after rows n t rest e =
    sym (drop-drop (size t) n rows) ∙ ap (drop (size t)) e ∙ drop_at (tree_rows n t) rest (size t) (length_rows n t)

-- ---- a row by its fields
pub row_fields : (row : List ℕ) (n r k m : ℕ) → get_or row 0 0 ≡ n → get_or row 1 0 ≡ r → length row ≡ 2 + (k + m)
    → row ≡ n ∷ r ∷ (take k (drop 2 row) ++ drop k (drop 2 row))
row_fields [] n r k m e f l = absurd (omega arith)
row_fields (a ∷ []) n r k m e f l = absurd (omega arith)
row_fields (a ∷ b ∷ fs) n r k m e f l = rw take-append-drop (cc)
