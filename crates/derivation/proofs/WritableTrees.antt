-- The rows of a tree that generates the graph have a text: at most 18 fields in a row, each at most 9,999.
use mathlib.Core.Path.{◌≡◌, refl, ap}
use mathlib.Core.List.{List, [], ◌∷◌, ◌++◌}
use Prim.Native.Nat.{ℕ, zero, suc, ◌+◌, ◌≤◌, ◌<◌}
use native.Mathlib.Omega.{arith}
use lib.ListN.{length, get_or, length-append}
use Rattle.format.specs.Writing.{Writable}
use Rattle.scripts.specs.Scripts.{WritableLines, none, more, WritableRows}
use Rattle.scripts.proofs.RowTexts.{writable_append}
use Rattle.hrg.specs.Grammars.{Edge, Graph, Grammar, right_of}
use Rattle.hrg.specs.Trees.{at, images, Tree, Parts, apply, end, edge, tree, FitsRule, Fits, FitsParts, Generates}
use Rattle.hrg.specs.WellFormed.{GrammarOk, GraphOk}
use Rattle.preorder.specs.Rows.{size, size_in, part_numbers, tree_rows, part_rows, rows_of}
use Rattle.preorder.proofs.Rows.{length_rows, size_positive}

-- ---- numbers that have a field
abbrev Small : List ℕ → Type 0
Small ns = (k : ℕ) → get_or ns k 0 ≤ 9999

small_none : Small []
small_none k = omega arith

small_cons : (n : ℕ) (ns : List ℕ) → n ≤ 9999 → Small ns → Small (n ∷ ns)
small_cons n ns h s zero = h
small_cons n ns h s (suc k) = s k

small_append : (xs ys : List ℕ) → Small xs → Small ys → Small (xs ++ ys)
small_append [] ys s u = u
small_append (x ∷ xs) ys s u = small_cons x (xs ++ ys) (s 0) (small_append xs ys (λ k. s (suc k)) u)

small_place : (place : List ℕ) → ((x : ℕ) → x < length place → at place x ≤ 9999) → Small place
small_place [] h = small_none
small_place (v ∷ place) h = small_cons v place (h 0 (omega arith)) (small_place place (λ x l. h (suc x) (omega arith)))

module _ (G : Grammar) (H : Graph) (ok : GrammarOk G) (hok : GraphOk G H) where
  -- ---- a number for each part
  pub numbers_length : (place : List ℕ) (ps : Parts) (rs : List Edge) (n : ℕ) → FitsParts G H place ps rs → length (part_numbers n ps) ≡ length rs
  unfolding part_numbers
  numbers_length place end [] n f = refl
  numbers_length place end (r ∷ rs) n f = absurd f
  numbers_length place (edge g ps) [] n f = absurd f
  numbers_length place (edge g ps) (r ∷ rs) n f = ap suc (numbers_length place ps rs n f.1)
  numbers_length place (tree t ps) [] n f = absurd f
  numbers_length place (tree t ps) (r ∷ rs) n f = ap suc (numbers_length place ps rs (n + size t) f.1)

  -- an edge is below 64, an application below 4,096
  numbers_small : (place : List ℕ) (ps : Parts) (rs : List Edge) (n : ℕ) → FitsParts G H place ps rs → n + size_in ps ≤ 4096 → Small (part_numbers n ps)
  unfolding part_numbers size
  numbers_small place end [] n f h = small_none
  numbers_small place end (r ∷ rs) n f h = absurd f
  numbers_small place (edge g ps) [] n f h = absurd f
  numbers_small place (edge g ps) (r ∷ rs) n f h =
      small_cons g (part_numbers n ps) (omega (arith, f.0.known, hok.side.edge_count.upper)) (numbers_small place ps rs n f.1 h)
  numbers_small place (tree t ps) [] n f h = absurd f
  numbers_small place (tree t ps) (r ∷ rs) n f h =
      small_cons n (part_numbers (n + size t) ps) (omega arith) (numbers_small place ps rs (n + size t) f.1 (omega arith))

  -- ---- the row of an application
  row_writable : (s n r : ℕ) (L place : List ℕ) (ps : Parts) → FitsRule G H s L r place → FitsParts G H place ps (right_of G r).edges → n + (1 + size_in ps) ≤ 4096
      → Writable 65 (n ∷ r ∷ (place ++ part_numbers (n + 1) ps))
  row_writable s n r L place ps f fs h =
      let right = (ok.rule r f.known).right in
      let numbers = part_numbers (n + 1) ps in
      let fields : length (place ++ numbers) ≤ 16 =
      omega (arith, length-append place numbers, f.sized, numbers_length place ps (right_of G r).edges (n + 1) fs, right.node_count.upper, right.edge_count.upper)
      in
      let nodes : Small place = small_place place (λ x l. omega (arith, f.placed x (omega (arith, f.sized)), hok.side.node_count.upper)) in
      let parts : Small numbers = numbers_small place ps (right_of G r).edges (n + 1) fs (omega arith) in
      let rule : Small (r ∷ (place ++ numbers)) =
      small_cons r (place ++ numbers) (omega (arith, f.known, ok.rule_count_is.upper)) (small_append place numbers nodes parts)
      in
      record {
        capital = (omega arith, omega arith);
        some = omega arith;
        few = omega (arith, fields);
        small = small_cons n (r ∷ (place ++ numbers)) (omega arith) rule;
      }

  -- ---- the rows of a tree
  mutual
    unfolding size tree_rows

    tree_writable : (s : ℕ) (L : List ℕ) (n : ℕ) (t : Tree) → Fits G H s L t → n + size t ≤ 4096 → WritableLines (tree_rows n t)
    tree_writable s L n (apply r place ps) f h =
        more (row_writable s n r L place ps f.0 f.1 (omega arith)) (parts_writable place ps (right_of G r).edges (n + 1) f.1 (omega arith))

    parts_writable : (place : List ℕ) (ps : Parts) (rs : List Edge) (n : ℕ) → FitsParts G H place ps rs → n + size_in ps ≤ 4096 → WritableLines (part_rows n ps)
    parts_writable place end rs n f h = none
    parts_writable place (edge g ps) [] n f h = absurd f
    parts_writable place (edge g ps) (r ∷ rs) n f h = parts_writable place ps rs n f.1 h
    parts_writable place (tree t ps) [] n f h = absurd f
    parts_writable place (tree t ps) (r ∷ rs) n f h =
        writable_append (tree_rows n t) (part_rows (n + size t) ps)
        (tree_writable r.label (images place r.attachment) n t f.0 (omega arith)) (parts_writable place ps rs (n + size t) f.1 (omega arith))

  pub rows_writable : (t : Tree) → Generates G H t → size t ≤ 4096 → WritableRows (rows_of t)
  unfolding rows_of
  rows_writable t g h =
      record {
        some = omega (arith, length_rows 0 t, size_positive t);
        few = omega (arith, length_rows 0 t);
        each = tree_writable G.start H.externals 0 t g.fits (omega arith);
      }
