-- The rows that are made of a listing from its end are those of the tree.
use mathlib.Core.Path.{◌≡◌, refl, sym, ap, ap₂, ◌∙◌, subst}
use mathlib.Core.List.{List, [], ◌∷◌, ◌++◌, append_assoc, append-nil}
use Prim.Native.Nat.{ℕ, zero, suc, ◌+◌, ◌≤◌}
use native.Mathlib.Omega.{arith}
use lib.ListN.{get_or}
use borrow.Author.Tests.{eq-eqb, ne_eqb}
use Rattle.hrg.specs.Grammars.{terminal, nonterminal, Edge, Graph, Grammar, kind_of, right_of}
use Rattle.hrg.specs.Trees.{Tree, Parts, apply, end, edge, tree}
use Rattle.preorder.specs.Rows.{size, size_in, part_numbers, tree_rows, part_rows, rows_of}
use Rattle.agenda.specs.declared.Record.{Record}
use Rattle.extraction.specs.Extraction.{rule_at, partners_at, place_at, spelt, tree_at}
use Rattle.extraction.specs.Listing.{children_from, children_at, numbers_from, end_from, row_at, span_at, sizes_from, rows_from}
use Rattle.extraction.proofs.Listings.{flat, records_under, PartsSpelt, no_edges, an_edge, a_tree, tree_applied, tree_none}

module _ (look : ℕ → Record) (G : Grammar) (H : Graph) where
  -- the rows and sizes of the records ls from number n on, where the first of them are those of a tree, and then come
  -- js
  pub record TreeListed (t : Tree) (ls js : List ℕ) (n : ℕ) : Type 0 where
    pub rows : rows_from look G H n ls ≡ tree_rows n t ++ rows_from look G H (n + size t) js
    pub here : sizes_from look G n ls n ≡ size t
    pub later : (m : ℕ) → n + size t ≤ m → sizes_from look G n ls m ≡ sizes_from look G (n + size t) js m

  -- the same of the parts for the edges es
  pub record PartsListed (bs : List ℕ) (es : List Edge) (i : ℕ) (ps : Parts) (ls js : List ℕ) (n : ℕ) : Type 0 where
    pub rows : rows_from look G H n ls ≡ part_rows n ps ++ rows_from look G H (n + size_in ps) js
    pub later : (m : ℕ) → n + size_in ps ≤ m → sizes_from look G n ls m ≡ sizes_from look G (n + size_in ps) js m
    pub numbers : (sz : ℕ → ℕ) → ((m : ℕ) → n ≤ m → sz m ≡ sizes_from look G n ls m) → numbers_from G bs sz es i n ≡ part_numbers n ps
    pub ends : (sz : ℕ → ℕ) → ((m : ℕ) → n ≤ m → sz m ≡ sizes_from look G n ls m) → end_from G sz es n ≡ n + size_in ps

  abbrev Rows : ℕ → Type 0
  Rows d = (j : ℕ) (t : Tree) → tree_at look G H d j ≡ spelt t → (n : ℕ) (js : List ℕ) → TreeListed t (records_under look G d j ++ js) js n

  module _ (d : ℕ) (ih : Rows d) (bs : List ℕ) where
    abbrev under : List Edge → ℕ → List ℕ
    under es i = flat look G (λ b. records_under look G d b) (children_from G bs es i)

    no_parts : (i n : ℕ) (js : List ℕ) → PartsListed bs [] i end js js n
    unfolding size part_numbers part_rows numbers_from end_from
    no_parts i n js =
        let z : n ≡ n + 0 = omega arith in
        record {
          rows = ap (λ (k : ℕ). rows_from look G H k js) z;
          later = λ m l. ap (λ (k : ℕ). sizes_from look G k js m) z;
          numbers = λ sz h. refl;
          ends = λ sz h. z;
        }

    edge_part : (e : Edge) (es : List Edge) (i : ℕ) (ps : Parts) (ls js : List ℕ) (n : ℕ) → kind_of G e.label ≡ terminal
        → PartsListed bs es (i + 1) ps ls js n → PartsListed bs (e ∷ es) i (edge (get_or bs i 0) ps) ls js n
    unfolding size part_numbers part_rows numbers_from end_from
    edge_part e es i ps ls js n q p =
        record {
          rows = p.rows;
          later = p.later;
          numbers = λ sz h. rw q (ap (λ (l : List ℕ). get_or bs i 0 ∷ l) (p.numbers sz h));
          ends = λ sz h. rw q (p.ends sz h);
        }

    tree_part : (e : Edge) (es : List Edge) (i : ℕ) (t : Tree) (ps : Parts) (ls ks js : List ℕ) (n : ℕ) → kind_of G e.label ≡ nonterminal
        → TreeListed t ls ks n → PartsListed bs es (i + 1) ps ks js (n + size t) → PartsListed bs (e ∷ es) i (tree t ps) ls js n
    unfolding size part_numbers part_rows numbers_from end_from
    tree_part e es i t ps ls ks js n q x p =
        let sum : (n + size t) + size_in ps ≡ n + (size t + size_in ps) = omega arith in
        record {
          rows = x.rows ∙ ap (λ (l : List (List ℕ)). tree_rows n t ++ l) (p.rows ∙ ap (λ (k : ℕ). part_rows (n + size t) ps ++ rows_from look G H k js) sum)
              ∙ sym (append_assoc (tree_rows n t) (part_rows (n + size t) ps) (rows_from look G H (n + (size t + size_in ps)) js));
          later = λ m l. x.later m (omega (arith, l)) ∙ p.later m (omega (arith, l)) ∙ ap (λ (k : ℕ). sizes_from look G k js m) sum;
          numbers = λ sz h.
              let next : n + sz n ≡ n + size t = omega (arith, h n (omega arith), x.here) in
              rw q (ap (λ (l : List ℕ). n ∷ l) (ap (λ (k : ℕ). numbers_from G bs sz es (i + 1) k) next ∙ p.numbers sz (λ m l. h m (omega (arith, l)) ∙ x.later m l)));
          ends = λ sz h.
              let next : n + sz n ≡ n + size t = omega (arith, h n (omega arith), x.here) in
              rw q (ap (λ (k : ℕ). end_from G sz es k) next ∙ p.ends sz (λ m l. h m (omega (arith, l)) ∙ x.later m l) ∙ sum);
        }

    parts_listed : (es : List Edge) (i : ℕ) (ps : Parts) → PartsSpelt (λ b. tree_at look G H d b) G bs es i ps → (n : ℕ) (js : List ℕ)
        → PartsListed bs es i ps (under es i ++ js) js n
    unfolding children_from flat
    parts_listed [] i end no_edges n js = no_parts i n js
    parts_listed [] i (edge g ps) s n js = elim s [ ]
    parts_listed [] i (tree t ps) s n js = elim s [ ]
    parts_listed (e ∷ es) i end s n js = elim s [ ]
    parts_listed (e ∷ es) i (edge g ps) (an_edge q s) n js =
        rw q (edge_part e es i ps (under es (i + 1) ++ js) js n q (parts_listed es (i + 1) ps s n js))
    parts_listed (e ∷ es) i (tree t ps) (a_tree q r s) n js =
        rw (q, append_assoc (records_under look G d (get_or bs i 0)) (under es (i + 1)) js)
        (tree_part e es i t ps (records_under look G d (get_or bs i 0) ++ (under es (i + 1) ++ js)) (under es (i + 1) ++ js) js n q
        (ih (get_or bs i 0) t r n (under es (i + 1) ++ js)) (parts_listed es (i + 1) ps s (n + size t) js))

  -- an application in front of its parts
  application : (j : ℕ) (ps : Parts) (ls js : List ℕ) (n : ℕ) → PartsListed (partners_at look G j) (right_of G (rule_at look j)).edges 0 ps ls js (n + 1)
      → TreeListed (apply (rule_at look j) (place_at look G H j) ps) (j ∷ ls) js n
  unfolding size tree_rows rows_from sizes_from row_at span_at
  application j ps ls js n p =
      let sum : (n + 1) + size_in ps ≡ n + suc (size_in ps) = omega arith in
      let later : ℕ → ℕ = λ m. sizes_from look G (n + 1) ls m in
      record {
        rows = ap₂ (λ (row : List ℕ) (l : List (List ℕ)). row ∷ l)
            (ap (λ (l : List ℕ). n ∷ rule_at look j ∷ (place_at look G H j ++ l)) (p.numbers later (λ m l. refl)))
            (p.rows ∙ ap (λ (k : ℕ). part_rows (n + 1) ps ++ rows_from look G H k js) sum);
        here = rw (eq-eqb n n refl) (omega (arith, p.ends later (λ m l. refl)));
        later = λ m l. rw (ne_eqb m n (λ q. omega (arith, l, q))) (p.later m (omega (arith, l)) ∙ ap (λ (k : ℕ). sizes_from look G k js m) sum);
      }

  tree_listed : (d : ℕ) → Rows d
  unfolding records_under children_at
  tree_listed zero j t q n js = absurd (tree_none look G H j t q)
  tree_listed (suc d) j t q n js =
      let a = tree_applied look G H d j t q in
      let bs = partners_at look G j in
      let es = (right_of G (rule_at look j)).edges in
      let ls = under d (tree_listed d) bs es 0 ++ js in
      subst (λ (u : Tree). TreeListed u (j ∷ ls) js n) (sym a.whole)
      (application j a.parts ls js n (parts_listed d (tree_listed d) bs es 0 a.parts a.spelled (n + 1) js))

  pub rows_listed : (d j : ℕ) (t : Tree) → tree_at look G H d j ≡ spelt t → rows_from look G H 0 (records_under look G d j) ≡ rows_of t
  unfolding rows_of rows_from
  rows_listed d j t q =
      ap (rows_from look G H 0) (sym (append-nil (records_under look G d j))) ∙ (tree_listed d j t q 0 []).rows ∙ append-nil (tree_rows 0 t)
