-- The numbers in a row, edge by edge.
use mathlib.Core.Path.{◌≡◌, sym, ap, ap₂, ◌∙◌}
use mathlib.Core.Bool.{Bool, cond}
use mathlib.Core.List.{List, [], ◌∷◌, ◌++◌, append_assoc, append-nil}
use Prim.Native.Nat.{ℕ, suc, ◌+◌, ◌≤◌, ◌<◌}
use native.Mathlib.Numerals.{add-one}
use native.Mathlib.Omega.{arith}
use lib.ListN.{length, get_or, set, take, drop, length-set, drop_of_length-le}
use lib.Seq.{drop-cons, take-suc-set}
use Rattle.hrg.specs.Grammars.{Kind, terminal, nonterminal, Edge, Grammar, no_edge, kind_of, edge_at}
use Rattle.extraction.specs.Listing.{number_by, next_by, numbers_from, end_from}
use Rattle.extractor.specs.Reading.{is_nonterminal}
use Rattle.extractor.specs.RowFacts.{NumberedBy}

-- ---- one edge, by the test of its kind
number_by_lem : (x : Kind) (t : Bool) (b next : ℕ) → t ≡ is_nonterminal x → cond t next b ≡ number_by x b next
number_by_lem terminal t b next e = rw e
number_by_lem nonterminal t b next e = rw e

next_by_lem : (x : Kind) (t : Bool) (size : ℕ → ℕ) (next : ℕ) → t ≡ is_nonterminal x → cond t (next + size next) next ≡ next_by x size next
next_by_lem terminal t size next e = rw e
next_by_lem nonterminal t size next e = rw e

-- ---- all edges
module _ (G : Grammar) (bs sizes : List ℕ) (es : List Edge) (from : ℕ) (start : List ℕ) (at : ℕ) where
  abbrev size : ℕ → ℕ
  size = λ m. get_or sizes m 0

  -- the numbers so far and those of the rest are all
  pub record Numbering (fields : List ℕ) (next i : ℕ) : Type 0 where
    pub inside : i ≤ length es
    pub same : length fields ≡ length start
    pub up : from ≤ next
    pub few : next < length sizes
    pub listed : take (at + i) fields ++ numbers_from G bs size (drop i es) i next ≡ take at start ++ numbers_from G bs size es 0 from
    pub end : end_from G size (drop i es) next ≡ end_from G size es from

  abbrev kind_in : ℕ → Kind
  kind_in = λ i. kind_of G (edge_at es i).label

  numbers_next : (i next : ℕ) → i < length es
      → numbers_from G bs size (drop i es) i next ≡ number_by (kind_in i) (get_or bs i 0) next ∷ numbers_from G bs size (drop (suc i) es) (i + 1) (next_by (kind_in i) size next)
  unfolding numbers_from
  numbers_next i next h = ap (λ (l : List Edge). numbers_from G bs size l i next) (drop-cons es i no_edge h)

  end_next : (i next : ℕ) → i < length es → end_from G size (drop i es) next ≡ end_from G size (drop (suc i) es) (next_by (kind_in i) size next)
  unfolding end_from
  end_next i next h = ap (λ (l : List Edge). end_from G size l next) (drop-cons es i no_edge h)

  pub numbering_next : (fields : List ℕ) (next i v n : ℕ) (t : Bool) → i < length es → at + i < length start → Numbering fields next i → t ≡ is_nonterminal (kind_in i)
      → v ≡ cond t next (get_or bs i 0) → (n ≡ cond t (next + get_or sizes next 0) next) × (next ≤ n) × (n < length sizes) → Numbering (set fields (at + i) v) n (i + 1)
  numbering_next fields next i v n t h low p test a (b, up, few) = record {
    inside = omega arith;
    same = length-set fields (at + i) v ∙ p.same;
    up = omega (arith, p.up);
    few = few;
    listed =
        ap (λ (k : ℕ). take k (set fields (at + i) v) ++ numbers_from G bs size (drop (i + 1) es) (i + 1) n) behind
        ∙ ap₂ (λ (l : List ℕ) (k : ℕ). l ++ numbers_from G bs size (drop k es) (i + 1) n) (take-suc-set fields (at + i) v (omega (arith, p.same))) (add-one i)
        ∙ append_assoc (take (at + i) fields) (v ∷ []) (numbers_from G bs size (drop (suc i) es) (i + 1) n)
        ∙ ap (λ (l : List ℕ). take (at + i) fields ++ l) (sym step)
        ∙ p.listed;
    end = rw (add-one i) (ap (λ (m : ℕ). end_from G size (drop (suc i) es) m) next_is ∙ sym (end_next i next h) ∙ p.end);
  }
    where
      behind : at + (i + 1) ≡ suc (at + i)
      behind = omega arith

      next_is : n ≡ next_by (kind_in i) size next
      next_is = b ∙ next_by_lem (kind_in i) t size next test

      step : numbers_from G bs size (drop i es) i next ≡ v ∷ numbers_from G bs size (drop (suc i) es) (i + 1) n
      step =
          numbers_next i next h
          ∙ ap₂ (λ (x m : ℕ). x ∷ numbers_from G bs size (drop (suc i) es) (i + 1) m) (sym (a ∙ number_by_lem (kind_in i) t (get_or bs i 0) next test)) (sym next_is)

  pub numbering_done : (fields : List ℕ) (next i edges : ℕ) → edges ≡ length es → edges ≤ i → Numbering fields next i → NumberedBy G bs sizes es from start at fields next
  unfolding numbers_from end_from
  numbering_done fields next i edges e h p =
      let same : length es ≡ i = omega (arith, p.inside) in
      let none : drop i es ≡ [] = drop_of_length-le es {i = i} (omega arith) in
      record {
        numbers = ap (λ (k : ℕ). take (at + k) fields) same ∙ sym (append-nil (take (at + i) fields)) ∙ ap (λ (l : List Edge). take (at + i) fields ++ numbers_from G bs size l i next) (sym none) ∙ p.listed;
        end = ap (λ (l : List Edge). end_from G size l next) (sym none) ∙ p.end;
        up = p.up;
        inside = p.few;
      }
