-- The nodes inside an application, one rule node after another: new ones, and the mask with them.
use mathlib.Core.Path.{◌≡◌, refl, sym, ap, subst, ◌∙◌}
use mathlib.Core.Bool.{Bool, true, false, not, true≢false}
use mathlib.Core.List.{List, [], ◌∷◌}
use Prim.Native.Nat.{ℕ, ◌+◌, ◌^◌, ◌≤◌, ◌<◌}
use native.Mathlib.Omega.{arith}
use native.Mathlib.Numerals.{add-one}
use native.Mathlib.Decide.{dec_lt}
use lib.ListN.{length, get_or, take, drop, drop_of_length-le}
use lib.Seq.{drop-cons}
use lib.Dec.{eqb}
use lib.Pow.{pow-lt}
use Rattle.masks.specs.Masks.{member, single, Found, Added}
use Rattle.masks.proofs.Laws.{false_member, lt_bits, union_lt}
use Rattle.hrg.specs.Counts.{occurs, tabulate, up_to, cons_if, select}
use Rattle.hrg.specs.Grammars.{Graph, right_of}
use Rattle.hrg.specs.Trees.{at, images, internals}
use Rattle.hrg.specs.Items.{keep_if}
use Rattle.hrg.proofs.Sums.{length_tabulate}
use Rattle.questions.specs.Layout.{rank_at, rule_count, rule_nodes, rule_symbol, rule_external}
use Rattle.questions.specs.Checking.{check_grammar}
use Rattle.questions.specs.Abstract.{grammar_of, graph_of}
use Rattle.questions.proofs.StoredLaws.{get_d_tabulate, take_tabulate}
use Rattle.joins.specs.Joins.{Accepted}
use Rattle.joins.proofs.Known.{rule_ok, right_nodes, nodes_few}
use Rattle.preorder.specs.Replay.{rule_in, place_in, new_nodes}
use Rattle.preorder.proofs.Used.{Holds, holds_new}
use Rattle.std.specs.Prelude.{Some, None}
use Rattle.replayer.specs.Fitting.{node_in, new_in, with_all, taken_if, SizedRow}
use Rattle.replayer.proofs.MaskTests.{held, marks_none, marks_append}
use Rattle.replayer.proofs.RowPlaces.{externals_are, external_known, rule_known, node_there, place_at_lem, place_small}

-- ---- what is answered of a row
pub taken_not : (b : Bool) (m : ℕ) → false ≡ b → None ≡ taken_if b m
taken_not b m e = ap (λ b. taken_if b m) e

pub taken_with : (b : Bool) (k m : ℕ) → true ≡ b → k ≡ m → Some k ≡ taken_if b m
taken_with b k m e q = ap Some q ∙ ap (λ b. taken_if b m) e

-- ---- the external nodes of a rule as a mask
module _ (g : List ℕ) (r : ℕ) (checked : check_grammar g ≡ true) (known : r < rule_count g) where
  abbrev outside : List ℕ
  outside = (right_of (grammar_of g) r).externals

  pub outer_holds : (m : ℕ) → m ≡ with_all 0 outside → Holds m outside
  outer_holds m e =
      subst (λ (k : ℕ). Holds k outside) (sym e)
      (held (marks_append (right_of (grammar_of g) r).nodes 0 [] outside (rule_ok g r checked known).right.externals.inside (marks_none _)))

  module _ (symbol rank : ℕ) (s : symbol ≡ rule_symbol g r) (t : rank ≡ rank_at g symbol) where
    rank_same : rank ≡ rank_at g (rule_symbol g r)
    rank_same = t ∙ ap (rank_at g) s

    outside_are : outside ≡ tabulate rank (λ k. rule_external g r k)
    outside_are = externals_are g r checked known ∙ ap (λ n. tabulate n (λ k. rule_external g r k)) (sym rank_same)

    module _ (few : rank ≤ 4) (nodes : List ℕ) (l : nodes ≡ tabulate 4 (λ k. rule_external g r k)) where
      outside_take : take rank nodes ≡ outside
      outside_take = ap (take rank) l ∙ take_tabulate rank 4 (λ k. rule_external g r k) few ∙ sym outside_are

      pub outer_small : (k : ℕ) → k < rank → get_or nodes k 0 < 64
      outer_small k h =
          let here : get_or nodes k 0 ≡ rule_external g r k =
          ap (λ (m : List ℕ). get_or m k 0) l ∙ get_d_tabulate 4 (λ k. rule_external g r k) k 0 (omega arith) in
          omega (arith, here, external_known g r checked known k (omega (arith, rank_same)), nodes_few g r checked known)

      pub outer_all : (m : ℕ) → m ≡ with_all 0 (take rank nodes) → m ≡ with_all 0 outside
      outer_all m e = e ∙ ap (with_all 0) outside_take

-- ---- the graph node of an inner rule node
-- the graph node of rule node x, 64 where x is one of the outer ones
abbrev pub inner_at : List ℕ → ℕ → ℕ → ℕ
inner_at row outer x = keep_if (not (member outer x)) (node_in row x)

-- ---- masks of numbers below 64
pub added_lt : (m v k : ℕ) → Added m v k → m < 2 ^ 64 → k < 2 ^ 64
unfolding single
added_lt m v k added h = go (dec_lt v 64)
  where
    go : Dec (v < 64) → k < 2 ^ 64
    go (yes d) = rw (added.value d) (union_lt 64 m (2 ^ v) h (pow-lt d))
    go (no d) = rw (added.same (omega arith)) h

-- ---- the rule nodes from x on
unfoldable pub inner_from : Graph → List ℕ → ℕ → List ℕ
inner_from P row x = images (place_in P row) (select (λ y. eqb (occurs y P.externals) 0) (drop x (up_to P.nodes)))

from_first : (P : Graph) (row : List ℕ) → inner_from P row 0 ≡ new_nodes P row
unfolding inner_from new_nodes internals
from_first P row = refl

from_end : (P : Graph) (row : List ℕ) (x : ℕ) → P.nodes ≤ x → inner_from P row x ≡ []
unfolding inner_from up_to select
from_end P row x h = rw (drop_of_length-le (tabulate P.nodes (λ i. i)) {i = x} (omega (arith, length_tabulate P.nodes (λ i. i))))

drop_up_to : (n x : ℕ) → x < n → drop x (up_to n) ≡ x ∷ drop (x + 1) (up_to n)
unfolding up_to
drop_up_to n x h =
    drop-cons (tabulate n (λ i. i)) x 0 (omega (arith, length_tabulate n (λ i. i))) ∙ rw (get_d_tabulate n (λ i. i) x 0 h, add-one x)

module _ (g h row : List ℕ) (accepted : Accepted g h) (sized : SizedRow (grammar_of g) (graph_of g h) row) where
  abbrev P : Graph
  P = right_of (grammar_of g) (rule_in row)

  pub new_start : (used : ℕ) → new_in used (inner_from P row 0) ≡ new_in used (new_nodes P row)
  new_start used = ap (new_in used) (from_first P row)

  pub with_start : (used : ℕ) → with_all used (inner_from P row 0) ≡ with_all used (new_nodes P row)
  with_start used = ap (with_all used) (from_first P row)

  module _ (n : ℕ) (count : n ≡ rule_nodes g (rule_in row)) where
    known : rule_in row < rule_count g
    known = rule_known g h row accepted sized

    sized_nodes : P.nodes ≡ rule_nodes g (rule_in row)
    sized_nodes = right_nodes g (rule_in row) accepted.grammar known

    pub inner_there : (x : ℕ) → x < n → (x ≤ 8) × (2 + x < length row)
    inner_there x l = let there = node_there g h row accepted sized x (omega (arith, count)) in (omega (arith, there), there.1)

    pub new_all : (used seen x : ℕ) → n ≤ x → new_in seen (inner_from P row x) ≡ new_in used (new_nodes P row) → true ≡ new_in used (new_nodes P row)
    unfolding new_in
    new_all used seen x h inv = ap (new_in seen) (sym (from_end P row x (omega (arith, count, sized_nodes)))) ∙ inv

    pub with_all_lem : (used m x : ℕ) → n ≤ x → with_all m (inner_from P row x) ≡ with_all used (new_nodes P row) → m ≡ with_all used (new_nodes P row)
    unfolding with_all
    with_all_lem used m x h inv = ap (with_all m) (sym (from_end P row x (omega (arith, count, sized_nodes)))) ∙ inv

    -- one rule node
    module _ (outer : ℕ) (o : outer ≡ with_all 0 P.externals) (x v : ℕ) (more : x < n) (node : v ≡ inner_at row outer x) where
      abbrev inner : Bool
      inner = eqb (occurs x P.externals) 0

      value : v ≡ keep_if inner (node_in row x)
      value = node ∙ ap (λ b. keep_if b (node_in row x)) (sym (holds_new outer P.externals x (outer_holds g (rule_in row) accepted.grammar known outer o)))

      from_next : inner_from P row x ≡ images (place_in P row) (cons_if inner x (select (λ y. eqb (occurs y P.externals) 0) (drop (x + 1) (up_to P.nodes))))
      unfolding inner_from select
      from_next = rw (drop_up_to P.nodes x (omega (arith, count, sized_nodes)))

      from_external : inner ≡ false → inner_from P row x ≡ inner_from P row (x + 1)
      unfolding inner_from
      from_external e = from_next ∙ rw e

      from_inner : inner ≡ true → inner_from P row x ≡ v ∷ inner_from P row (x + 1)
      unfolding inner_from
      from_inner e =
          let same : at (place_in P row) x ≡ v = place_at_lem g h row accepted sized x (omega (arith, count)) ∙ sym (value ∙ rw e) in
          from_next ∙ rw (e, same)

      small : inner ≡ true → v < 64
      small e = omega (arith, value ∙ ap (λ b. keep_if b (node_in row x)) e, place_small g h row accepted sized x (omega (arith, count)))

      none : inner ≡ false → v ≡ 64
      none e = value ∙ rw e

      pub new_used : (used seen : ℕ) (b : Bool) → seen < 2 ^ 64 → Found seen v b → b ≡ true → new_in seen (inner_from P row x) ≡ new_in used (new_nodes P row) → false ≡ new_in used (new_nodes P row)
      unfolding new_in
      new_used used seen b bound found y inv = go inner refl ∙ inv
        where
          there : member seen v ≡ true
          there = sym found.value ∙ y

          go : (p : Bool) → inner ≡ p → false ≡ new_in seen (inner_from P row x)
          go true e = rw (from_inner e, there)
          go false e = absurd (true≢false (sym there ∙ ap (member seen) (none e) ∙ false_member seen 64 (lt_bits 64 seen 64 bound (omega arith))))

      pub new_next : (used seen m : ℕ) (b : Bool) → Found seen v b → b ≡ false → Added seen v m → new_in seen (inner_from P row x) ≡ new_in used (new_nodes P row)
          → new_in m (inner_from P row (x + 1)) ≡ new_in used (new_nodes P row)
      unfolding new_in
      new_next used seen m b found n added inv = sym (go inner refl) ∙ inv
        where
          go : (p : Bool) → inner ≡ p → new_in seen (inner_from P row x) ≡ new_in m (inner_from P row (x + 1))
          go true e = rw (from_inner e, sym found.value ∙ n, ← added.value (small e))
          go false e = rw (from_external e, added.same (omega (arith, none e)))

      pub with_next : (used before m : ℕ) → Added before v m → with_all before (inner_from P row x) ≡ with_all used (new_nodes P row)
          → with_all m (inner_from P row (x + 1)) ≡ with_all used (new_nodes P row)
      unfolding with_all
      with_next used before m added inv = sym (go inner refl) ∙ inv
        where
          go : (p : Bool) → inner ≡ p → with_all before (inner_from P row x) ≡ with_all m (inner_from P row (x + 1))
          go true e = ap (with_all before) (from_inner e) ∙ ap (λ k. with_all k (inner_from P row (x + 1))) (sym (added.value (small e)))
          go false e = rw (from_external e, added.same (omega (arith, none e)))
