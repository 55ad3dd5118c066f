-- The tests of a row in their order, over accepted tables.
use mathlib.Core.Path.{◌≡◌, refl, sym, ap, ap₂, ◌∙◌}
use mathlib.Core.Bool.{Bool, true, false, ◌&&◌}
use mathlib.Core.List.{List}
use Prim.Native.Nat.{ℕ, ◌+◌, ◌≤◌, ◌<◌}
use native.Mathlib.Omega.{arith}
use lib.ListN.{length, get_or, take, drop}
use lib.Dec.{eqb, ltb}
use borrow.Author.Tests.{eq-eqb, ne_eqb, lt-ltb, le-ltb, eqb-true, ltb-true}
use Rattle.format.proofs.TestLaws.{both}
use Rattle.hrg.specs.Grammars.{Graph, Grammar, lhs_of, rank_of, right_of}
use Rattle.hrg.specs.Trees.{images}
use Rattle.hrg.specs.WellFormedTest.{every, each}
use Rattle.hrg.specs.ClosureRun.{same_list}
use Rattle.hrg.proofs.WellFormedTest.{every_false}
use Rattle.questions.specs.Layout.{rank_at, rule_count, rule_symbol, rule_nodes, rule_edges, rule_external, graph_nodes}
use Rattle.questions.specs.Checking.{check_grammar}
use Rattle.questions.specs.Abstract.{grammar_of, graph_of}
use Rattle.questions.proofs.WellFormedAccepted.{rules_length}
use Rattle.joins.specs.Joins.{Accepted}
use Rattle.joins.proofs.Known.{right_nodes, right_edges, nodes_few, edges_few, graph_nodes_lem}
use Rattle.preorder.specs.Replay.{number_in, rule_in, place_in, new_nodes}
use Rattle.std.specs.Prelude.{Option, None}
use Rattle.replayer.specs.Fitting.{node_in, new_in, with_all, taken_if, row_passes, SizedRow}
use Rattle.replayer.specs.RowParts.{head_passes}
use Rattle.replayer.proofs.NodeTests.{PassedTo, passed_all, each_tabulated, same_tabulated, take_tabulated}
use Rattle.replayer.proofs.InnerNodes.{taken_not}
use Rattle.replayer.proofs.RowPlaces.{lhs_is, lhs_rank, externals_are, external_known, places_are, rule_known, node_there, images_are}

-- ---- one place
other_place : (row : List ℕ) (x y w : ℕ) → x ≡ y → (node_in row x ≡ w → ⊥) → eqb (node_in row y) w ≡ false
other_place row x y w e s = ne_eqb (node_in row y) w (λ d. s (ap (node_in row) e ∙ d))

-- ---- the external nodes lie on the listed nodes
module _ (g h row : List ℕ) (accepted : Accepted g h) (sized : SizedRow (grammar_of g) (graph_of g h) row) (symbol rank : ℕ) (s : symbol ≡ rule_symbol g (rule_in row)) (t : rank ≡ rank_at g symbol) where
  abbrev r : ℕ
  r = rule_in row

  abbrev P : Graph
  P = right_of (grammar_of g) r

  rank_same : rank ≡ rank_at g (rule_symbol g r)
  rank_same = t ∙ ap (rank_at g) s

  external_in : (k : ℕ) → k < rank_at g (rule_symbol g r) → rule_external g r k < rule_nodes g r
  external_in k b = external_known g r accepted.grammar (rule_known g h row accepted sized) k b

  pub external_there : (k x : ℕ) → k < rank → x ≡ rule_external g r k → (x < 8) × (2 + x < length row)
  external_there k x b e = node_there g h row accepted sized x (omega (arith, e, external_in k (omega (arith, rank_same))))

  module _ (listed : List ℕ) (four : length listed ≡ 4) where
    abbrev fits : Bool
    fits = same_list (images (place_in P row) P.externals) (take (rank_of (grammar_of g) (lhs_of (grammar_of g) r)) listed)

    as_tests : fits ≡ every rank (λ k. eqb (node_in row (rule_external g r k)) (get_or listed k 0))
    as_tests =
        let known = rule_known g h row accepted sized in
        let n = rank_at g (rule_symbol g r) in
        ap₂ same_list
        (ap (images (place_in P row)) (externals_are g r accepted.grammar known) ∙ images_are g h row accepted sized n (λ k. rule_external g r k) external_in)
        (ap (λ m. take m listed) (lhs_rank g r accepted.grammar known) ∙ take_tabulated n listed (omega arith))
        ∙ same_tabulated n (λ k. node_in row (rule_external g r k)) (λ k. get_or listed k 0)
        ∙ ap (λ n. every n (λ k. eqb (node_in row (rule_external g r k)) (get_or listed k 0))) (sym rank_same)

    pub externals_no : (k x : ℕ) → k < rank → x ≡ rule_external g r k → (node_in row x ≡ get_or listed k 0 → ⊥) → false ≡ fits
    externals_no k x h e d =
        every_false rank (λ k. eqb (node_in row (rule_external g r k)) (get_or listed k 0)) k h (other_place row x (rule_external g r k) (get_or listed k 0) e d) ∙ sym as_tests

    pub externals_all : (k : ℕ) → rank ≤ k → PassedTo (λ k. eqb (node_in row (rule_external g r k)) (get_or listed k 0)) k → true ≡ fits
    externals_all k h all = passed_all (λ k. eqb (node_in row (rule_external g r k)) (get_or listed k 0)) rank k h all ∙ sym as_tests

-- ---- the number, the rule and the number of fields
and_false : (a : Bool) → (a && false) ≡ false
and_false true = refl
and_false false = refl

module _ (g row : List ℕ) (n s : ℕ) (checked : check_grammar g ≡ true) where
  abbrev head : Bool
  head = head_passes (grammar_of g) n s row

  pub head_short : length row < 2 → false ≡ head
  unfolding head_passes
  head_short h =
      let G = grammar_of g in
      let P = right_of G (rule_in row) in
      sym (ap (λ b. eqb (number_in row) n && ltb (rule_in row) (length G.rules) && eqb (lhs_of G (rule_in row)) s && b) (ne_eqb (length row) (2 + (P.nodes + length P.edges)) (λ e. omega arith))
      ∙ and_false (eqb (number_in row) n && ltb (rule_in row) (length G.rules) && eqb (lhs_of G (rule_in row)) s))

  pub head_number : (number_in row ≡ n → ⊥) → false ≡ head
  unfolding head_passes
  head_number d = rw (ne_eqb (number_in row) n d)

  module _ (same : number_in row ≡ n) (rules : ℕ) (counted : rules ≡ rule_count g) where
    own_test : eqb (number_in row) n ≡ true
    own_test = eq-eqb (number_in row) n same

    pub head_rule : rules ≤ rule_in row → false ≡ head
    unfolding head_passes
    head_rule h = rw (own_test, le-ltb (rule_in row) (length (grammar_of g).rules) (omega (arith, rules_length g)))

    module _ (h : rule_in row < rules) (symbol : ℕ) (lhs : symbol ≡ rule_symbol g (rule_in row)) where
      rule_listed : rule_in row < rule_count g
      rule_listed = omega arith

      rule_test_lem : ltb (rule_in row) (length (grammar_of g).rules) ≡ true
      rule_test_lem = lt-ltb (rule_in row) (length (grammar_of g).rules) (omega (arith, rules_length g))

      symbol_is : symbol ≡ lhs_of (grammar_of g) (rule_in row)
      symbol_is = lhs ∙ sym (lhs_is g (rule_in row) checked rule_listed)

      pub head_symbol : (symbol ≡ s → ⊥) → false ≡ head
      unfolding head_passes
      head_symbol d = rw (own_test, rule_test_lem, ne_eqb (lhs_of (grammar_of g) (rule_in row)) s (λ e. d (symbol_is ∙ e)))

      module _ (nodes edges : ℕ) (a : nodes ≡ rule_nodes g (rule_in row)) (b : edges ≡ rule_edges g (rule_in row)) where
        pub head_small : (nodes ≤ 8) × (edges ≤ 8)
        head_small = (omega (arith, nodes_few g (rule_in row) checked rule_listed), omega (arith, edges_few g (rule_in row) checked rule_listed))

        pub head_fields : symbol ≡ s → eqb (length row) (2 + nodes + edges) ≡ head
        unfolding head_passes
        head_fields e =
            let G = grammar_of g in
            let q = rule_in row in
            let m : nodes ≡ (right_of G q).nodes = a ∙ sym (right_nodes g q checked rule_listed) in
            let k : edges ≡ length (right_of G q).edges = b ∙ sym (right_edges g q checked rule_listed) in
            let sum : 2 + nodes + edges ≡ 2 + ((right_of G q).nodes + length (right_of G q).edges) = omega arith in
            rw (own_test, rule_test_lem, eq-eqb (lhs_of G q) s (sym symbol_is ∙ e), ← sum)

-- ---- the whole row
-- what the head's test says
module _ (G : Grammar) (n s : ℕ) (row : List ℕ) (passed : head_passes G n s row ≡ true) where
  abbrev R : Graph
  R = right_of G (rule_in row)

  head_all : ((eqb (number_in row) n && ltb (rule_in row) (length G.rules) && eqb (lhs_of G (rule_in row)) s) ≡ true) × (eqb (length row) (2 + (R.nodes + length R.edges)) ≡ true)
  unfolding head_passes
  head_all = both (eqb (number_in row) n && ltb (rule_in row) (length G.rules) && eqb (lhs_of G (rule_in row)) s) (eqb (length row) (2 + (R.nodes + length R.edges))) passed

  head_some : ((eqb (number_in row) n && ltb (rule_in row) (length G.rules)) ≡ true) × (eqb (lhs_of G (rule_in row)) s ≡ true)
  head_some = both (eqb (number_in row) n && ltb (rule_in row) (length G.rules)) (eqb (lhs_of G (rule_in row)) s) head_all.0

  head_known : ltb (rule_in row) (length G.rules) ≡ true
  head_known = (both (eqb (number_in row) n) (ltb (rule_in row) (length G.rules)) head_some.0).1

  head_lhs : lhs_of G (rule_in row) ≡ s
  head_lhs = eqb-true (lhs_of G (rule_in row)) s head_some.1

  head_sized : eqb (length row) (2 + (R.nodes + length R.edges)) ≡ true
  head_sized = head_all.1

row_parts : (G : Grammar) (H : Graph) (n s : ℕ) (L : List ℕ) (used : ℕ) (row : List ℕ)
    → row_passes G H n s L used row
    ≡ (head_passes G n s row
    && each (place_in (right_of G (rule_in row)) row) (λ v. ltb v H.nodes)
    && same_list (images (place_in (right_of G (rule_in row)) row) (right_of G (rule_in row)).externals) L
    && new_in used (new_nodes (right_of G (rule_in row)) row))
unfolding row_passes head_passes
row_parts G H n s L used row = refl

module _ (g h row : List ℕ) (n s used : ℕ) (listed : List ℕ) (accepted : Accepted g h) (b : Bool) (headed : b ≡ head_passes (grammar_of g) n s row) where
  abbrev G : Grammar
  G = grammar_of g

  abbrev H : Graph
  H = graph_of g h

  abbrev q : ℕ
  q = rule_in row

  abbrev Q : Graph
  Q = right_of G q

  abbrev passes : Bool
  passes = row_passes G H n s (take (rank_of G s) listed) used row

  abbrev whole : Option ℕ
  whole = taken_if passes (with_all used (new_nodes Q row))

  parts : passes ≡ (head_passes G n s row && each (place_in Q row) (λ v. ltb v H.nodes) && same_list (images (place_in Q row) Q.externals) (take (rank_of G s) listed) && new_in used (new_nodes Q row))
  parts = row_parts G H n s (take (rank_of G s) listed) used row

  pub row_head : b ≡ false → None ≡ whole
  row_head h = taken_not passes _ (rw (parts, ← headed, h))

  module _ (y : b ≡ true) where
    passed : head_passes G n s row ≡ true
    passed = sym headed ∙ y

    row_rule : q < rule_count g
    row_rule = omega (arith, ltb-true q (length G.rules) (head_known G n s row passed), rules_length g)

    row_size : length row ≡ 2 + (Q.nodes + length Q.edges)
    row_size = eqb-true (length row) (2 + (Q.nodes + length Q.edges)) (head_sized G n s row passed)

    pub row_ruled : 1 < length row
    row_ruled = omega (arith, row_size)

    module _ (count : ℕ) (c : count ≡ rule_nodes g q) where
      row_nodes : Q.nodes ≡ count
      row_nodes = right_nodes g q accepted.grammar row_rule ∙ sym c

      pub row_few : (count ≤ 8) × (2 + count ≤ length row)
      row_few = (omega (arith, c, nodes_few g q accepted.grammar row_rule), omega (arith, row_size, row_nodes))

      module _ (nodes : ℕ) (d : nodes ≡ graph_nodes h) (p : Bool) (placed : p ≡ every count (λ x. ltb (node_in row x) nodes)) where
        places_test : p ≡ each (place_in Q row) (λ v. ltb v H.nodes)
        places_test =
            let k : nodes ≡ H.nodes = d ∙ sym (graph_nodes_lem g h) in
            placed
            ∙ ap (λ k. every count (λ x. ltb (node_in row x) k)) k
            ∙ sym (ap (λ (l : List ℕ). each l (λ v. ltb v H.nodes)) (ap (λ m. take m (drop 2 row)) row_nodes ∙ places_are row count row_few.1)
            ∙ each_tabulated count (λ x. node_in row x) (λ v. ltb v H.nodes))

        pub row_places : p ≡ false → None ≡ whole
        row_places z = taken_not passes _ (rw (parts, passed, ← places_test, z))

        module _ (z : p ≡ true) where
          pub row_sized : SizedRow G H row
          row_sized = record {
            rule = head_known G n s row passed;
            sized = head_sized G n s row passed;
            placed = sym places_test ∙ z;
          }

          module _ (e : Bool) (fit : e ≡ same_list (images (place_in Q row) Q.externals) (take (rank_of G (lhs_of G q)) listed)) where
            fit_test : e ≡ same_list (images (place_in Q row) Q.externals) (take (rank_of G s) listed)
            fit_test = fit ∙ ap (λ s. same_list (images (place_in Q row) Q.externals) (take (rank_of G s) listed)) (head_lhs G n s row passed)

            pub row_externals : e ≡ false → None ≡ whole
            row_externals f = taken_not passes _ (rw (parts, passed, ← places_test, z, ← fit_test, f))

            pub row_inner : e ≡ true → (t : Option ℕ) → t ≡ taken_if (new_in used (new_nodes Q row)) (with_all used (new_nodes Q row)) → t ≡ whole
            row_inner f t new = rw (parts, passed, ← places_test, z, ← fit_test, f) new
