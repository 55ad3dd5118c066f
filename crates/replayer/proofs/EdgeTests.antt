-- The terminal edges of an application: the graph nodes of a rule edge, and the tests of a graph edge.
use mathlib.Core.Path.{◌≡◌, sym, ap, ap₂, ◌∙◌}
use mathlib.Core.Bool.{Bool, true, false, not}
use mathlib.Core.List.{List}
use Prim.Native.Nat.{ℕ, ◌+◌, ◌≤◌, ◌<◌}
use native.Mathlib.Omega.{arith}
use lib.ListN.{length}
use lib.Dec.{eqb, ltb}
use borrow.Author.Tests.{eq-eqb, ne_eqb, lt-ltb, le-ltb}
use Rattle.masks.specs.Masks.{Found}
use Rattle.hrg.specs.Counts.{tabulate}
use Rattle.hrg.specs.Grammars.{Edge, Graph, right_of, edge_at}
use Rattle.hrg.specs.Trees.{images}
use Rattle.hrg.specs.WellFormedTest.{every}
use Rattle.hrg.specs.ClosureRun.{same_list}
use Rattle.hrg.proofs.WellFormedTest.{every_false}
use Rattle.questions.specs.Layout.{rank_at, edge_label, edge_node, graph_edges, graph_label, graph_node}
use Rattle.questions.specs.Abstract.{grammar_of, graph_of}
use Rattle.joins.specs.Joins.{Accepted, KnownEdge}
use Rattle.joins.proofs.Known.{graph_size}
use Rattle.preorder.specs.Replay.{rule_in, place_in}
use Rattle.replayer.specs.Fitting.{node_in, four_of, edge_passes, SizedRow}
use Rattle.replayer.proofs.NodeTests.{PassedTo, passed_all, same_tabulated, Placed, placed_all}
use Rattle.replayer.proofs.RowPlaces.{label_is, nodes_are, node_known, graph_label_is, graph_nodes_are, node_there, images_are, edge_known}

-- ---- one node
other_node : (h row : List ℕ) (e k x y u : ℕ) → x ≡ y → u ≡ graph_node h e k → (u ≡ node_in row x → ⊥) → eqb (graph_node h e k) (node_in row y) ≡ false
other_node h row e k x y u s a d = ne_eqb (graph_node h e k) (node_in row y) (λ q. d (a ∙ q ∙ sym (ap (node_in row) s)))

module _ (g h row : List ℕ) (accepted : Accepted g h) (sized : SizedRow (grammar_of g) (graph_of g h) row) (i : ℕ) (inside : i < length (right_of (grammar_of g) (rule_in row)).edges) where
  abbrev q : ℕ
  q = rule_in row

  abbrev P : Graph
  P = right_of (grammar_of g) q

  abbrev edge : Edge
  edge = edge_at P.edges i

  abbrev nodes : List ℕ
  nodes = images (place_in P row) edge.attachment

  known : KnownEdge g q i
  known = edge_known g h row accepted sized i inside

  nodes_read : nodes ≡ tabulate (rank_at g (edge_label g q i)) (λ k. node_in row (edge_node g q i k))
  nodes_read =
      ap (images (place_in P row)) (nodes_are g q i known)
      ∙ images_are g h row accepted sized (rank_at g (edge_label g q i)) (λ k. edge_node g q i k) (node_known g q i known)

  module _ (label : ℕ) (l : label ≡ edge_label g q i) (rank : ℕ) (t : rank ≡ rank_at g label) where
    rank_same : rank ≡ rank_at g (edge_label g q i)
    rank_same = t ∙ ap (rank_at g) l

    pub edge_node_there : (k x : ℕ) → k < rank → x ≡ edge_node g q i k → (x < 8) × (2 + x < length row)
    edge_node_there k x b e = node_there g h row accepted sized x (omega (arith, e, node_known g q i known k (omega (arith, rank_same))))

    read_here : nodes ≡ tabulate rank (λ k. node_in row (edge_node g q i k))
    read_here = nodes_read ∙ ap (λ n. tabulate n (λ k. node_in row (edge_node g q i k))) (sym rank_same)

    -- the nodes in four places
    pub nodes_all : (k : ℕ) (l : List ℕ) → k ≤ rank → rank ≤ k → Placed (λ k. node_in row (edge_node g q i k)) k l → l ≡ four_of nodes
    nodes_all k l a b p = placed_all (λ k. node_in row (edge_node g q i k)) rank k l a b p ∙ ap four_of (sym read_here)

    -- a graph edge of the same label
    module _ (e : ℕ) (there : e < graph_edges h) (same : graph_label h e ≡ edge_label g q i) where
      abbrev on : Bool
      on = same_list (edge_at (graph_of g h).edges e).attachment nodes

      as_tests : on ≡ every rank (λ k. eqb (graph_node h e k) (node_in row (edge_node g q i k)))
      as_tests =
          let rank_is : rank_at g (graph_label h e) ≡ rank = ap (rank_at g) same ∙ sym rank_same in
          ap₂ same_list (graph_nodes_are g h e there ∙ ap (λ n. tabulate n (λ k. graph_node h e k)) rank_is) read_here
          ∙ same_tabulated rank (λ k. graph_node h e k) (λ k. node_in row (edge_node g q i k))

      pub nodes_no : (k x u : ℕ) → k < rank → x ≡ edge_node g q i k → u ≡ graph_node h e k → (u ≡ node_in row x → ⊥) → false ≡ on
      nodes_no k x u b s a d =
          every_false rank (λ k. eqb (graph_node h e k) (node_in row (edge_node g q i k))) k b (other_node h row e k x (edge_node g q i k) u s a d) ∙ sym as_tests

      pub nodes_same : (k : ℕ) → rank ≤ k → PassedTo (λ k. eqb (graph_node h e k) (node_in row (edge_node g q i k))) k → true ≡ on
      nodes_same k b all = passed_all (λ k. eqb (graph_node h e k) (node_in row (edge_node g q i k))) rank k b all ∙ sym as_tests

  -- ---- the tests of a graph edge
  module _ (e used count : ℕ) (counted : count ≡ graph_edges h) where
    abbrev passes : Bool
    passes = edge_passes (graph_of g h) edge.label nodes used e

    pub edge_unknown : count ≤ e → false ≡ passes
    unfolding edge_passes
    edge_unknown b = rw (le-ltb e (length (graph_of g h).edges) (omega (arith, graph_size g h)))

    module _ (b : e < count) (label : ℕ) (l : label ≡ edge_label g q i) (own : ℕ) (o : own ≡ graph_label h e) where
      there : e < graph_edges h
      there = omega arith

      known_test : ltb e (length (graph_of g h).edges) ≡ true
      known_test = lt-ltb e (length (graph_of g h).edges) (omega (arith, graph_size g h))

      own_is : own ≡ (edge_at (graph_of g h).edges e).label
      own_is = o ∙ sym (graph_label_is g h e there)

      label_here : label ≡ edge.label
      label_here = l ∙ sym (label_is g q i known)

      pub edge_label_no : (own ≡ label → ⊥) → false ≡ passes
      unfolding edge_passes
      edge_label_no d =
          rw (known_test, ne_eqb (edge_at (graph_of g h).edges e).label edge.label (λ s. d (own_is ∙ s ∙ sym label_here)))

      module _ (s : own ≡ label) where
        pub edge_there : e < graph_edges h
        edge_there = there

        label_test : eqb (edge_at (graph_of g h).edges e).label edge.label ≡ true
        label_test = eq-eqb (edge_at (graph_of g h).edges e).label edge.label (sym own_is ∙ s ∙ label_here)

        module _ (f : Bool) (fit : f ≡ same_list (edge_at (graph_of g h).edges e).attachment nodes) where
          pub edge_nodes_no : f ≡ false → false ≡ passes
          unfolding edge_passes
          edge_nodes_no z = rw (known_test, label_test, ← fit, z)

          pub edge_new : f ≡ true → (b : Bool) → Found used e b → not b ≡ passes
          unfolding edge_passes
          edge_new z b found = rw (known_test, label_test, ← fit, z, ← found.value)
