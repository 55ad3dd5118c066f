-- What a row of the right size says over accepted tables: its rule, the graph nodes that it places, and the nodes of
-- its rule's edges.
use mathlib.Core.Path.{◌≡◌, sym, ap, ◌∙◌}
use mathlib.Core.Bool.{Bool, true}
use mathlib.Core.List.{List}
use Prim.Native.Nat.{ℕ, ◌+◌, ◌≤◌, ◌<◌}
use native.Mathlib.Omega.{arith}
use lib.ListN.{length, take, drop, length-drop}
use lib.Seq.{get_or-take, get_or-drop, length-take-le}
use lib.Dec.{ltb}
use borrow.Author.Tests.{eqb-true, ltb-true}
use Rattle.hrg.specs.Counts.{tabulate}
use Rattle.hrg.specs.Grammars.{Edge, Graph, Rule, no_edge, lhs_of, rank_of, right_of, edge_at}
use Rattle.hrg.specs.Trees.{at, images}
use Rattle.hrg.specs.WellFormedTest.{each}
use Rattle.hrg.proofs.Sums.{occurs_at, length_tabulate, at_tabulate, tabulate_ext}
use Rattle.questions.specs.Layout.{rank_at, rule_count, rule_symbol, rule_nodes, rule_edges, rule_external, edge_label, edge_node, graph_edges, graph_label, graph_node}
use Rattle.questions.specs.Checking.{check_grammar}
use Rattle.questions.specs.Abstract.{rule_from, grammar_of, graph_of}
use Rattle.questions.proofs.WellFormedLists.{tabulate_list, get_d_build}
use Rattle.questions.proofs.WellFormedAccepted.{rules_length, symbols_length, rank_is, rule_is, edge_is}
use Rattle.joins.specs.Joins.{Accepted, KnownEdge}
use Rattle.joins.proofs.Known.{rule_ok, right_nodes, right_edges, nodes_few, graph_nodes_lem, graph_nodes_few}
use Rattle.joins.proofs.EdgeMaps.{edge_ok}
use Rattle.preorder.specs.Replay.{rule_in, place_in}
use Rattle.replayer.specs.Fitting.{node_in, SizedRow}
use Rattle.replayer.proofs.NodeTests.{every_at, each_tabulated, map_tabulated}

-- ---- a rule
module _ (g : List ℕ) (r : ℕ) (checked : check_grammar g ≡ true) (known : r < rule_count g) where
  pub lhs_is : lhs_of (grammar_of g) r ≡ rule_symbol g r
  unfolding rule_from
  lhs_is = ap (λ (R : Rule). R.production.lhs) (rule_is g r known)

  pub lhs_rank : rank_of (grammar_of g) (lhs_of (grammar_of g) r) ≡ rank_at g (rule_symbol g r)
  lhs_rank =
      rank_is g (lhs_of (grammar_of g) r) (omega (arith, (rule_ok g r checked known).lhs_known, symbols_length g)) ∙ ap (rank_at g) lhs_is

  pub externals_are : (right_of (grammar_of g) r).externals ≡ tabulate (rank_at g (rule_symbol g r)) (λ k. rule_external g r k)
  unfolding rule_from
  externals_are = ap (λ (R : Rule). R.production.right.externals) (rule_is g r known)

  pub external_known : (k : ℕ) → k < rank_at g (rule_symbol g r) → rule_external g r k < rule_nodes g r
  external_known k h =
      let rank = rank_at g (rule_symbol g r) in
      let there : at (right_of (grammar_of g) r).externals k ≡ rule_external g r k = ap (λ (l : List ℕ). at l k) externals_are ∙ at_tabulate rank (λ k. rule_external g r k) k h in
      let size : length (right_of (grammar_of g) r).externals ≡ rank = ap length externals_are ∙ length_tabulate rank (λ k. rule_external g r k) in
      let found = rw there at (occurs_at (right_of (grammar_of g) r).externals k (omega (arith, size))) in
      omega (arith, right_nodes g r checked known, (rule_ok g r checked known).right.externals.inside (rule_external g r k) found)

-- ---- an edge of a rule
module _ (g : List ℕ) (r i : ℕ) (known : KnownEdge g r i) where
  abbrev edge : Edge
  edge = edge_at (right_of (grammar_of g) r).edges i

  as_words : edge ≡ record { label = edge_label g r i; attachment = tabulate (rank_at g (edge_label g r i)) (λ k. edge_node g r i k) }
  as_words = ap (λ (R : Rule). edge_at R.production.right.edges i) (rule_is g r known.rule) ∙ edge_is g r i known.edge

  pub label_is : edge.label ≡ edge_label g r i
  label_is = ap (λ (e : Edge). e.label) as_words

  pub nodes_are : edge.attachment ≡ tabulate (rank_at g (edge_label g r i)) (λ k. edge_node g r i k)
  nodes_are = ap (λ (e : Edge). e.attachment) as_words

  pub node_known : (k : ℕ) → k < rank_at g (edge_label g r i) → edge_node g r i k < rule_nodes g r
  node_known k h =
      let rank = rank_at g (edge_label g r i) in
      let there : at edge.attachment k ≡ edge_node g r i k = ap (λ (l : List ℕ). at l k) nodes_are ∙ at_tabulate rank (λ k. edge_node g r i k) k h in
      let size : length edge.attachment ≡ rank = ap length nodes_are ∙ length_tabulate rank (λ k. edge_node g r i k) in
      let found = rw there at (occurs_at edge.attachment k (omega (arith, size))) in
      (edge_ok g r i known).listed.inside (edge_node g r i k) found

-- ---- a graph edge
module _ (g h : List ℕ) (e : ℕ) (known : e < graph_edges h) where
  graph_words_is : edge_at (graph_of g h).edges e ≡ record { label = graph_label h e; attachment = tabulate (rank_at g (graph_label h e)) (λ k. graph_node h e k) }
  unfolding graph_of
  graph_words_is =
      get_d_build (graph_edges h) (λ e. record { label = graph_label h e; attachment = tabulate (rank_at g (graph_label h e)) (λ k. graph_node h e k) }) e no_edge known

  pub graph_label_is : (edge_at (graph_of g h).edges e).label ≡ graph_label h e
  graph_label_is = ap (λ (d : Edge). d.label) graph_words_is

  pub graph_nodes_are : (edge_at (graph_of g h).edges e).attachment ≡ tabulate (rank_at g (graph_label h e)) (λ k. graph_node h e k)
  graph_nodes_are = ap (λ (d : Edge). d.attachment) graph_words_is

-- ---- a row that has fields for its places
pub places_are : (row : List ℕ) (n : ℕ) → 2 + n ≤ length row → take n (drop 2 row) ≡ tabulate n (λ x. node_in row x)
places_are row n h =
    sym (tabulate_list (take n (drop 2 row)) n (λ x. node_in row x)
    (sym (length-take-le n (drop 2 row) (omega (arith, length-drop 2 row))))
    (λ x l. sym (get_or-take n (drop 2 row) x 0 l ∙ get_or-drop 2 row x 0)))

-- ---- a row of the right size
module _ (g h row : List ℕ) (accepted : Accepted g h) (sized : SizedRow (grammar_of g) (graph_of g h) row) where
  abbrev r : ℕ
  r = rule_in row

  abbrev P : Graph
  P = right_of (grammar_of g) r

  abbrev place : List ℕ
  place = place_in P row

  pub rule_known : r < rule_count g
  rule_known = omega (arith, ltb-true r (length (grammar_of g).rules) sized.rule, rules_length g)

  pub count_is : length row ≡ 2 + (rule_nodes g r + rule_edges g r)
  count_is =
      omega (
        arith,
        eqb-true (length row) (2 + (P.nodes + length P.edges)) sized.sized,
        right_nodes g r accepted.grammar rule_known,
        right_edges g r accepted.grammar rule_known,
      )

  -- the row has a field for its rule, and one for each rule node
  pub rule_there : 1 < length row
  rule_there = omega (arith, count_is)

  pub node_there : (x : ℕ) → x < rule_nodes g r → (x < 8) × (2 + x < length row)
  node_there x l = (omega (arith, nodes_few g r accepted.grammar rule_known), omega (arith, count_is))

  pub place_is : place ≡ tabulate (rule_nodes g r) (λ x. node_in row x)
  place_is =
      ap (λ n. take n (drop 2 row)) (right_nodes g r accepted.grammar rule_known) ∙ places_are row (rule_nodes g r) (omega (arith, count_is))

  pub place_at_lem : (x : ℕ) → x < rule_nodes g r → at place x ≡ node_in row x
  place_at_lem x l = ap (λ (p : List ℕ). at p x) place_is ∙ at_tabulate (rule_nodes g r) (λ x. node_in row x) x l

  pub place_small : (x : ℕ) → x < rule_nodes g r → node_in row x < 64
  place_small x l =
      let t : ℕ → Bool = λ v. ltb v (graph_of g h).nodes in
      let all = sym (each_tabulated (rule_nodes g r) (λ x. node_in row x) t) ∙ ap (λ (p : List ℕ). each p t) (sym place_is) ∙ sized.placed in
      omega (arith, ltb-true (node_in row x) (graph_of g h).nodes (every_at (rule_nodes g r) (λ x. t (node_in row x)) all x l), graph_nodes_lem g h, graph_nodes_few g h accepted)

  -- the graph nodes of some rule nodes
  pub images_are : (n : ℕ) (f : ℕ → ℕ) → ((k : ℕ) → k < n → f k < rule_nodes g r) → images place (tabulate n f) ≡ tabulate n (λ k. node_in row (f k))
  images_are n f inside =
      map_tabulated n (λ x. at place x) f ∙ tabulate_ext n (λ k. at place (f k)) (λ k. node_in row (f k)) (λ k l. place_at_lem (f k) (inside k l))

  pub edge_known : (i : ℕ) → i < length P.edges → KnownEdge g r i
  edge_known i l = record { grammar = accepted.grammar; rule = rule_known; edge = omega (arith, right_edges g r accepted.grammar rule_known) }
