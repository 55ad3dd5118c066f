-- The lines of a table that holds a graph pass questions 3 to 6 exactly where the graph is well-formed; an accepted
-- graph text is read as such a graph.
use mathlib.Core.Path.{◌≡◌, refl, sym, ap, ap₂, ◌∙◌, subst}
use mathlib.Core.Logic.{◌⊎◌, inl, inr}
use mathlib.Core.Bool.{Bool, true, false, cond}
use mathlib.Core.List.{List, ◌++◌}
use Prim.Native.Nat.{ℕ, zero, suc, ◌+◌, ◌≤◌, ◌<◌}
use native.Mathlib.Omega.{arith}
use lib.ListN.{length, get_or}
use lib.Dec.{eqb}
use borrow.Author.Tests.{eqb-true}
use Rattle.hrg.specs.Counts.{tabulate}
use Rattle.hrg.specs.Grammars
use Rattle.hrg.specs.Grammars.{terminal, nonterminal, no_edge, kind_of, rank_of, edge_at}
use Rattle.hrg.specs.WellFormed.{Between, Listed, EdgeOk, GrammarOk, GraphOk}
use Rattle.questions.specs.Layout.{place_of, line_field, symbol_count, start_symbol, kind_field, rank_at, graph_nodes, graph_edges, graph_external, graph_label, graph_node}
use Rattle.questions.specs.Questions.{field, nodes_on_graph, judge}
use Rattle.questions.specs.Reading.{accepted, grammar_verdict, graph_verdict}
use Rattle.questions.specs.Abstract.{kind_from, grammar_of, graph_of}
use Rattle.questions.specs.Walk.{Stands}
use Rattle.questions.specs.TableText.{edge_fields, graph_fields}
use Rattle.questions.specs.declared.Due.{Due}
use Rattle.questions.specs.declared.Due.TheVariants.{Grammar, Symbol, Rule, RuleEdge, PlanLine, Graph, GraphEdge, Nothing}
use Rattle.questions.proofs.WellFormedQuestions.{InOrder, Covers, PassedGraph, passes_graph, PassedGraphEdge, passes_graph_edge}
use Rattle.questions.proofs.WellFormedReading.{GraphStands, accepted_graph_stands}
use Rattle.questions.proofs.WellFormedLists.{collect, length_build, get_d_build, tabulate_list}
use Rattle.questions.proofs.WellFormedTables.{in_order_listed, listed_in_order, attached_to, Covering, covering_side, side_covering, Ranked}
use Rattle.questions.proofs.WellFormedAccepted.{fields_listed, one_and, two_and, symbols_length, start_is, kind_is, rank_is, accepted_grammar}

kind_terminal : (w : ℕ) → kind_from w ≡ terminal → w ≡ 0
kind_terminal w = go (eqb w 0) refl
  where
    go : (b : Bool) → eqb w 0 ≡ b → cond b terminal nonterminal ≡ terminal → w ≡ 0
    go true e h = eqb-true w 0 e
    go false e h = let z : ◌≡◌ {A = ℕ} 0 1 = cc in absurd (omega arith)

-- the lines of a graph
abbrev pub HasGraphLine : Grammars.Graph → Due → Type 0
HasGraphLine H Grammar = ⊥
HasGraphLine H (Symbol s) = ⊥
HasGraphLine H (Rule r) = ⊥
HasGraphLine H (RuleEdge r i) = ⊥
HasGraphLine H (PlanLine r q) = ⊥
HasGraphLine H Graph = Unit {0}
HasGraphLine H (GraphEdge e) = e < length H.edges
HasGraphLine H Nothing = ⊥

abbrev pub GraphIn : Grammars.Graph → List ℕ → Type 0
GraphIn H t = (d : Due) → HasGraphLine H d → (j : ℕ) → j < 9 → line_field t (place_of d) j ≡ field (graph_fields H d) j

abbrev pub GraphPass : List ℕ → Grammars.Graph → List ℕ → Type 0
GraphPass g H t = (d : Due) → HasGraphLine H d → judge g t d (graph_fields H d) ≡ 0

-- ---- a table that holds a graph, read with the grammar table g
module _ (g : List ℕ) (ok : GrammarOk (grammar_of g)) (H : Grammars.Graph) (t : List ℕ) (held : GraphIn H t) where
  pub small_rank : (s : ℕ) → s < symbol_count g → rank_of (grammar_of g) s ≤ 4
  small_rank s h = omega (arith, rank_is g s h)

  pub start_rank : rank_at g (start_symbol g) ≡ rank_of (grammar_of g) (grammar_of g).start
  start_rank =
      let known : start_symbol g < symbol_count g = omega (arith, ok.start_known, start_is g, symbols_length g) in
      sym (ap (rank_of (grammar_of g)) (start_is g) ∙ rank_is g (start_symbol g) known)

  pub graph_nodes_lem : graph_nodes t ≡ H.nodes
  unfolding place_of graph_fields
  graph_nodes_lem = held Graph tt 0 (omega arith)

  pub graph_edges_is : graph_edges t ≡ length H.edges
  unfolding place_of graph_fields
  graph_edges_is = held Graph tt 1 (omega arith)

  pub graph_external_is : (k : ℕ) → k < 4 → graph_external t k ≡ get_or H.externals k 0
  unfolding place_of graph_fields
  graph_external_is k l = held Graph tt (2 + k) (omega arith) ∙ rw (two k)
    where
      two : (k : ℕ) → 2 + k ≡ suc (suc k)
      two k = omega arith

  module _ (e : ℕ) (l : e < length H.edges) where
    pub graph_label_lem : graph_label t e ≡ (edge_at H.edges e).label
    unfolding place_of graph_fields
    graph_label_lem = held (GraphEdge e) l 0 (omega arith)

    graph_node_lem : (k : ℕ) → k < 8 → graph_node t e k ≡ get_or (edge_at H.edges e).attachment k 0
    unfolding place_of graph_fields
    graph_node_lem k b = held (GraphEdge e) l (1 + k) (omega arith) ∙ rw (one k)
      where
        one : (k : ℕ) → 1 + k ≡ suc k
        one k = omega arith

    pub graph_edge_nodes : Ranked (grammar_of g) H.edges e → tabulate (rank_at g (graph_label t e)) (graph_node t e) ≡ (edge_at H.edges e).attachment
    graph_edge_nodes k =
        let x = edge_at H.edges e in
        let known : x.label < symbol_count g = omega (arith, k.0, symbols_length g) in
        let rank : rank_at g (graph_label t e) ≡ rank_of (grammar_of g) x.label = ap (rank_at g) graph_label_lem ∙ sym (rank_is g x.label known) in
        let small = small_rank x.label known in
        tabulate_list x.attachment (rank_at g (graph_label t e)) (graph_node t e) (rank ∙ sym k.1) (λ j b. graph_node_lem j (omega arith))

  nodes_on_graph_is : (n : ℕ) → n ≤ length H.edges → ((i : ℕ) → i < n → Ranked (grammar_of g) H.edges i) → nodes_on_graph g t n ≡ attached_to H.edges n
  unfolding nodes_on_graph collect
  nodes_on_graph_is zero l k = refl
  nodes_on_graph_is (suc n) l k = ap₂ ◌++◌ (nodes_on_graph_is n (omega arith) (λ i b. k i (omega arith))) (graph_edge_nodes n l (k n (omega arith)))

  -- ---- lines that pass
  module _ (pass : GraphPass g H t) where
    graph_passed : PassedGraph g (graph_fields H Graph)
    unfolding judge
    graph_passed = (passes_graph g (graph_fields H Graph)).sound (pass Graph tt)

    node_count : Between 1 H.nodes 64
    unfolding graph_fields
    node_count = graph_passed.nodes

    edge_count : Between 1 (length H.edges) 64
    unfolding graph_fields
    edge_count = graph_passed.edges

    externals_ok : Listed H.nodes (rank_of (grammar_of g) (grammar_of g).start) H.externals
    unfolding graph_fields
    externals_ok =
        in_order_listed H.nodes (rank_of (grammar_of g) (grammar_of g).start) H.externals (omega (arith, graph_passed.count, start_rank)) graph_passed.externals

    module _ (e : ℕ) (l : e < length H.edges) where
      edge_passed : PassedGraphEdge g t e (graph_fields H (GraphEdge e))
      unfolding judge
      edge_passed = (passes_graph_edge g t e (graph_fields H (GraphEdge e))).sound (pass (GraphEdge e) l)

      label_known : (edge_at H.edges e).label < symbol_count g
      unfolding graph_fields
      label_known = edge_passed.symbol

      label_terminal : kind_of (grammar_of g) (edge_at H.edges e).label ≡ terminal
      unfolding graph_fields
      label_terminal = kind_is g (edge_at H.edges e).label label_known ∙ ap kind_from edge_passed.kind

      -- only the start has rank 0, and it is no terminal
      label_positive : 1 ≤ rank_of (grammar_of g) (edge_at H.edges e).label
      label_positive = go (ok.symbol (edge_at H.edges e).label (omega (arith, label_known, symbols_length g))).lower
        where
          go : ((edge_at H.edges e).label ≡ (grammar_of g).start) ⊎ (1 ≤ rank_of (grammar_of g) (edge_at H.edges e).label) → 1 ≤ rank_of (grammar_of g) (edge_at H.edges e).label
          go (inl p) =
              let same = ap (kind_of (grammar_of g)) p in
              let start = ok.start_kind in
              let here = label_terminal in
              let z : ◌≡◌ {A = ℕ} 0 1 = cc in
              absurd (omega arith)
          go (inr p) = p

      edge_ok : EdgeOk (grammar_of g) H.nodes (edge_at H.edges e)
      unfolding graph_fields
      edge_ok =
          let x = edge_at H.edges e in
          let rank = rank_is g x.label label_known in
          record {
            known = omega (arith, label_known, symbols_length g);
            positive = label_positive;
            listed = in_order_listed H.nodes (rank_of (grammar_of g) x.label) x.attachment
                (omega (arith, edge_passed.count))
                (subst (λ (n : ℕ). InOrder n x.attachment) graph_nodes_lem edge_passed.attached);
          }

    edge_covering : (e : ℕ) → e < length H.edges → Covering H.edges H.nodes e
    unfolding graph_fields
    edge_covering e l = go (edge_passed e l).covers
      where
        go : (e + 1 < graph_edges t) ⊎ Covers (graph_nodes t) (nodes_on_graph g t e ++ (edge_at H.edges e).attachment) → Covering H.edges H.nodes e
        go (inl k) = inl (omega (arith, graph_edges_is))
        go (inr c) =
            let nodes = nodes_on_graph_is e (omega arith) (λ k b. ((edge_ok k (omega arith)).known, (edge_ok k (omega arith)).listed.ranked)) in
            inr (λ x b. rw (← nodes) (c.all x (omega (arith, graph_nodes_lem, node_count.upper))))

    pub passed_graph_ok : GraphOk (grammar_of g) H
    passed_graph_ok = record {
      side = record {
        node_count = node_count;
        edge_count = edge_count;
        externals = externals_ok;
        edge = edge_ok;
        covered = covering_side H.edges H.nodes edge_count.lower edge_covering;
      };
      terminals = label_terminal;
    }

  -- ---- and the lines of a well-formed graph
  module _ (good : GraphOk (grammar_of g) H) where
    edge_pass : (e : ℕ) → e < length H.edges → PassedGraphEdge g t e (graph_fields H (GraphEdge e))
    unfolding graph_fields
    edge_pass e l =
        let S = good.side in
        let E = S.edge e l in
        let x = edge_at H.edges e in
        let known : x.label < symbol_count g = omega (arith, E.known, symbols_length g) in
        let rank = rank_is g x.label known in
        record {
          symbol = known;
          kind = kind_terminal (kind_field g x.label) (sym (kind_is g x.label known) ∙ good.terminals e l);
          count = omega (arith, E.listed.ranked);
          attached = subst (λ (n : ℕ). InOrder n x.attachment) (sym graph_nodes_lem)
              (listed_in_order H.nodes (rank_of (grammar_of g) x.label) x.attachment S.node_count.upper E.listed);
          covers = go (side_covering H.edges H.nodes S.covered e l);
        }
      where
        go : Covering H.edges H.nodes e → (e + 1 < graph_edges t) ⊎ Covers (graph_nodes t) (nodes_on_graph g t e ++ (edge_at H.edges e).attachment)
        go (inl k) = inl (omega (arith, graph_edges_is))
        go (inr k) =
            let nodes = nodes_on_graph_is e (omega arith) (λ j b. ((good.side.edge j (omega arith)).known, (good.side.edge j (omega arith)).listed.ranked)) in
            inr (record {
              few = omega (arith, graph_nodes_lem, good.side.node_count.upper);
              all = λ x b. rw nodes (k x (omega (arith, graph_nodes_lem)));
            })

    graph_pass : PassedGraph g (graph_fields H Graph)
    unfolding graph_fields
    graph_pass = record {
      nodes = good.side.node_count;
      edges = good.side.edge_count;
      count = omega (arith, good.side.externals.ranked, start_rank);
      externals = listed_in_order H.nodes (rank_of (grammar_of g) (grammar_of g).start) H.externals good.side.node_count.upper good.side.externals;
    }

    pub graph_ok_passes : GraphPass g H t
    unfolding judge
    graph_ok_passes Grammar h = absurd h
    graph_ok_passes (Symbol s) h = absurd h
    graph_ok_passes (Rule r) h = absurd h
    graph_ok_passes (RuleEdge r i) h = absurd h
    graph_ok_passes (PlanLine r q) h = absurd h
    graph_ok_passes Graph h = (passes_graph g (graph_fields H Graph)).complete graph_pass
    graph_ok_passes (GraphEdge e) h = (passes_graph_edge g t e (graph_fields H (GraphEdge e))).complete (edge_pass e h)
    graph_ok_passes Nothing h = absurd h

-- ---- the graph that a table stands for
module _ (g t : List ℕ) where
  graph_edges_length : length (graph_of g t).edges ≡ graph_edges t
  unfolding graph_of
  graph_edges_length = length_build (graph_edges t) _

  graph_edge_is : (e : ℕ) → e < graph_edges t
      → edge_at (graph_of g t).edges e ≡ record { label = graph_label t e; attachment = tabulate (rank_at g (graph_label t e)) (λ k. graph_node t e k) }
  unfolding graph_of
  graph_edge_is e h =
      get_d_build (graph_edges t) (λ e. record { label = graph_label t e; attachment = tabulate (rank_at g (graph_label t e)) (λ k. graph_node t e k) }) e no_edge h

  graph_first : (fs : List ℕ) → Stands g t Graph fs → graph_fields (graph_of g t) Graph ≡ fs
  unfolding graph_fields judge place_of graph_of
  graph_first fs s =
      let p = (passes_graph g fs).sound s.passed in
      two_and fs _ _ _ (omega (arith, p.count)) (s.there 0 (omega arith)) (graph_edges_length ∙ s.there 1 (omega arith))
      (fields_listed fs 2 (rank_at g (start_symbol g)) (λ k. graph_external t k) p.count (λ k b. s.there (2 + k) (omega arith)))

  graph_edge_fields : (e : ℕ) (fs : List ℕ) → e < graph_edges t → Stands g t (GraphEdge e) fs → graph_fields (graph_of g t) (GraphEdge e) ≡ fs
  unfolding graph_fields judge place_of
  graph_edge_fields e fs l s =
      let p = (passes_graph_edge g t e fs).sound s.passed in
      let label : graph_label t e ≡ field fs 0 = s.there 0 (omega arith) in
      ap edge_fields (graph_edge_is e l)
      ∙ one_and fs _ _ (omega (arith, p.count)) label
      (fields_listed fs 1 (rank_at g (graph_label t e)) (λ k. graph_node t e k) (p.count ∙ rw label) (λ k b. s.there (1 + k) (omega arith)))

  module _ (all : GraphStands g t) where
    graph_same : (d : Due) → HasGraphLine (graph_of g t) d → (fs : List ℕ) × (graph_fields (graph_of g t) d ≡ fs) × Stands g t d fs
    graph_same Grammar h = absurd h
    graph_same (Symbol s) h = absurd h
    graph_same (Rule r) h = absurd h
    graph_same (RuleEdge r i) h = absurd h
    graph_same (PlanLine r q) h = absurd h
    graph_same Graph h =
        let (fs, s) = all.graph in
        (fs, graph_first fs s, s)
    graph_same (GraphEdge e) h =
        let known : e < graph_edges t = omega (arith, graph_edges_length) in
        let (fs, s) = all.edge e known in
        (fs, graph_edge_fields e fs known s, s)
    graph_same Nothing h = absurd h

    pub standing_graph_ok : GrammarOk (grammar_of g) → GraphOk (grammar_of g) (graph_of g t)
    standing_graph_ok ok =
        passed_graph_ok g ok (graph_of g t) t
        (λ d h j l. let (fs, e, s) = graph_same d h in s.there j l ∙ ap (λ (fs : List ℕ). field fs j) (sym e))
        (λ d h. let (fs, e, s) = graph_same d h in ap (judge g t d) e ∙ s.passed)

-- An accepted graph text is read as a well-formed graph, whichever way the grammar table g came to hold a well-formed
-- grammar.
pub read_graph_ok : (g text t : List ℕ) → GrammarOk (grammar_of g) → graph_verdict g text ≡ accepted t → GraphOk (grammar_of g) (graph_of g t)
read_graph_ok g text t ok h = standing_graph_ok g t (accepted_graph_stands g text t h) ok

pub accepted_graph : (grammar_text g text t : List ℕ) → grammar_verdict grammar_text ≡ accepted g → graph_verdict g text ≡ accepted t → GraphOk (grammar_of g) (graph_of g t)
accepted_graph grammar_text g text t h k = read_graph_ok g text t (accepted_grammar grammar_text g h) k
