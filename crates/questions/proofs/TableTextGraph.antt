-- Every graph that is well-formed with an accepted grammar is the reading of its text.
use mathlib.Core.Path.{◌≡◌, refl, sym, ◌∙◌, subst}
use mathlib.Core.Bool.{true, cond}
use mathlib.Core.List.{List, [], ◌++◌, append-nil}
use Prim.Native.Nat.{ℕ, ◌+◌, ◌≤◌, ◌<◌, min}
use native.Mathlib.Omega.{arith}
use lib.ListN.{length, drop, replicate, length-replicate}
use lib.Dec.{ltb}
use Rattle.hrg.specs.Counts.{tabulate}
use Rattle.hrg.specs.Grammars
use Rattle.hrg.specs.Grammars.{no_edge, rank_of, edge_at}
use Rattle.hrg.specs.WellFormed.{GrammarOk, GraphOk}
use Rattle.format.specs.Writing.{Writable}
use Rattle.questions.specs.Layout.{graph_edge_place, place_of, graph_words, start_symbol, rank_at, graph_edges, graph_external, graph_label, graph_node}
use Rattle.questions.specs.Reading.{next, accepted, grammar_verdict, graph_verdict, Done}
use Rattle.questions.specs.Checking.{check_grammar, read_graph}
use Rattle.questions.specs.Abstract.{build, grammar_of, graph_of}
use Rattle.questions.specs.TableText.{graph_fields, series, graph_lines, graph_text}
use Rattle.questions.specs.Walk.{Room}
use Rattle.questions.specs.declared.Due.{Due}
use Rattle.questions.specs.declared.Due.TheVariants.{Grammar, Symbol, Rule, RuleEdge, PlanLine, Graph, GraphEdge, Nothing}
use Rattle.questions.proofs.WellFormedWalk.{IsLine, reach, room_place, Before, cond_by}
use Rattle.questions.proofs.WellFormedLists.{build_list, tabulate_list}
use Rattle.questions.proofs.WellFormedAccepted.{accepted_grammar}
use Rattle.questions.proofs.StoredLaws.{field_front}
use Rattle.questions.proofs.WellFormedGraph.{HasGraphLine, GraphIn, start_rank, graph_nodes_lem, graph_edges_is, graph_external_is, graph_label_lem, graph_edge_nodes, graph_ok_passes, read_graph_ok}
use Rattle.questions.proofs.Refusals.{grammar_passed_first}
use Rattle.questions.proofs.SmallFields.{Small}
use Rattle.questions.proofs.TableTextLines.{delivered_long, letter_at, letter_capital, small_field, small_more, small_two, small_listed, Chain, end, link, filled, In, here, there, in_series, series_chain, chain_onward, chain_holds, chain_read}

-- ---- the order of a graph's lines
after_graph : Grammars.Graph → Due → Due
after_graph H Grammar = Nothing
after_graph H (Symbol s) = Nothing
after_graph H (Rule r) = Nothing
after_graph H (RuleEdge r i) = Nothing
after_graph H (PlanLine r q) = Nothing
after_graph H Graph = GraphEdge 0
after_graph H (GraphEdge e) = cond (ltb (e + 1) (length H.edges)) (GraphEdge (e + 1)) Nothing
after_graph H Nothing = Nothing

graph_chain : (H : Grammars.Graph) → 1 ≤ length H.edges → Chain (HasGraphLine H) (after_graph H) Graph (graph_lines H)
unfolding graph_lines after_graph
graph_chain H h =
    link tt
    (subst (Chain (HasGraphLine H) (after_graph H) (GraphEdge 0)) (append-nil (series GraphEdge 0 (length H.edges)))
    (series_chain (HasGraphLine H) (after_graph H) GraphEdge Nothing (length H.edges) (λ e l. l) (λ e. refl) [] end (length H.edges) 0 h (omega arith)))

in_graph_lem : (H : Grammars.Graph) (d : Due) → HasGraphLine H d → In d (graph_lines H)
unfolding graph_lines
in_graph_lem H Grammar h = absurd h
in_graph_lem H (Symbol s) h = absurd h
in_graph_lem H (Rule r) h = absurd h
in_graph_lem H (RuleEdge r i) h = absurd h
in_graph_lem H (PlanLine r q) h = absurd h
in_graph_lem H Graph h = here
in_graph_lem H (GraphEdge e) h = there (in_series GraphEdge (length H.edges) 0 e (omega arith) (omega arith))
in_graph_lem H Nothing h = absurd h

line_is : (H : Grammars.Graph) (d : Due) → HasGraphLine H d → IsLine d
line_is H Grammar h = absurd h
line_is H (Symbol s) h = absurd h
line_is H (Rule r) h = absurd h
line_is H (RuleEdge r i) h = absurd h
line_is H (PlanLine r q) h = absurd h
line_is H Graph h = tt
line_is H (GraphEdge e) h = tt
line_is H Nothing h = absurd h

line_room : (H : Grammars.Graph) → length H.edges ≤ 64 → (d : Due) → HasGraphLine H d → Room graph_words d
line_room H few Grammar h = absurd h
line_room H few (Symbol s) h = absurd h
line_room H few (Rule r) h = absurd h
line_room H few (RuleEdge r i) h = absurd h
line_room H few (PlanLine r q) h = absurd h
line_room H few Graph h = omega arith
line_room H few (GraphEdge e) h = (omega arith, omega arith)
line_room H few Nothing h = absurd h

line_forward : (H : Grammars.Graph) → length H.edges ≤ 64 → (d : Due) → HasGraphLine H d → place_of d < reach (after_graph H d)
unfolding place_of after_graph
line_forward H few Grammar h = absurd h
line_forward H few (Symbol s) h = absurd h
line_forward H few (Rule r) h = absurd h
line_forward H few (RuleEdge r i) h = absurd h
line_forward H few (PlanLine r q) h = absurd h
line_forward H few Graph h = omega arith
line_forward H few (GraphEdge e) h =
    cond_by (λ (d : Due). graph_edge_place e < reach d) (ltb (e + 1) (length H.edges)) (GraphEdge (e + 1)) Nothing (λ l. omega arith) (λ l. omega arith)
line_forward H few Nothing h = absurd h

line_before : (H : Grammars.Graph) (t : List ℕ) (d : Due) → HasGraphLine H d → Before t d
line_before H t Grammar h = absurd h
line_before H t (Symbol s) h = absurd h
line_before H t (Rule r) h = absurd h
line_before H t (RuleEdge r i) h = absurd h
line_before H t (PlanLine r q) h = absurd h
line_before H t Graph h = tt
line_before H t (GraphEdge e) h = tt
line_before H t Nothing h = absurd h

module _ (g : List ℕ) (ok : GrammarOk (grammar_of g)) (H : Grammars.Graph) (good : GraphOk (grammar_of g) H) where
  line_small : (d : Due) → HasGraphLine H d → Small (graph_fields H d)
  unfolding graph_fields
  line_small Grammar h = absurd h
  line_small (Symbol s) h = absurd h
  line_small (Rule r) h = absurd h
  line_small (RuleEdge r i) h = absurd h
  line_small (PlanLine r q) h = absurd h
  line_small Graph h =
      let S = good.side in
      small_two H.nodes (length H.edges) H.externals (omega (arith, S.node_count.upper)) (omega (arith, S.edge_count.upper))
      (small_listed H.nodes (rank_of (grammar_of g) (grammar_of g).start) H.externals (omega (arith, S.node_count.upper)) S.externals)
  line_small (GraphEdge e) h =
      let S = good.side in
      let E = S.edge e h in
      let x = edge_at H.edges e in
      small_more x.label x.attachment (omega (arith, E.known, ok.symbol_count_is.upper))
      (small_listed H.nodes (rank_of (grammar_of g) x.label) x.attachment (omega (arith, S.node_count.upper)) E.listed)
  line_small Nothing h = absurd h

  line_writes : (d : Due) → HasGraphLine H d → Writable (letter_at d) (graph_fields H d)
  unfolding graph_fields
  line_writes Grammar h = absurd h
  line_writes (Symbol s) h = absurd h
  line_writes (Rule r) h = absurd h
  line_writes (RuleEdge r i) h = absurd h
  line_writes (PlanLine r q) h = absurd h
  line_writes Graph h =
      record {
        capital = letter_capital Graph tt;
        some = omega arith;
        few = omega (arith, good.side.externals.ranked, (ok.symbol (grammar_of g).start ok.start_known).upper);
        small = small_field (graph_fields H Graph) (line_small Graph h);
      }
  line_writes (GraphEdge e) h =
      let E = good.side.edge e h in
      record {
        capital = letter_capital (GraphEdge e) tt;
        some = omega arith;
        few = omega (arith, E.listed.ranked, (ok.symbol (edge_at H.edges e).label E.known).upper);
        small = small_field (graph_fields H (GraphEdge e)) (line_small (GraphEdge e) h);
      }
  line_writes Nothing h = absurd h

  module _ (t : List ℕ) (held : GraphIn H t) where
    line_order : (d : Due) → HasGraphLine H d → next t d ≡ after_graph H d
    unfolding next after_graph
    line_order Grammar h = absurd h
    line_order (Symbol s) h = absurd h
    line_order (Rule r) h = absurd h
    line_order (RuleEdge r i) h = absurd h
    line_order (PlanLine r q) h = absurd h
    line_order Graph h = refl
    line_order (GraphEdge e) h =
        let count : min 64 (graph_edges t) ≡ length H.edges = omega (arith, graph_edges_is g ok H t held, good.side.edge_count.upper) in
        rw count
    line_order Nothing h = absurd h

    externals_back : tabulate (rank_at g (start_symbol g)) (λ k. graph_external t k) ≡ H.externals
    externals_back =
        let rank = start_rank g ok H t held in
        let small = (ok.symbol (grammar_of g).start ok.start_known).upper in
        tabulate_list H.externals (rank_at g (start_symbol g)) (λ k. graph_external t k) (rank ∙ sym good.side.externals.ranked)
        (λ k l. graph_external_is g ok H t held k (omega arith))

    edges_back : build (graph_edges t) (λ e. record { label = graph_label t e; attachment = tabulate (rank_at g (graph_label t e)) (λ k. graph_node t e k) }) ≡ H.edges
    edges_back =
        build_list no_edge H.edges (graph_edges t) _ (graph_edges_is g ok H t held) (λ e l. go e (omega (arith, graph_edges_is g ok H t held)))
      where
        go : (e : ℕ) → e < length H.edges
            → record { label = graph_label t e; attachment = tabulate (rank_at g (graph_label t e)) (λ k. graph_node t e k) } ≡ edge_at H.edges e
        go e l =
            let E = good.side.edge e l in
            let label = graph_label_lem g ok H t held e l in
            let nodes = graph_edge_nodes g ok H t held e l (E.known, E.listed.ranked) in
            λ x. record { label = label x; attachment = nodes x }

    graph_back : graph_of g t ≡ H
    unfolding graph_of
    graph_back =
        let nodes = graph_nodes_lem g ok H t held in
        let externals = externals_back in
        let edges = edges_back in
        λ x. record { nodes = nodes x; externals = externals x; edges = edges x }

-- ---- the table that the text is read into
module _ (g : List ℕ) (ok : GrammarOk (grammar_of g)) (H : Grammars.Graph) (good : GraphOk (grammar_of g) H) where
  few : length H.edges ≤ 64
  few = good.side.edge_count.upper

  chain : Chain (HasGraphLine H) (after_graph H) Graph (graph_lines H)
  chain = graph_chain H good.side.edge_count.lower

  cleared : List ℕ
  cleared = replicate graph_words 0

  cleared_size : length cleared ≡ graph_words
  unfolding cleared
  cleared_size = length-replicate {A = ℕ} graph_words 0

  table : List ℕ
  table = filled (graph_fields H) cleared (graph_lines H)

  table_size : length table ≡ graph_words
  unfolding table
  table_size =
      (chain_onward (graph_fields H) (HasGraphLine H) (after_graph H) graph_words (line_is H) (line_room H few) (line_forward H few) chain cleared cleared_size).same_length
      ∙ cleared_size

  -- it holds the lines of the graph, whatever stands behind it
  held : GraphIn H table
  unfolding table
  held d h = chain_holds (graph_fields H) (HasGraphLine H) (after_graph H) graph_words (line_is H) (line_room H few) (line_forward H few) (line_small g ok H good) chain cleared cleared_size d (in_graph_lem H d h)

  held_longer : (rest : List ℕ) → GraphIn H (table ++ rest)
  held_longer rest d h j l =
      field_front table rest (place_of d) j (omega (arith, room_place graph_words d (line_room H few d h), table_size)) ∙ held d h j l

  text_accepted : graph_verdict g (graph_text H) ≡ accepted table
  unfolding graph_verdict graph_text table cleared
  text_accepted =
      chain_read (graph_fields H) (HasGraphLine H) (after_graph H) graph_words (line_is H) (line_room H few) (line_forward H few)
      g table (graph_ok_passes g ok H table held good) (line_before H table) (line_order g ok H good table held) (line_writes g ok H good) chain cleared cleared_size refl

  -- Every graph that is well-formed with the grammar of g is the reading of its text with g.
  pub graph_text_read : (t : List ℕ) × (graph_verdict g (graph_text H) ≡ accepted t) × (graph_of g t ≡ H)
  graph_text_read = (table, text_accepted, graph_back g ok H good table held)

  -- The reader leaves it in every lent table that is long enough, where the grammar table passes question 8.
  pub graph_text_lent : check_grammar g ≡ true → (former : List ℕ) → graph_words ≤ length former → (t : List ℕ) × (read_graph g (graph_text H) former ≡ record { answer = Done; table = t }) × (graph_of g t ≡ H)
  graph_text_lent c former h =
      let rest = drop graph_words former in (
        table ++ rest,
        grammar_passed_first g (graph_text H) former c
            ∙ delivered_long graph_words (graph_verdict g (graph_text H)) table former text_accepted h,
        graph_back g ok H good (table ++ rest) (held_longer rest),
      )

-- A graph is well-formed with the grammar of an accepted table exactly where it is the reading of an accepted text.
pub record ReadGraph (g : List ℕ) (H : Grammars.Graph) : Type 0 where
  pub text : List ℕ
  pub table : List ℕ
  pub verdict : graph_verdict g text ≡ accepted table
  pub same : graph_of g table ≡ H

pub well_formed_graph_read : (grammar_text g : List ℕ) → grammar_verdict grammar_text ≡ accepted g → (H : Grammars.Graph) → GraphOk (grammar_of g) H → ReadGraph g H
well_formed_graph_read grammar_text g a H good =
    let (t, v, e) = graph_text_read g (accepted_grammar grammar_text g a) H good in
    record { text = graph_text H; table = t; verdict = v; same = e }

pub read_well_formed_graph : (grammar_text g : List ℕ) → grammar_verdict grammar_text ≡ accepted g → (H : Grammars.Graph) → ReadGraph g H → GraphOk (grammar_of g) H
read_well_formed_graph grammar_text g a H r =
    subst (GraphOk (grammar_of g)) r.same (read_graph_ok g r.text r.table (accepted_grammar grammar_text g a) r.verdict)
