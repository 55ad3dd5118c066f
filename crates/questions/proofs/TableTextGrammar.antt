-- Every well-formed grammar is the reading of its text.
use mathlib.Core.Path.{◌≡◌, refl, sym, ap, ◌∙◌, subst}
use mathlib.Core.Bool.{cond}
use mathlib.Core.List.{List, [], ◌∷◌, ◌++◌}
use Prim.Native.Nat.{ℕ, zero, suc, ◌+◌, ◌≤◌, ◌<◌, min}
use native.Mathlib.Omega.{arith}
use native.Mathlib.Decide.{dec_lt}
use lib.ListN.{length, get_or, drop, replicate, length-replicate}
use lib.Dec.{ltb}
use borrow.Author.Tests.{lt-ltb, le-ltb}
use Rattle.hrg.specs.Counts.{occurs, tabulate}
use Rattle.hrg.specs.Grammars
use Rattle.hrg.specs.Grammars.{Kind, terminal, nonterminal, PlanNode, leaf, introduce, join, no_symbol, no_edge, no_rule, kind_of, rank_of, rule_of, lhs_of, right_of, plan_of, plan_node, edge_at}
use Rattle.hrg.specs.WellFormed.{children, introduced, GrammarOk}
use Rattle.hrg.proofs.Sums.{hit_self}
use Rattle.format.specs.Writing.{Writable}
use Rattle.questions.specs.Layout.{symbol_place, edge_place, plan_place, place_of, line_field, grammar_words, symbol_count, rule_count, kind_field, rank_at, rule_symbol, rule_edges, rule_plan, rule_external, edge_label, edge_node, plan_kind, plan_first, plan_second}
use Rattle.questions.specs.Questions.{field}
use Rattle.questions.specs.Reading.{next, accepted, grammar_verdict, read_grammar, Done}
use Rattle.questions.specs.Abstract.{build, kind_from, plan_from, rule_from, grammar_of}
use Rattle.questions.specs.TableText.{kind_number, plan_fields, grammar_fields, series, rule_lines, rules_lines, grammar_lines, grammar_text}
use Rattle.questions.specs.Walk.{Room}
use Rattle.questions.specs.declared.Due.{Due}
use Rattle.questions.specs.declared.Due.TheVariants.{Grammar, Symbol, Rule, RuleEdge, PlanLine, Graph, GraphEdge, Nothing}
use Rattle.questions.proofs.WellFormedWalk.{IsLine, reach, room_place, Before, cond_by}
use Rattle.questions.proofs.WellFormedLists.{build_list, tabulate_list}
use Rattle.questions.proofs.WellFormedPlans.{NodeOk, ok_node}
use Rattle.questions.proofs.WellFormedTables.{number_le, HasLine, GrammarIn, symbol_count_is, rule_count_is, start_symbol_is, kind_field_lem, rank_at_lem, rule_symbol_lem, rule_nodes_lem, rule_edges_lem, rule_plan_lem, rule_external_lem, edge_label_is, edge_nodes_lem, plan_field}
use Rattle.questions.proofs.WellFormedGrammar.{ok_passes}
use Rattle.questions.proofs.WellFormedAccepted.{accepted_grammar}
use Rattle.questions.proofs.StoredLaws.{field_front}
use Rattle.questions.proofs.TableTextLines.{delivered_long, letter_at, letter_capital, small_field, small_more, small_two, small_three, small_listed, Chain, end, link, filled, In, here, there, in_left, in_right, in_series, series_chain, chain_onward, chain_holds, chain_read}
use Rattle.questions.proofs.SmallFields.{Small}

-- ---- the order of a grammar's lines
after_grammar : Grammars.Grammar → Due → Due
after_grammar G Grammar = Symbol 0
after_grammar G (Symbol s) = cond (ltb (s + 1) (length G.symbols)) (Symbol (s + 1)) (Rule 0)
after_grammar G (Rule r) = RuleEdge r 0
after_grammar G (RuleEdge r i) = cond (ltb (i + 1) (length (right_of G r).edges)) (RuleEdge r (i + 1)) (PlanLine r 0)
after_grammar G (PlanLine r q) =
    cond (ltb (q + 1) (length (plan_of G r))) (PlanLine r (q + 1)) (cond (ltb (r + 1) (length G.rules)) (Rule (r + 1)) Nothing)
after_grammar G Graph = Nothing
after_grammar G (GraphEdge e) = Nothing
after_grammar G Nothing = Nothing

-- what is due after rule r
after_rule : Grammars.Grammar → ℕ → Due
after_rule G r = cond (ltb (r + 1) (length G.rules)) (Rule (r + 1)) Nothing

module _ (G : Grammars.Grammar) (ok : GrammarOk G) where
  rule_chain : (r : ℕ) → r < length G.rules → (rest : List Due) → Chain (HasLine G) (after_grammar G) (after_rule G r) rest → Chain (HasLine G) (after_grammar G) (Rule r) (rule_lines G r rest)
  unfolding after_grammar after_rule
  rule_chain r h rest tail =
      let R = ok.rule r h in
      let plan = series_chain (HasLine G) (after_grammar G) (PlanLine r) (after_rule G r) (length (plan_of G r)) (λ q l. (h, l)) (λ q. refl) rest tail
      (length (plan_of G r)) 0 (omega (arith, R.plan.size.lower)) (omega arith)
      in
      link h
      (series_chain (HasLine G) (after_grammar G) (RuleEdge r) (PlanLine r 0) (length (right_of G r).edges) (λ i l. (h, l)) (λ i. refl)
      (series (PlanLine r) 0 (length (plan_of G r)) ++ rest) plan
      (length (right_of G r).edges) 0 R.right.edge_count.lower (omega arith))

  rules_chain : (n r : ℕ) → 1 ≤ n → r + n ≡ length G.rules → Chain (HasLine G) (after_grammar G) (Rule r) (rules_lines G r n)
  unfolding rules_lines after_rule
  rules_chain zero r h e = absurd (omega arith)
  rules_chain (suc zero) r h e =
      let last : after_rule G r ≡ Nothing = rw (le-ltb (r + 1) (length G.rules) (omega arith)) in
      rule_chain r (omega arith) [] (subst (λ (d : Due). Chain (HasLine G) (after_grammar G) d []) (sym last) end)
  rules_chain (suc (suc n)) r h e =
      let more : after_rule G r ≡ Rule (r + 1) = rw (lt-ltb (r + 1) (length G.rules) (omega arith)) in
      rule_chain r (omega arith) (rules_lines G (r + 1) (suc n))
      (subst (λ (d : Due). Chain (HasLine G) (after_grammar G) d (rules_lines G (r + 1) (suc n))) (sym more) (rules_chain (suc n) (r + 1) (omega arith) (omega arith)))

  grammar_chain : Chain (HasLine G) (after_grammar G) Grammar (grammar_lines G)
  unfolding grammar_lines after_grammar
  grammar_chain =
      link tt
      (series_chain (HasLine G) (after_grammar G) Symbol (Rule 0) (length G.symbols) (λ s l. l) (λ s. refl) (rules_lines G 0 (length G.rules))
      (rules_chain (length G.rules) 0 ok.rule_count_is.lower (omega arith))
      (length G.symbols) 0 ok.symbol_count_is.lower (omega arith))

-- ---- every line is among them
module _ (G : Grammars.Grammar) where
  in_rules : (x : Due) (n r k : ℕ) → r ≤ k → k < r + n → ((rest : List Due) → In x (rule_lines G k rest)) → In x (rules_lines G r n)
  unfolding rules_lines
  in_rules x zero r k h l m = absurd (omega arith)
  in_rules x (suc n) r k h l m = go (dec_lt r k) (λ b. in_rules x n (r + 1) k b (omega arith) m)
    where
      go : Dec (r < k) → (r + 1 ≤ k → In x (rules_lines G (r + 1) n)) → In x (rule_lines G r (rules_lines G (r + 1) n))
      go (yes b) later =
          there (in_right (series (RuleEdge r) 0 (length (right_of G r).edges)) _ (in_right (series (PlanLine r) 0 (length (plan_of G r))) _ (later (omega arith))))
      go (no b) later =
          let same : k ≡ r = omega arith in
          subst (λ (i : ℕ). In x (rule_lines G i (rules_lines G (r + 1) n))) same (m (rules_lines G (r + 1) n))

  in_grammar : (d : Due) → HasLine G d → In d (grammar_lines G)
  unfolding grammar_lines
  in_grammar Grammar h = here
  in_grammar (Symbol s) h = there (in_left (series Symbol 0 (length G.symbols)) _ (in_series Symbol (length G.symbols) 0 s (omega arith) (omega arith)))
  in_grammar (Rule r) h =
      there (in_right (series Symbol 0 (length G.symbols)) _ (in_rules (Rule r) (length G.rules) 0 r (omega arith) (omega arith) (λ rest. here)))
  in_grammar (RuleEdge r i) h =
      there (in_right (series Symbol 0 (length G.symbols)) _ (in_rules (RuleEdge r i) (length G.rules) 0 r (omega arith) (omega arith)
      (λ rest. there (in_left (series (RuleEdge r) 0 (length (right_of G r).edges)) _ (in_series (RuleEdge r) (length (right_of G r).edges) 0 i (omega arith) (omega arith))))))
  in_grammar (PlanLine r q) h =
      there (in_right (series Symbol 0 (length G.symbols)) _ (in_rules (PlanLine r q) (length G.rules) 0 r (omega arith) (omega arith)
      (λ rest. there (in_right (series (RuleEdge r) 0 (length (right_of G r).edges)) _
      (in_left (series (PlanLine r) 0 (length (plan_of G r))) _ (in_series (PlanLine r) (length (plan_of G r)) 0 q (omega arith) (omega arith)))))))
  in_grammar Graph h = absurd h
  in_grammar (GraphEdge e) h = absurd h
  in_grammar Nothing h = absurd h

-- ---- the lines have their places, and each stands behind the one before it
line_is : (G : Grammars.Grammar) (d : Due) → HasLine G d → IsLine d
line_is G Grammar h = tt
line_is G (Symbol s) h = tt
line_is G (Rule r) h = tt
line_is G (RuleEdge r i) h = tt
line_is G (PlanLine r q) h = tt
line_is G Graph h = absurd h
line_is G (GraphEdge e) h = absurd h
line_is G Nothing h = absurd h

module _ (G : Grammars.Grammar) (ok : GrammarOk G) where
  line_room : (d : Due) → HasLine G d → Room grammar_words d
  line_room Grammar h = omega arith
  line_room (Symbol s) h = (omega (arith, ok.symbol_count_is.upper), omega arith)
  line_room (Rule r) h = (omega (arith, ok.rule_count_is.upper), omega arith)
  line_room (RuleEdge r i) h = (omega (arith, ok.rule_count_is.upper), omega (arith, (ok.rule r h.0).right.edge_count.upper), omega arith)
  line_room (PlanLine r q) h = (omega (arith, ok.rule_count_is.upper), omega (arith, (ok.rule r h.0).plan.size.upper), omega arith)
  line_room Graph h = absurd h
  line_room (GraphEdge e) h = absurd h
  line_room Nothing h = absurd h

  line_forward : (d : Due) → HasLine G d → place_of d < reach (after_grammar G d)
  unfolding place_of after_grammar
  line_forward Grammar h = omega arith
  line_forward (Symbol s) h =
      cond_by (λ (d : Due). symbol_place s < reach d) (ltb (s + 1) (length G.symbols)) (Symbol (s + 1)) (Rule 0) (λ e. omega arith) (λ e. omega (arith, ok.symbol_count_is.upper))
  line_forward (Rule r) h = omega arith
  line_forward (RuleEdge r i) h =
      cond_by (λ (d : Due). edge_place r i < reach d) (ltb (i + 1) (length (right_of G r).edges)) (RuleEdge r (i + 1)) (PlanLine r 0)
      (λ e. omega arith) (λ e. omega (arith, (ok.rule r h.0).right.edge_count.upper))
  line_forward (PlanLine r q) h =
      let few = (ok.rule r h.0).plan.size.upper in
      cond_by (λ (d : Due). plan_place r q < reach d) (ltb (q + 1) (length (plan_of G r))) (PlanLine r (q + 1)) (cond (ltb (r + 1) (length G.rules)) (Rule (r + 1)) Nothing)
      (λ e. omega arith)
      (λ e. cond_by (λ (d : Due). plan_place r q < reach d) (ltb (r + 1) (length G.rules)) (Rule (r + 1)) Nothing (λ f. omega arith) (λ f. omega (arith, ok.rule_count_is.upper)))
  line_forward Graph h = absurd h
  line_forward (GraphEdge e) h = absurd h
  line_forward Nothing h = absurd h

  -- ---- the fields of each line can be written
  plan_small : (r q : ℕ) → r < length G.rules → q < length (plan_of G r) → Small (plan_fields (plan_node (plan_of G r) q))
  unfolding occurs
  plan_small r q h l = go (plan_node (plan_of G r) q) (λ c. n.lower c) (λ i o. (n.known i o).0)
    where
      n : NodeOk (length (right_of G r).edges) (plan_of G r) q
      n = ok_node (length (right_of G r).edges) (plan_of G r) (ok.rule r h).plan q l

      size : length (plan_of G r) ≤ 16
      size = (ok.rule r h).plan.size.upper

      edges : length (right_of G r).edges ≤ 8
      edges = (ok.rule r h).right.edge_count.upper

      go : (x : PlanNode) → ((c : ℕ) → 0 < occurs c (children x) → c < q) → ((i : ℕ) → 0 < occurs i (introduced x) → i < length (right_of G r).edges) → Small (plan_fields x)
      go leaf lower known = small_three 0 0 0 (omega arith) (omega arith) (omega arith)
      go (introduce c i) lower known =
          small_three 1 c i (omega arith) (omega (arith, lower c (omega (arith, hit_self c)), size)) (omega (arith, known i (omega (arith, hit_self i)), edges))
      go (join a b) lower known =
          small_three 2 a b (omega arith) (omega (arith, lower a (omega (arith, hit_self a)), size)) (omega (arith, lower b (omega (arith, hit_self b)), size))

  plan_count : (x : PlanNode) → (1 ≤ length (plan_fields x)) × (length (plan_fields x) ≤ 18)
  plan_count leaf = omega arith
  plan_count (introduce c i) = omega arith
  plan_count (join a b) = omega arith

  line_small : (d : Due) → HasLine G d → Small (grammar_fields G d)
  unfolding grammar_fields
  line_small Grammar h =
      small_three (length G.symbols) (length G.rules) G.start
      (omega (arith, ok.symbol_count_is.upper)) (omega (arith, ok.rule_count_is.upper)) (omega (arith, ok.start_known, ok.symbol_count_is.upper))
  line_small (Symbol s) h =
      small_three s (kind_number (kind_of G s)) (rank_of G s)
      (omega (arith, ok.symbol_count_is.upper)) (omega (arith, number_le (kind_of G s))) (omega (arith, (ok.symbol s h).upper))
  line_small (Rule r) h =
      let R = ok.rule r h in
      small_two r (lhs_of G r) ((right_of G r).nodes ∷ length (right_of G r).edges ∷ length (plan_of G r) ∷ (right_of G r).externals)
      (omega (arith, ok.rule_count_is.upper)) (omega (arith, R.lhs_known, ok.symbol_count_is.upper))
      (small_two (right_of G r).nodes (length (right_of G r).edges) (length (plan_of G r) ∷ (right_of G r).externals)
      (omega (arith, R.right.node_count.upper)) (omega (arith, R.right.edge_count.upper))
      (small_more (length (plan_of G r)) (right_of G r).externals (omega (arith, R.plan.size.upper))
      (small_listed (right_of G r).nodes (rank_of G (lhs_of G r)) (right_of G r).externals (omega (arith, R.right.node_count.upper)) R.right.externals)))
  line_small (RuleEdge r i) h =
      let S = (ok.rule r h.0).right in
      let E = S.edge i h.1 in
      let e = edge_at (right_of G r).edges i in
      small_more e.label e.attachment (omega (arith, E.known, ok.symbol_count_is.upper))
      (small_listed (right_of G r).nodes (rank_of G e.label) e.attachment (omega (arith, S.node_count.upper)) E.listed)
  line_small (PlanLine r q) h = plan_small r q h.0 h.1
  line_small Graph h = absurd h
  line_small (GraphEdge e) h = absurd h
  line_small Nothing h = absurd h

  line_writes : (d : Due) → HasLine G d → Writable (letter_at d) (grammar_fields G d)
  unfolding grammar_fields
  line_writes Grammar h = record { capital = letter_capital Grammar tt; some = omega arith; few = omega arith; small = small_field (grammar_fields G Grammar) (line_small Grammar h) }
  line_writes (Symbol s) h = record { capital = letter_capital (Symbol s) tt; some = omega arith; few = omega arith; small = small_field (grammar_fields G (Symbol s)) (line_small (Symbol s) h) }
  line_writes (Rule r) h =
      let R = ok.rule r h in
      record {
        capital = letter_capital (Rule r) tt;
        some = omega arith;
        few = omega (arith, R.right.externals.ranked, (ok.symbol (lhs_of G r) R.lhs_known).upper);
        small = small_field (grammar_fields G (Rule r)) (line_small (Rule r) h);
      }
  line_writes (RuleEdge r i) h =
      let E = (ok.rule r h.0).right.edge i h.1 in
      record {
        capital = letter_capital (RuleEdge r i) tt;
        some = omega arith;
        few = omega (arith, E.listed.ranked, (ok.symbol (edge_at (right_of G r).edges i).label E.known).upper);
        small = small_field (grammar_fields G (RuleEdge r i)) (line_small (RuleEdge r i) h);
      }
  line_writes (PlanLine r q) h =
      let two = plan_count (plan_node (plan_of G r) q) in
      record { capital = letter_capital (PlanLine r q) tt; some = two.0; few = two.1; small = small_field (grammar_fields G (PlanLine r q)) (line_small (PlanLine r q) h) }
  line_writes Graph h = absurd h
  line_writes (GraphEdge e) h = absurd h
  line_writes Nothing h = absurd h

  -- ---- in the table that holds the lines
  module _ (t : List ℕ) (held : GrammarIn G t) where
    symbols_few : symbol_count t ≤ 64
    symbols_few = omega (arith, symbol_count_is G t held, ok.symbol_count_is.upper)

    line_before : (d : Due) → HasLine G d → Before t d
    line_before Grammar h = tt
    line_before (Symbol s) h = symbols_few
    line_before (Rule r) h = symbols_few
    line_before (RuleEdge r i) h = (
      symbols_few,
      λ k l.
          let b : k < length (right_of G r).edges = omega arith in
          omega (arith, edge_label_is G t held r h.0 k b, ((ok.rule r h.0).right.edge k b).known, ok.symbol_count_is.upper),
    )
    line_before (PlanLine r q) h = symbols_few
    line_before Graph h = tt
    line_before (GraphEdge e) h = tt
    line_before Nothing h = tt

    line_order : (d : Due) → HasLine G d → next t d ≡ after_grammar G d
    unfolding next after_grammar
    line_order Grammar h = refl
    line_order (Symbol s) h =
        let count : min 64 (symbol_count t) ≡ length G.symbols = omega (arith, symbol_count_is G t held, ok.symbol_count_is.upper) in
        rw count
    line_order (Rule r) h = refl
    line_order (RuleEdge r i) h =
        let count : min 8 (rule_edges t r) ≡ length (right_of G r).edges = omega (arith, rule_edges_lem G t held r h.0, (ok.rule r h.0).right.edge_count.upper) in
        rw count
    line_order (PlanLine r q) h =
        let count : min 16 (rule_plan t r) ≡ length (plan_of G r) = omega (arith, rule_plan_lem G t held r h.0, (ok.rule r h.0).plan.size.upper) in
        let rules : min 64 (rule_count t) ≡ length G.rules = omega (arith, rule_count_is G t held, ok.rule_count_is.upper) in
        rw (count, rules)
    line_order Graph h = absurd h
    line_order (GraphEdge e) h = absurd h
    line_order Nothing h = absurd h

    -- ---- the table's grammar is the grammar
    kind_back : (k : Kind) → kind_from (kind_number k) ≡ k
    kind_back terminal = refl
    kind_back nonterminal = refl

    plan_back : (x : PlanNode) → plan_from (field (plan_fields x) 0) (field (plan_fields x) 1) (field (plan_fields x) 2) ≡ x
    plan_back leaf = refl
    plan_back (introduce c i) = refl
    plan_back (join a b) = refl

    symbols_back : build (symbol_count t) (λ s. record { kind = kind_from (kind_field t s); rank = rank_at t s }) ≡ G.symbols
    symbols_back =
        build_list no_symbol G.symbols (symbol_count t) _ (symbol_count_is G t held) (λ s l. go s (omega (arith, symbol_count_is G t held)))
      where
        go : (s : ℕ) → s < length G.symbols → record { kind = kind_from (kind_field t s); rank = rank_at t s } ≡ get_or G.symbols s no_symbol
        go s h =
            let kind : kind_from (kind_field t s) ≡ kind_of G s = ap kind_from (kind_field_lem G t held s h) ∙ kind_back (kind_of G s) in
            let rank = rank_at_lem G t held s h in
            λ i. record { kind = kind i; rank = rank i }

    module _ (r : ℕ) (h : r < length G.rules) where
      externals_back : tabulate (rank_at t (rule_symbol t r)) (λ k. rule_external t r k) ≡ (right_of G r).externals
      externals_back =
          let R = ok.rule r h in
          let rank : rank_at t (rule_symbol t r) ≡ rank_of G (lhs_of G r) = ap (rank_at t) (rule_symbol_lem G t held r h) ∙ rank_at_lem G t held (lhs_of G r) R.lhs_known in
          tabulate_list (right_of G r).externals (rank_at t (rule_symbol t r)) (λ k. rule_external t r k) (rank ∙ sym R.right.externals.ranked)
          (λ k l. rule_external_lem G t held r h k (omega (arith, (ok.symbol (lhs_of G r) R.lhs_known).upper)))

      edges_back : build (rule_edges t r) (λ i. record { label = edge_label t r i; attachment = tabulate (rank_at t (edge_label t r i)) (λ k. edge_node t r i k) }) ≡ (right_of G r).edges
      edges_back =
          build_list no_edge (right_of G r).edges (rule_edges t r) _ (rule_edges_lem G t held r h) (λ i l. go i (omega (arith, rule_edges_lem G t held r h)))
        where
          go : (i : ℕ) → i < length (right_of G r).edges
              → record { label = edge_label t r i; attachment = tabulate (rank_at t (edge_label t r i)) (λ k. edge_node t r i k) } ≡ edge_at (right_of G r).edges i
          go i l =
              let E = (ok.rule r h).right.edge i l in
              let label = edge_label_is G t held r h i l in
              let nodes = edge_nodes_lem G t held r h i l (E.known, E.listed.ranked) in
              λ x. record { label = label x; attachment = nodes x }

      plan_all_back : build (rule_plan t r) (λ q. plan_from (plan_kind t r q) (plan_first t r q) (plan_second t r q)) ≡ plan_of G r
      plan_all_back =
          build_list leaf (plan_of G r) (rule_plan t r) _ (rule_plan_lem G t held r h) (λ q l. go q (omega (arith, rule_plan_lem G t held r h)))
        where
          go : (q : ℕ) → q < length (plan_of G r) → plan_from (plan_kind t r q) (plan_first t r q) (plan_second t r q) ≡ plan_node (plan_of G r) q
          go q l =
              rw (plan_field G t held r h q l 0 (omega arith), plan_field G t held r h q l 1 (omega arith), plan_field G t held r h q l 2 (omega arith))
              (plan_back (plan_node (plan_of G r) q))

      rule_back : rule_from t r ≡ rule_of G r
      unfolding rule_from
      rule_back =
          let symbol = rule_symbol_lem G t held r h in
          let nodes = rule_nodes_lem G t held r h in
          let externals = externals_back in
          let edges = edges_back in
          let plan = plan_all_back in
          λ x. record {
            production = record { lhs = symbol x; right = record { nodes = nodes x; externals = externals x; edges = edges x } };
            plan = plan x;
          }

    grammar_back : grammar_of t ≡ G
    unfolding grammar_of
    grammar_back =
        let symbols = symbols_back in
        let start = start_symbol_is G t held in
        let rules = build_list no_rule G.rules (rule_count t) (λ r. rule_from t r) (rule_count_is G t held) (λ r l. rule_back r (omega (arith, rule_count_is G t held))) in
        λ x. record { symbols = symbols x; start = start x; rules = rules x }

-- ---- the table that the text is read into
module _ (G : Grammars.Grammar) (ok : GrammarOk G) where
  cleared : List ℕ
  cleared = replicate grammar_words 0

  cleared_size : length cleared ≡ grammar_words
  unfolding cleared
  cleared_size = length-replicate {A = ℕ} grammar_words 0

  table : List ℕ
  table = filled (grammar_fields G) cleared (grammar_lines G)

  table_size : length table ≡ grammar_words
  unfolding table
  table_size =
      (chain_onward (grammar_fields G) (HasLine G) (after_grammar G) grammar_words (line_is G) (line_room G ok) (line_forward G ok) (grammar_chain G ok) cleared cleared_size).same_length
      ∙ cleared_size

  -- it holds the lines of the grammar, whatever stands behind it
  holds : (d : Due) → HasLine G d → (j : ℕ) → j < 9 → line_field table (place_of d) j ≡ field (grammar_fields G d) j
  unfolding table
  holds d h = chain_holds (grammar_fields G) (HasLine G) (after_grammar G) grammar_words (line_is G) (line_room G ok) (line_forward G ok) (line_small G ok) (grammar_chain G ok) cleared cleared_size d (in_grammar G d h)

  held : GrammarIn G table
  held = record { lines = holds; ranks = λ s h. (ok.symbol s h).upper }

  held_longer : (rest : List ℕ) → GrammarIn G (table ++ rest)
  held_longer rest = record {
    lines = λ d h j l.
        field_front table rest (place_of d) j (omega (arith, room_place grammar_words d (line_room G ok d h), table_size)) ∙ holds d h j l;
    ranks = λ s h. (ok.symbol s h).upper;
  }

  text_accepted : grammar_verdict (grammar_text G) ≡ accepted table
  unfolding grammar_verdict grammar_text table cleared
  text_accepted =
      chain_read (grammar_fields G) (HasLine G) (after_grammar G) grammar_words (line_is G) (line_room G ok) (line_forward G ok)
      [] table (ok_passes G table held ok) (line_before G ok table held) (line_order G ok table held) (line_writes G ok) (grammar_chain G ok) cleared cleared_size refl

  -- Every well-formed grammar is the reading of its text.
  pub grammar_text_read : (t : List ℕ) × (grammar_verdict (grammar_text G) ≡ accepted t) × (grammar_of t ≡ G)
  grammar_text_read = (table, text_accepted, grammar_back G ok table held)

  -- The reader leaves it in every lent table that is long enough.
  pub grammar_text_lent : (former : List ℕ) → grammar_words ≤ length former → (t : List ℕ) × (read_grammar (grammar_text G) former ≡ record { answer = Done; table = t }) × (grammar_of t ≡ G)
  unfolding read_grammar
  grammar_text_lent former h =
      let rest = drop grammar_words former in
      (table ++ rest, delivered_long grammar_words (grammar_verdict (grammar_text G)) table former text_accepted h, grammar_back G ok (table ++ rest) (held_longer rest))

-- A grammar is well-formed exactly where it is the reading of an accepted text.
pub record ReadGrammar (G : Grammars.Grammar) : Type 0 where
  pub text : List ℕ
  pub table : List ℕ
  pub verdict : grammar_verdict text ≡ accepted table
  pub same : grammar_of table ≡ G

pub well_formed_read : (G : Grammars.Grammar) → GrammarOk G → ReadGrammar G
well_formed_read G ok =
    let (t, v, e) = grammar_text_read G ok in
    record { text = grammar_text G; table = t; verdict = v; same = e }

pub read_well_formed : (G : Grammars.Grammar) → ReadGrammar G → GrammarOk G
read_well_formed G r = subst GrammarOk r.same (accepted_grammar r.text r.table r.verdict)
