-- The lines of a table that holds a grammar pass questions 3 to 7 exactly where the grammar is well-formed.
use mathlib.Core.Path.{◌≡◌, refl, sym, ap, ◌∙◌, subst}
use mathlib.Core.Logic.{◌⊎◌, inl, inr}
use mathlib.Core.List.{List, [], ◌++◌}
use Prim.Native.Nat.{ℕ, ◌+◌, ◌≤◌, ◌<◌}
use native.Mathlib.Omega.{arith}
use lib.ListN.{length}
use Rattle.hrg.specs.Counts.{occurs}
use Rattle.hrg.specs.Grammars
use Rattle.hrg.specs.Grammars.{Kind, terminal, nonterminal, kind_of, rank_of, rule_of, lhs_of, right_of, plan_of, plan_node, edge_at}
use Rattle.hrg.specs.WellFormed.{Between, Listed, EdgeOk, SideOk, RuleOk, SymbolOk, GrammarOk}
use Rattle.questions.specs.Layout.{start_symbol, rule_nodes, rule_edges, rule_plan}
use Rattle.questions.specs.Questions.{field, nodes_on_edges, judge}
use Rattle.questions.specs.TableText.{kind_number, plan_fields, grammar_fields}
use Rattle.questions.specs.declared.Due.{Due}
use Rattle.questions.specs.declared.Due.TheVariants.{Grammar, Symbol, Rule, RuleEdge, PlanLine, Graph, GraphEdge, Nothing}
use Rattle.questions.proofs.WellFormedQuestions.{InOrder, Covers, PassedGrammar, passes_grammar, PassedSymbol, passes_symbol, PassedRule, passes_rule, PassedEdge, passes_edge, Whole, PassedPlan, passes_plan}
use Rattle.questions.proofs.WellFormedPlans.{Complete, NodeOk, plan_ok, ok_node}
use Rattle.questions.proofs.WellFormedTables.{in_order_listed, listed_in_order, Covering, covering_side, side_covering, number_nonterminal, nonterminal_number, number_le, children_of_lem, introduced_by_lem, plan_kind_lem, plan_three, plan_leaf, HasLine, GrammarIn, Ranked, symbol_count_is, start_symbol_is, kind_field_lem, rank_at_lem, rule_nodes_lem, rule_edges_lem, rule_plan_lem, nodes_on_edges_lem, introduced_before_lem, children_so_far, introduced_so_far}

-- every line passes
abbrev pub AllPass : Grammars.Grammar → List ℕ → Type 0
AllPass G t = (d : Due) → HasLine G d → judge [] t d (grammar_fields G d) ≡ 0

-- ---- lines that pass
module _ (G : Grammars.Grammar) (t : List ℕ) (held : GrammarIn G t) (pass : AllPass G t) where
  grammar_passed : PassedGrammar (grammar_fields G Grammar)
  unfolding judge
  grammar_passed = (passes_grammar (grammar_fields G Grammar)).sound (pass Grammar tt)

  symbol_passed : (s : ℕ) → s < length G.symbols → PassedSymbol t s (grammar_fields G (Symbol s))
  unfolding judge
  symbol_passed s h = (passes_symbol t s (grammar_fields G (Symbol s))).sound (pass (Symbol s) h)

  symbol_ok : (s : ℕ) → s < length G.symbols → SymbolOk G s
  unfolding grammar_fields
  symbol_ok s h = record { upper = (symbol_passed s h).upper; lower = go (symbol_passed s h).lower }
    where
      go : (1 ≤ rank_of G s) ⊎ (s ≡ start_symbol t) → (s ≡ G.start) ⊎ (1 ≤ rank_of G s)
      go (inl l) = inr l
      go (inr e) = inl (e ∙ start_symbol_is G t held)

  start_known : G.start < length G.symbols
  unfolding grammar_fields
  start_known = grammar_passed.start

  start_ok : kind_of G G.start ≡ nonterminal
  unfolding grammar_fields
  start_ok = number_nonterminal (kind_of G G.start) (go (symbol_passed G.start start_known).start_kind)
    where
      go : (kind_number (kind_of G G.start) ≡ 1) ⊎ (G.start ≡ start_symbol t → ⊥) → kind_number (kind_of G G.start) ≡ 1
      go (inl e) = e
      go (inr n) = absurd (n (sym (start_symbol_is G t held)))

  module _ (r : ℕ) (h : r < length G.rules) where
    rule_passed : PassedRule t r (grammar_fields G (Rule r))
    unfolding judge
    rule_passed = (passes_rule t r (grammar_fields G (Rule r))).sound (pass (Rule r) h)

    lhs_known : lhs_of G r < length G.symbols
    unfolding grammar_fields
    lhs_known = omega (arith, rule_passed.symbol, symbol_count_is G t held)

    lhs_kind : kind_of G (lhs_of G r) ≡ nonterminal
    unfolding grammar_fields
    lhs_kind = number_nonterminal (kind_of G (lhs_of G r)) (sym (kind_field_lem G t held (lhs_of G r) lhs_known) ∙ rule_passed.kind)

    node_count : Between 1 (right_of G r).nodes 8
    unfolding grammar_fields
    node_count = rule_passed.nodes

    edge_count : Between 1 (length (right_of G r).edges) 8
    unfolding grammar_fields
    edge_count = rule_passed.edges

    plan_count : Between 2 (length (plan_of G r)) 16
    unfolding grammar_fields
    plan_count = rule_passed.plan

    externals_ok : Listed (right_of G r).nodes (rank_of G (lhs_of G r)) (right_of G r).externals
    unfolding grammar_fields
    externals_ok =
        in_order_listed (right_of G r).nodes (rank_of G (lhs_of G r)) (right_of G r).externals
        (omega (arith, rule_passed.count, rank_at_lem G t held (lhs_of G r) lhs_known))
        rule_passed.externals

    module _ (i : ℕ) (l : i < length (right_of G r).edges) where
      edge_passed : PassedEdge t r i (grammar_fields G (RuleEdge r i))
      unfolding judge
      edge_passed = (passes_edge t r i (grammar_fields G (RuleEdge r i))).sound (pass (RuleEdge r i) (h, l))

      edge_ok : EdgeOk G (right_of G r).nodes (edge_at (right_of G r).edges i)
      unfolding grammar_fields
      edge_ok =
          let e = edge_at (right_of G r).edges i in
          let known : e.label < length G.symbols = omega (arith, edge_passed.symbol, symbol_count_is G t held) in
          let rank = rank_at_lem G t held e.label known in
          record {
            known = known;
            positive = omega (arith, edge_passed.rank);
            listed = in_order_listed (right_of G r).nodes (rank_of G e.label) e.attachment
                (omega (arith, edge_passed.count))
                (subst (λ (n : ℕ). InOrder n e.attachment) (rule_nodes_lem G t held r h) edge_passed.attached);
          }

    edge_ranked : (i : ℕ) → i < length (right_of G r).edges → Ranked G (right_of G r).edges i
    edge_ranked i l = ((edge_ok i l).known, (edge_ok i l).listed.ranked)

    edge_covering : (i : ℕ) → i < length (right_of G r).edges → Covering (right_of G r).edges (right_of G r).nodes i
    unfolding grammar_fields
    edge_covering i l = go (edge_passed i l).covers
      where
        go : (i + 1 < rule_edges t r) ⊎ Covers (rule_nodes t r) (nodes_on_edges t r i ++ (edge_at (right_of G r).edges i).attachment) → Covering (right_of G r).edges (right_of G r).nodes i
        go (inl k) = inl (omega (arith, rule_edges_lem G t held r h))
        go (inr c) =
            let nodes = nodes_on_edges_lem G t held r h i (omega arith) (λ k b. edge_ranked k (omega arith)) in
            inr (λ x b. rw (← nodes) (c.all x (omega (arith, rule_nodes_lem G t held r h, node_count.upper))))

    side_ok : SideOk G (right_of G r) (rank_of G (lhs_of G r)) 8 8
    side_ok = record {
      node_count = node_count;
      edge_count = edge_count;
      externals = externals_ok;
      edge = edge_ok;
      covered = covering_side (right_of G r).edges (right_of G r).nodes edge_count.lower edge_covering;
    }

    module _ (q : ℕ) (l : q < length (plan_of G r)) where
      plan_passed : PassedPlan t r q (plan_fields (plan_node (plan_of G r) q))
      unfolding judge grammar_fields
      plan_passed = (passes_plan t r q (plan_fields (plan_node (plan_of G r) q))).sound (pass (PlanLine r q) (h, l))

      node_ok : NodeOk (length (right_of G r).edges) (plan_of G r) q
      node_ok =
          let x = plan_node (plan_of G r) q in
          let s = plan_passed.so_far in
          record {
            lower = λ c o. s.lower c (omega (arith, ap (occurs c) (children_of_lem x)));
            once = λ c o. omega (arith, s.once c (omega (arith, ap (occurs c) (children_of_lem x))), children_so_far G t held r h q l c);
            known = λ i o.
                let k = s.known i (omega (arith, ap (occurs i) (introduced_by_lem x))) in
                (omega (arith, k.0, rule_edges_lem G t held r h), omega (arith, k.1, ap (occurs i) (introduced_before_lem G t held r h q (omega arith))));
            whole = go plan_passed.whole;
          }
        where
          go : (q + 1 < rule_plan t r) ⊎ Whole t r q (field (plan_fields (plan_node (plan_of G r) q)) 0) (field (plan_fields (plan_node (plan_of G r) q)) 1) (field (plan_fields (plan_node (plan_of G r) q)) 2)
              → (q + 1 < length (plan_of G r)) ⊎ Complete (length (right_of G r).edges) (plan_of G r) q
          go (inl b) = inl (omega (arith, rule_plan_lem G t held r h))
          go (inr w) =
              inr (record {
                children_all = λ c b. omega (arith, w.children c b, children_so_far G t held r h q l c);
                edges_all = λ i b. omega (arith, w.edges i (omega (arith, rule_edges_lem G t held r h, edge_count.upper)), introduced_so_far G t held r h q l i);
              })

    rule_ok : RuleOk G (rule_of G r)
    rule_ok = record {
      lhs_known = lhs_known;
      lhs_kind = lhs_kind;
      right = side_ok;
      plan = plan_ok (length (right_of G r).edges) (plan_of G r) node_ok plan_count;
    }

  pub passed_ok : GrammarOk G
  unfolding grammar_fields
  passed_ok = record {
    symbol_count_is = grammar_passed.symbols;
    rule_count_is = grammar_passed.rules;
    start_known = start_known;
    start_kind = start_ok;
    symbol = symbol_ok;
    rule = rule_ok;
  }

-- ---- and the lines of a well-formed grammar
module _ (G : Grammars.Grammar) (t : List ℕ) (held : GrammarIn G t) (ok : GrammarOk G) where
  symbol_pass : (s : ℕ) → s < length G.symbols → PassedSymbol t s (grammar_fields G (Symbol s))
  unfolding grammar_fields
  symbol_pass s h = record {
    number = refl;
    kind = number_le (kind_of G s);
    upper = (ok.symbol s h).upper;
    lower = low (ok.symbol s h).lower;
    start_kind = kind (kind_of G s) refl;
    count = refl;
  }
    where
      low : (s ≡ G.start) ⊎ (1 ≤ rank_of G s) → (1 ≤ rank_of G s) ⊎ (s ≡ start_symbol t)
      low (inl e) = inr (e ∙ sym (start_symbol_is G t held))
      low (inr l) = inl l

      kind : (k : Kind) → kind_of G s ≡ k → (kind_number k ≡ 1) ⊎ (s ≡ start_symbol t → ⊥)
      kind nonterminal e = inl refl
      kind terminal e =
          inr (λ p.
          let same = ap (kind_of G) (p ∙ start_symbol_is G t held) in
          let start = ok.start_kind in
          let z : ◌≡◌ {A = ℕ} 0 1 = cc in
          omega arith)

  module _ (r : ℕ) (h : r < length G.rules) where
    rule_pass : PassedRule t r (grammar_fields G (Rule r))
    unfolding grammar_fields
    rule_pass =
        let R = ok.rule r h in
        record {
          number = refl;
          symbol = omega (arith, R.lhs_known, symbol_count_is G t held);
          kind = kind_field_lem G t held (lhs_of G r) R.lhs_known ∙ nonterminal_number (kind_of G (lhs_of G r)) R.lhs_kind;
          nodes = R.right.node_count;
          edges = R.right.edge_count;
          plan = R.plan.size;
          count = omega (arith, R.right.externals.ranked, rank_at_lem G t held (lhs_of G r) R.lhs_known);
          externals = listed_in_order (right_of G r).nodes (rank_of G (lhs_of G r)) (right_of G r).externals (omega (arith, R.right.node_count.upper)) R.right.externals;
        }

    ranked : (i : ℕ) → i < length (right_of G r).edges → Ranked G (right_of G r).edges i
    ranked i l = (((ok.rule r h).right.edge i l).known, ((ok.rule r h).right.edge i l).listed.ranked)

    edge_pass : (i : ℕ) → i < length (right_of G r).edges → PassedEdge t r i (grammar_fields G (RuleEdge r i))
    unfolding grammar_fields
    edge_pass i l =
        let S = (ok.rule r h).right in
        let E = S.edge i l in
        let e = edge_at (right_of G r).edges i in
        let rank = rank_at_lem G t held e.label E.known in
        record {
          symbol = omega (arith, E.known, symbol_count_is G t held);
          rank = omega (arith, E.positive);
          count = omega (arith, E.listed.ranked);
          attached = subst (λ (n : ℕ). InOrder n e.attachment) (sym (rule_nodes_lem G t held r h))
              (listed_in_order (right_of G r).nodes (rank_of G e.label) e.attachment (omega (arith, S.node_count.upper)) E.listed);
          covers = go (side_covering (right_of G r).edges (right_of G r).nodes S.covered i l);
        }
      where
        go : Covering (right_of G r).edges (right_of G r).nodes i → (i + 1 < rule_edges t r) ⊎ Covers (rule_nodes t r) (nodes_on_edges t r i ++ (edge_at (right_of G r).edges i).attachment)
        go (inl k) = inl (omega (arith, rule_edges_lem G t held r h))
        go (inr k) =
            let nodes = nodes_on_edges_lem G t held r h i (omega arith) (λ j b. ranked j (omega arith)) in
            inr (record {
              few = omega (arith, rule_nodes_lem G t held r h, (ok.rule r h).right.node_count.upper);
              all = λ x b. rw nodes (k x (omega (arith, rule_nodes_lem G t held r h)));
            })

    plan_pass : (q : ℕ) → q < length (plan_of G r) → PassedPlan t r q (plan_fields (plan_node (plan_of G r) q))
    plan_pass q l =
        let x = plan_node (plan_of G r) q in
        let n = ok_node (length (right_of G r).edges) (plan_of G r) (ok.rule r h).plan q l in
        record {
          kind = plan_kind_lem x;
          count = plan_three x;
          so_far = record {
            leaf = plan_leaf x;
            lower = λ c o. n.lower c (omega (arith, ap (occurs c) (children_of_lem x)));
            once = λ c o. omega (arith, n.once c (omega (arith, ap (occurs c) (children_of_lem x))), children_so_far G t held r h q l c);
            known = λ i o.
                let k = n.known i (omega (arith, ap (occurs i) (introduced_by_lem x))) in
                (omega (arith, k.0, rule_edges_lem G t held r h), omega (arith, k.1, ap (occurs i) (introduced_before_lem G t held r h q (omega arith))));
          };
          whole = go n.whole;
        }
      where
        go : (q + 1 < length (plan_of G r)) ⊎ Complete (length (right_of G r).edges) (plan_of G r) q
            → (q + 1 < rule_plan t r) ⊎ Whole t r q (field (plan_fields (plan_node (plan_of G r) q)) 0) (field (plan_fields (plan_node (plan_of G r) q)) 1) (field (plan_fields (plan_node (plan_of G r) q)) 2)
        go (inl b) = inl (omega (arith, rule_plan_lem G t held r h))
        go (inr w) =
            inr (record {
              children = λ c b. omega (arith, w.children_all c b, children_so_far G t held r h q l c);
              edges = λ i b. omega (arith, w.edges_all i (omega (arith, rule_edges_lem G t held r h)), introduced_so_far G t held r h q l i);
            })

  pub ok_passes : AllPass G t
  unfolding judge grammar_fields
  ok_passes Grammar h =
      (passes_grammar (grammar_fields G Grammar)).complete
      (record { symbols = ok.symbol_count_is; rules = ok.rule_count_is; start = ok.start_known; count = refl })
  ok_passes (Symbol s) h = (passes_symbol t s (grammar_fields G (Symbol s))).complete (symbol_pass s h)
  ok_passes (Rule r) h = (passes_rule t r (grammar_fields G (Rule r))).complete (rule_pass r h)
  ok_passes (RuleEdge r i) h = (passes_edge t r i (grammar_fields G (RuleEdge r i))).complete (edge_pass r h.0 i h.1)
  ok_passes (PlanLine r q) h = (passes_plan t r q (plan_fields (plan_node (plan_of G r) q))).complete (plan_pass r h.0 q h.1)
  ok_passes Graph h = absurd h
  ok_passes (GraphEdge e) h = absurd h
  ok_passes Nothing h = absurd h
