-- The grammar and the graph of crate `hrg` that tables stand for.
use Rattle.std.specs.Prelude.{cond, List, [], ◌∷◌, ℕ, zero, suc, eqb}
use Rattle.hrg.specs.Counts.{tabulate}
use Rattle.hrg.specs.Grammars.{Kind, terminal, nonterminal, Graph, PlanNode, leaf, introduce, join, Rule, Grammar}
use Rattle.questions.specs.Layout.{symbol_count, rule_count, start_symbol, kind_field, rank_at, rule_symbol, rule_nodes, rule_edges, rule_plan, rule_external, edge_label, edge_node, plan_kind, plan_first, plan_second, graph_nodes, graph_edges, graph_external, graph_label, graph_node}

-- the list f 0, f 1, .. of n values
unfoldable pub build : {A : Type 0} → ℕ → (ℕ → A) → List A
build zero f = []
build (suc n) f = f 0 ∷ build n (λ i. f (suc i))

abbrev pub kind_from : ℕ → Kind
kind_from w = cond (eqb w 0) terminal nonterminal

abbrev pub plan_from : ℕ → ℕ → ℕ → PlanNode
plan_from kind first second = cond (eqb kind 0) leaf (cond (eqb kind 1) (introduce first second) (join first second))

unfoldable pub rule_from : List ℕ → ℕ → Rule
unfolding build tabulate
rule_from g r = record {
  production = record {
    lhs = rule_symbol g r;
    right = record {
      nodes = rule_nodes g r;
      externals = tabulate (rank_at g (rule_symbol g r)) (λ k. rule_external g r k);
      edges = build (rule_edges g r) (λ i. record { label = edge_label g r i; attachment = tabulate (rank_at g (edge_label g r i)) (λ k. edge_node g r i k) });
    };
  };
  plan = build (rule_plan g r) (λ q. plan_from (plan_kind g r q) (plan_first g r q) (plan_second g r q));
}

unfoldable pub grammar_of : List ℕ → Grammar
unfolding build rule_from
grammar_of g = record {
  symbols = build (symbol_count g) (λ s. record { kind = kind_from (kind_field g s); rank = rank_at g s });
  start = start_symbol g;
  rules = build (rule_count g) (λ r. rule_from g r);
}

unfoldable pub graph_of : List ℕ → List ℕ → Graph
unfolding build tabulate
graph_of g h = record {
  nodes = graph_nodes h;
  externals = tabulate (rank_at g (start_symbol g)) (λ k. graph_external h k);
  edges = build (graph_edges h) (λ e. record { label = graph_label h e; attachment = tabulate (rank_at g (graph_label h e)) (λ k. graph_node h e k) });
}
