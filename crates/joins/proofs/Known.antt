-- What an accepted table's fields say of the grammar and the graph that it stands for.
use mathlib.Core.Path.{◌≡◌, refl, ap, ◌∙◌}
use mathlib.Core.Bool.{true}
use mathlib.Core.List.{List, []}
use Prim.Native.Nat.{ℕ, suc, ◌≤◌, ◌<◌}
use native.Mathlib.Omega.{arith}
use lib.ListN.{length, replicate}
use Rattle.hrg.specs.Grammars.{Rule, rule_of, plan_of, plan_node}
use Rattle.hrg.specs.WellFormed.{PlanOk, RuleOk, GraphOk}
use Rattle.questions.specs.Layout.{symbol_place, rule_place, edge_place, plan_place, graph_edge_place, grammar_words, graph_words, rule_count, rule_nodes, rule_edges, rule_plan, plan_kind, plan_first, plan_second, graph_nodes, graph_edges}
use Rattle.questions.specs.declared.Due.TheVariants.{Grammar, Graph}
use Rattle.questions.specs.Checking.{check_lines, check_grammar, check_graph}
use Rattle.questions.specs.Abstract.{plan_from, rule_from, grammar_of, graph_of}
use Rattle.questions.proofs.Filled.{filled_by_lem}
use Rattle.questions.proofs.WellFormedLent.{checked_grammar_ok, checked_graph_ok}
use Rattle.questions.proofs.WellFormedLists.{length_build}
use Rattle.questions.proofs.WellFormedAccepted.{rules_length, rule_is, edges_length, plan_length, plan_is}
use Rattle.joins.specs.Joins.{Accepted, KnownNode, KnownEdge}

-- ---- a table that is accepted has all its words
pub grammar_long : (g : List ℕ) → check_grammar g ≡ true → grammar_words ≤ length g
unfolding check_grammar
grammar_long g checked = (filled_by_lem grammar_words g (check_lines (suc grammar_words) [] g (replicate grammar_words 0) Grammar) checked).2

pub graph_long : (g h : List ℕ) → Accepted g h → graph_words ≤ length h
unfolding check_graph
graph_long g h accepted = (filled_by_lem graph_words h (check_lines (suc graph_words) g h (replicate graph_words 0) Graph) accepted.graph).2

-- ---- a rule of an accepted grammar table
module _ (g : List ℕ) (r : ℕ) (checked : check_grammar g ≡ true) (known : r < rule_count g) where
  pub rule_ok : RuleOk (grammar_of g) (rule_of (grammar_of g) r)
  rule_ok = (checked_grammar_ok g checked).rule r (omega (arith, rules_length g))

  pub rule_few : r < 64
  rule_few = omega (arith, (checked_grammar_ok g checked).rule_count_is.upper, rules_length g)

  pub right_nodes : (rule_of (grammar_of g) r).production.right.nodes ≡ rule_nodes g r
  unfolding rule_from
  right_nodes = ap (λ (R : Rule). R.production.right.nodes) (rule_is g r known)

  pub right_edges : length (rule_of (grammar_of g) r).production.right.edges ≡ rule_edges g r
  right_edges = ap (λ (R : Rule). length R.production.right.edges) (rule_is g r known) ∙ edges_length g r

  pub plan_size : length (plan_of (grammar_of g) r) ≡ rule_plan g r
  plan_size = ap (λ (R : Rule). length R.plan) (rule_is g r known) ∙ plan_length g r

  pub plan_ok : PlanOk (rule_edges g r) (plan_of (grammar_of g) r)
  plan_ok = rw right_edges at rule_ok.plan

  pub nodes_few : rule_nodes g r ≤ 8
  nodes_few = omega (arith, rule_ok.right.node_count.upper, right_nodes)

  pub edges_few : rule_edges g r ≤ 8
  edges_few = omega (arith, rule_ok.right.edge_count.upper, right_edges)

  pub plan_few : rule_plan g r ≤ 16
  plan_few = omega (arith, plan_ok.size.upper, plan_size)

  pub plan_node_is : (q : ℕ) → q < rule_plan g r → plan_node (plan_of (grammar_of g) r) q ≡ plan_from (plan_kind g r q) (plan_first g r q) (plan_second g r q)
  plan_node_is q h = ap (λ (R : Rule). plan_node R.plan q) (rule_is g r known) ∙ plan_is g r q h

-- ---- a graph table accepted with it
pub graph_size : (g h : List ℕ) → length (graph_of g h).edges ≡ graph_edges h
unfolding graph_of
graph_size g h = length_build (graph_edges h) _

pub graph_nodes_lem : (g h : List ℕ) → (graph_of g h).nodes ≡ graph_nodes h
unfolding graph_of
graph_nodes_lem g h = refl

module _ (g h : List ℕ) (accepted : Accepted g h) where
  pub graph_ok : GraphOk (grammar_of g) (graph_of g h)
  graph_ok = checked_graph_ok g h accepted.grammar accepted.graph

  pub graph_edges_few : graph_edges h ≤ 64
  graph_edges_few = omega (arith, graph_ok.side.edge_count.upper, graph_size g h)

  pub graph_nodes_few : graph_nodes h ≤ 64
  graph_nodes_few = omega (arith, graph_ok.side.node_count.upper, graph_nodes_lem g h)

-- ---- lines that accepted tables have, so that they are read with no test of the table's end
pub symbol_there : (g : List ℕ) (s : ℕ) → check_grammar g ≡ true → s < 64 → symbol_place s < length g
symbol_there g s checked few = omega (arith, grammar_long g checked)

pub rule_there : (g : List ℕ) (r : ℕ) → check_grammar g ≡ true → r < rule_count g → rule_place r < length g
rule_there g r checked known = omega (arith, grammar_long g checked, rule_few g r checked known)

pub edge_there : (g : List ℕ) (r i : ℕ) → KnownEdge g r i → edge_place r i < length g
edge_there g r i known =
    omega (arith, grammar_long g known.grammar, rule_few g r known.grammar known.rule, edges_few g r known.grammar known.rule, known.edge)

pub node_there : (g : List ℕ) (r q : ℕ) → KnownNode g r q → plan_place r q < length g
node_there g r q known =
    omega (arith, grammar_long g known.grammar, rule_few g r known.grammar known.rule, plan_few g r known.grammar known.rule, known.node)

pub graph_edge_there : (g h : List ℕ) (e : ℕ) → Accepted g h → e < graph_edges h → graph_edge_place e < length h
graph_edge_there g h e accepted known = omega (arith, graph_long g h accepted, graph_edges_few g h accepted)
