-- The caps of the definitions (ranks 4, nodes 64, edges 8, plan nodes 16, symbols and rules 64) never act where a
-- table is accepted: its counts are within them. They only bound the work on tables that no reader filled.
use mathlib.Core.Path.{◌≡◌}
use mathlib.Core.Bool.{true}
use mathlib.Core.List.{List}
use Prim.Native.Nat.{ℕ, ◌<◌, min}
use native.Mathlib.Omega.{arith}
use Rattle.questions.specs.Layout.{symbol_place, place_of, line_field, symbol_count, rule_count, rank_at, rule_nodes, rule_edges, rule_plan, graph_nodes, graph_edges}
use Rattle.questions.specs.Questions.{judge}
use Rattle.questions.specs.Reading.{accepted, grammar_verdict, graph_verdict}
use Rattle.questions.specs.Checking.{check_grammar, check_graph}
use Rattle.questions.proofs.WellFormedQuestions.{passes_grammar, passes_symbol, passes_rule, passes_graph}
use Rattle.questions.proofs.WellFormedReading.{GrammarStands, accepted_grammar_stands, GraphStands, accepted_graph_stands}
use Rattle.questions.proofs.WellFormedLent.{checked_grammar_stands, checked_graph_stands}

pub record GrammarUncapped (t : List ℕ) : Type 0 where
  pub symbols : min 64 (symbol_count t) ≡ symbol_count t
  pub rules : min 64 (rule_count t) ≡ rule_count t
  pub rank : (s : ℕ) → s < symbol_count t → rank_at t s ≡ line_field t (symbol_place s) 2
  pub nodes : (r : ℕ) → r < rule_count t → min 64 (rule_nodes t r) ≡ rule_nodes t r
  pub edges : (r : ℕ) → r < rule_count t → min 8 (rule_edges t r) ≡ rule_edges t r
  pub plan : (r : ℕ) → r < rule_count t → min 16 (rule_plan t r) ≡ rule_plan t r

pub record GraphUncapped (t : List ℕ) : Type 0 where
  pub nodes : min 64 (graph_nodes t) ≡ graph_nodes t
  pub edges : min 64 (graph_edges t) ≡ graph_edges t

-- ---- by the questions that each line has passed
module _ (t : List ℕ) (all : GrammarStands t) where
  few_symbols : min 64 (symbol_count t) ≡ symbol_count t
  unfolding judge place_of
  few_symbols =
      let (fs, s) = all.grammar in
      omega (arith, s.there 0 (omega arith), ((passes_grammar fs).sound s.passed).symbols.upper)

  few_rules : min 64 (rule_count t) ≡ rule_count t
  unfolding judge place_of
  few_rules =
      let (fs, s) = all.grammar in
      omega (arith, s.there 1 (omega arith), ((passes_grammar fs).sound s.passed).rules.upper)

  small_rank : (i : ℕ) → i < symbol_count t → rank_at t i ≡ line_field t (symbol_place i) 2
  unfolding judge place_of
  small_rank i l =
      let (fs, s) = all.symbol i l in
      omega (arith, s.there 2 (omega arith), ((passes_symbol t i fs).sound s.passed).upper)

  few_nodes : (r : ℕ) → r < rule_count t → min 64 (rule_nodes t r) ≡ rule_nodes t r
  unfolding judge place_of
  few_nodes r l =
      let (fs, s) = (all.rule r l).rule in
      omega (arith, s.there 2 (omega arith), ((passes_rule t r fs).sound s.passed).nodes.upper)

  few_edges : (r : ℕ) → r < rule_count t → min 8 (rule_edges t r) ≡ rule_edges t r
  unfolding judge place_of
  few_edges r l =
      let (fs, s) = (all.rule r l).rule in
      omega (arith, s.there 3 (omega arith), ((passes_rule t r fs).sound s.passed).edges.upper)

  few_plan : (r : ℕ) → r < rule_count t → min 16 (rule_plan t r) ≡ rule_plan t r
  unfolding judge place_of
  few_plan r l =
      let (fs, s) = (all.rule r l).rule in
      omega (arith, s.there 4 (omega arith), ((passes_rule t r fs).sound s.passed).plan.upper)

  grammar_uncapped : GrammarUncapped t
  grammar_uncapped = record { symbols = few_symbols; rules = few_rules; rank = small_rank; nodes = few_nodes; edges = few_edges; plan = few_plan }

graph_uncapped : (g t : List ℕ) → GraphStands g t → GraphUncapped t
unfolding judge place_of
graph_uncapped g t all =
    let (fs, s) = all.graph in
    let p = (passes_graph g fs).sound s.passed in
    record { nodes = omega (arith, s.there 0 (omega arith), p.nodes.upper); edges = omega (arith, s.there 1 (omega arith), p.edges.upper) }

-- ---- of an accepted text, and of a table that passes question 8
pub accepted_grammar_uncapped : (text t : List ℕ) → grammar_verdict text ≡ accepted t → GrammarUncapped t
accepted_grammar_uncapped text t h = grammar_uncapped t (accepted_grammar_stands text t h)

pub accepted_graph_uncapped : (g text t : List ℕ) → graph_verdict g text ≡ accepted t → GraphUncapped t
accepted_graph_uncapped g text t h = graph_uncapped g t (accepted_graph_stands g text t h)

pub checked_grammar_uncapped : (t : List ℕ) → check_grammar t ≡ true → GrammarUncapped t
checked_grammar_uncapped t h = grammar_uncapped t (checked_grammar_stands t h)

pub checked_graph_uncapped : (g t : List ℕ) → check_graph g t ≡ true → GraphUncapped t
checked_graph_uncapped g t h = graph_uncapped g t (checked_graph_stands g t h)
