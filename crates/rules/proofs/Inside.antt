-- The lines of an accepted table stand inside it, so that they are read with no test of its end.
use mathlib.Core.Path.{◌≡◌}
use mathlib.Core.Bool.{true}
use mathlib.Core.List.{List}
use Prim.Native.Nat.{ℕ, ◌<◌}
use native.Mathlib.Omega.{arith}
use lib.ListN.{length}
use Rattle.questions.specs.Layout.{rule_place, edge_place, plan_place, graph_edge_place, rule_count, graph_edges}
use Rattle.questions.specs.Checking.{check_grammar}
use Rattle.joins.specs.Joins.{Accepted, KnownNode, KnownEdge}
use Rattle.joins.proofs.Known.{grammar_long, graph_long, rule_few, edges_few, plan_few}
use Rattle.joins.proofs.GraphLaws.{edge_few}

pub rule_inside : (g : List ℕ) (r : ℕ) → check_grammar g ≡ true → r < rule_count g → rule_place r < length g
rule_inside g r checked known = omega (arith, rule_few g r checked known, grammar_long g checked)

pub edge_inside : {g : List ℕ} {r i : ℕ} → KnownEdge g r i → edge_place r i < length g
edge_inside {g} {r} k = omega (arith, k.edge, edges_few g r k.grammar k.rule, rule_few g r k.grammar k.rule, grammar_long g k.grammar)

pub node_inside : {g : List ℕ} {r q : ℕ} → KnownNode g r q → plan_place r q < length g
node_inside {g} {r} k = omega (arith, k.node, plan_few g r k.grammar k.rule, rule_few g r k.grammar k.rule, grammar_long g k.grammar)

pub graph_edge_inside : (g h : List ℕ) (e : ℕ) → Accepted g h → e < graph_edges h → graph_edge_place e < length h
graph_edge_inside g h e accepted known = omega (arith, edge_few g h accepted e known, graph_long g h accepted)
