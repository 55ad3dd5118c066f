-- The questions of an edge's line, as one equation over what its fields and the table say.
use Prim.Native.Nat.{ℕ, ◌+◌}
use mathlib.Core.Path.{◌≡◌}
use mathlib.Core.List.{List, ◌++◌}
use mathlib.Core.Bool.{Bool, ◌&&◌, ◌||◌}
use lib.ListN.{length, get_or, drop}
use lib.Dec.{eqb, ltb, leb}
use Rattle.questions.specs.Layout.{symbol_count, kind_field, rank_at, rule_nodes, rule_edges, graph_nodes, graph_edges}
use Rattle.questions.specs.Questions.{ask, listed, covered, nodes_on_edges, nodes_on_graph, judge_rule_edge, judge_graph_edge}

-- x is the line's answer by its fixed fields, the count of its fields, its listed nodes, whether more edges follow, and
-- whether every node is on an edge
pub record EdgeAsked (fixed : Bool) (n base rank : ℕ) (nodes : Bool) (j edges : ℕ) (cover : Bool) (x : ℕ) : Type 0 where
  pub so : x ≡ ask 3 fixed (ask 4 (eqb n (base + rank)) (ask 5 nodes (ask 6 (ltb j edges || cover) 0)))

pub rule_edge_asked : (g fs : List ℕ) (r i label symbols rank : ℕ)
    → label ≡ get_or fs 0 0 → symbols ≡ symbol_count g → rank ≡ rank_at g label
    → EdgeAsked (leb 1 (length fs) && ltb label symbols && leb 1 rank) (length fs) 1 rank (listed (rule_nodes g r) (drop 1 fs)) (i + 1) (rule_edges g r)
    (covered (rule_nodes g r) (nodes_on_edges g r i ++ drop 1 fs)) (judge_rule_edge g r i fs)
unfolding judge_rule_edge
rule_edge_asked g fs r i label symbols rank e0 known ranks =
    record { so = simp (← e0, ← known, ← ranks) }

pub graph_edge_asked : (g h fs : List ℕ) (e label symbols kind : ℕ)
    → label ≡ get_or fs 0 0 → symbols ≡ symbol_count g → kind ≡ kind_field g label
    → EdgeAsked (leb 1 (length fs) && ltb label symbols && eqb kind 0) (length fs) 1 (rank_at g label) (listed (graph_nodes h) (drop 1 fs)) (e + 1) (graph_edges h)
    (covered (graph_nodes h) (nodes_on_graph g h e ++ drop 1 fs)) (judge_graph_edge g h e fs)
unfolding judge_graph_edge
graph_edge_asked g h fs e label symbols kind e0 known kinds =
    record { so = simp (← e0, ← known, ← kinds) }
