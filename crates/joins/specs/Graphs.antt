-- What is looked up of a graph: the nodes on each set of four edges, the external nodes, and the edges by label and
-- by place.
use Rattle.std.specs.Prelude.{◌≡◌, Bool, true, ◌&&◌, ◌||◌, not, List, ℕ, ◌+◌, ◌*◌, ◌/◌, ◌%◌, ◌≤◌, ◌<◌, length, get_or, eqb, ltb}
use Rattle.masks.specs.Masks.{member}
use Rattle.hrg.specs.Counts.{occurs}
use Rattle.hrg.specs.Grammars.{edge_at, touches}
use Rattle.questions.specs.Layout.{rank_at, graph_edges, graph_label, graph_node}
use Rattle.questions.specs.Abstract.{graph_of}
use Rattle.joins.specs.declared.Sides.{Sides}
use Rattle.joins.specs.Joins.{NodesIn, some_both}

-- words of the table: 256 of the groups of four edges, the external nodes, and from 257 on the edges by label and by
-- place
abbrev pub graph_table_words : ℕ
graph_table_words = 577

-- the nodes of graph edge e; none past the last edge
abbrev pub nodes_of : List ℕ → List ℕ → ℕ → List ℕ
nodes_of g h e = (edge_at (graph_of g h).edges e).attachment

-- whether node x is on graph edge e
abbrev pub on_edge : List ℕ → List ℕ → ℕ → ℕ → Bool
on_edge g h x e = ltb 0 (occurs x (nodes_of g h e))

-- whether word i is one of graph edge e's: that of its label, or of the node at one of its first n places
unfoldable pub marks_to : List ℕ → ℕ → ℕ → ℕ → Bool
unfolding some_both
marks_to h e n i = eqb i (257 + graph_label h e) || some_both (λ k. true) (λ k. eqb i (321 + 64 * k + graph_node h e k)) n

abbrev pub marks : List ℕ → List ℕ → ℕ → ℕ → Bool
marks g h e i = marks_to h e (rank_at g (graph_label h e)) i

-- the words of a table from 257 on have the edges before n that they are words of
pub record Indexed (g h t : List ℕ) (n : ℕ) : Type 0 where
  pub size : length t ≡ graph_table_words
  pub each : (i e : ℕ) → i < graph_table_words → e < 64 → member (get_or t i 0) e ≡ (ltb e n && marks g h e i)

-- sets has the nodes of each edge
pub record EdgeSets (g h sets : List ℕ) : Type 0 where
  pub each : (e : ℕ) → e < 64 → NodesIn (get_or sets e 0) (nodes_of g h e)

-- m is the nodes on those of four edges, from 4 * (i / 16) on, that are in the set i % 16
pub record Group (sets : List ℕ) (i m : ℕ) : Type 0 where
  pub members : (x : ℕ) → member m x ≡ some_both (λ k. member (i % 16) k) (λ k. member (get_or sets (4 * (i / 16) + k) 0) x) 4

-- the words of the groups that have an edge; from word 256 on nothing is changed
pub record Grouped (h sets t u : List ℕ) : Type 0 where
  pub size : length u ≡ graph_table_words
  pub each : (i : ℕ) → 4 * (i / 16) < graph_edges h → Group sets i (get_or u i 0)
  pub after : (i : ℕ) → 256 ≤ i → get_or u i 0 ≡ get_or t i 0

-- t is the table of the graph
pub record GraphTable (g h t : List ℕ) : Type 0 where
  pub touched : (b v x : ℕ) → 4 * b < graph_edges h → v < 16 → x < 64 → member (get_or t (16 * b + v) 0) x ≡ some_both (λ k. member v k) (λ k. on_edge g h x (4 * b + k)) 4
  pub externals : NodesIn (get_or t 256 0) (graph_of g h).externals
  pub marked : (i e : ℕ) → 257 ≤ i → i < graph_table_words → e < 64 → member (get_or t i 0) e ≡ (ltb e (graph_edges h) && marks g h e i)

-- the nodes on the edges of the set m, and on the others
pub record Touched (g h : List ℕ) (m : ℕ) (s : Sides) : Type 0 where
  pub inside : (x : ℕ) → x < 64 → member s.inside x ≡ touches (λ e. member m e) (graph_of g h).edges x
  pub outside : (x : ℕ) → x < 64 → member s.outside x ≡ touches (λ e. not (member m e)) (graph_of g h).edges x
