-- Derivation trees (01, 'A derivation tree is finite ..'), over productions alone: no items and no plans.
use Rattle.std.specs.Prelude.{◌≡◌, List, [], ◌∷◌, ◌++◌, map, ℕ, ◌+◌, ◌≤◌, ◌<◌, length, get_or, eqb}
use Rattle.hrg.specs.Counts.{occurs, tabulate, up_to, select}
use Rattle.hrg.specs.Grammars.{terminal, nonterminal, Edge, Graph, Grammar, cost, kind_of, rule_of, lhs_of, right_of, edge_at}

-- A placement gives each rule node its graph node. 64 stands for 'no node': graph nodes are below it.
abbrev pub unplaced : ℕ
unplaced = 64

abbrev pub at : List ℕ → ℕ → ℕ
at place x = get_or place x unplaced

-- eight places, 64 where there is no node
unfoldable pub padded : List ℕ → List ℕ
unfolding tabulate
padded l = tabulate 8 (λ k. at l k)

-- the graph nodes of some rule nodes, in order
abbrev pub images : List ℕ → List ℕ → List ℕ
images place xs = map (λ (x : ℕ). at place x) xs

-- An application of a rule, with a placement and a part for each edge of the right side, in edge order:
-- for a terminal edge a graph edge, for a nonterminal edge a tree.
mutual
  pub data Tree : Type 0 where
    apply : (rule : ℕ) (place : List ℕ) (parts : Parts) → Tree

  pub data Parts : Type 0 where
    end : Parts
    edge : (g : ℕ) (rest : Parts) → Parts
    tree : (t : Tree) (rest : Parts) → Parts

-- the graph edges that a tree uses
unfoldable mutual
  pub edges_of : Tree → List ℕ
  edges_of (apply r place ps) = edges_in ps

  pub edges_in : Parts → List ℕ
  edges_in end = []
  edges_in (edge g ps) = g ∷ edges_in ps
  edges_in (tree t ps) = edges_of t ++ edges_in ps

-- the nodes of a right side that are not external
unfoldable pub internals : Graph → List ℕ
internals P = select (λ x. eqb (occurs x P.externals) 0) (up_to P.nodes)

-- the inner nodes of a tree: where its applications place the nodes that are not external
unfoldable mutual
  pub inner_of : Grammar → Tree → List ℕ
  inner_of G (apply r place ps) = images place (internals (right_of G r)) ++ inner_in G ps

  pub inner_in : Grammar → Parts → List ℕ
  inner_in G end = []
  inner_in G (edge g ps) = inner_in G ps
  inner_in G (tree t ps) = inner_of G t ++ inner_in G ps

-- the number of applications: each rule counts as often as it stands there
unfoldable mutual
  pub applications : Grammar → Tree → ℕ
  applications G (apply r place ps) = applications_in G ps + cost (rule_of G r)

  pub applications_in : Grammar → Parts → ℕ
  applications_in G end = 0
  applications_in G (edge g ps) = applications_in G ps
  applications_in G (tree t ps) = applications G t + applications_in G ps

-- Graph edge g stands for an edge with terminal label s on the nodes L.
pub record FitsEdge (G : Grammar) (H : Graph) (s : ℕ) (L : List ℕ) (g : ℕ) : Type 0 where
  pub kind : kind_of G s ≡ terminal
  pub known : g < length H.edges
  pub label : (edge_at H.edges g).label ≡ s
  pub attachment : (edge_at H.edges g).attachment ≡ L

-- Rule r with a placement stands for an edge with nonterminal label s on the nodes L.
pub record FitsRule (G : Grammar) (H : Graph) (s : ℕ) (L : List ℕ) (r : ℕ) (place : List ℕ) : Type 0 where
  pub kind : kind_of G s ≡ nonterminal
  pub known : r < length G.rules
  pub lhs : lhs_of G r ≡ s
  pub sized : length place ≡ (right_of G r).nodes
  pub placed : (x : ℕ) → x < (right_of G r).nodes → at place x < H.nodes
  pub externals : images place (right_of G r).externals ≡ L

-- A tree stands for an edge s on the nodes L; parts stand for the edges of a list, each on its nodes' graph nodes in
-- order.
abbrev mutual
  pub Fits : Grammar → Graph → ℕ → List ℕ → Tree → Type 0
  Fits G H s L (apply r place ps) = FitsRule G H s L r place × FitsParts G H place ps (right_of G r).edges

  pub FitsParts : Grammar → Graph → List ℕ → Parts → List Edge → Type 0
  FitsParts G H place end [] = Unit {0}
  FitsParts G H place end (e ∷ es) = ⊥
  FitsParts G H place (edge g ps) [] = ⊥
  FitsParts G H place (edge g ps) (e ∷ es) = FitsEdge G H e.label (images place e.attachment) g × FitsParts G H place ps es
  FitsParts G H place (tree t ps) [] = ⊥
  FitsParts G H place (tree t ps) (e ∷ es) = Fits G H e.label (images place e.attachment) t × FitsParts G H place ps es

-- In the whole tree no graph edge comes twice, no node is inner twice, inner and on the top list, or twice on the top
-- list.
pub record Apart (G : Grammar) (L : List ℕ) (t : Tree) : Type 0 where
  pub edges : (e : ℕ) → occurs e (edges_of t) ≤ 1
  pub nodes : (v : ℕ) → occurs v (inner_of G t) + occurs v L ≤ 1

-- The tree generates the graph: its nonterminal is the start, its list the external nodes in order, its edges and
-- nodes all of the graph's.
pub record Generates (G : Grammar) (H : Graph) (t : Tree) : Type 0 where
  pub fits : Fits G H G.start H.externals t
  pub apart : Apart G H.externals t
  pub edges : (e : ℕ) → e < length H.edges → 0 < occurs e (edges_of t)
  pub nodes : (v : ℕ) → v < H.nodes → 0 < occurs v (inner_of G t) + occurs v H.externals
