-- Edge replacement as published (000 definitions 1 to 4, 003 definitions 1 to 3), with 01's external nodes of the
-- whole graph.
use Rattle.std.specs.Prelude.{◌≡◌, ◌||◌, ℕ, ◌+◌, ◌≤◌, ◌<◌, length, ltb}
use mathlib.Core.List.{List, [], ◌∷◌, ◌++◌, map, Memᴰ as In}
use Rattle.masks.specs.Masks.{bit, member}
use Rattle.hrg.specs.Counts.{occurs, up_to, select, Reordered}
use Rattle.hrg.specs.Grammars.{terminal, nonterminal, Edge, Graph, touches, Grammar, cost, kind_of, rank_of, rule_of, lhs_of, right_of, edge_at}
use Rattle.hrg.specs.Trees.{at, images, Tree, apply, Parts, end, edge, tree, edges_of, internals, inner_of, applications, Fits, Apart}

-- A graph in the course of a derivation: its nodes by any names, its external nodes in order, its edges. Edges are a
-- list: parallel ones are separate.
pub record Hypergraph : Type 0 where
  pub nodes : List ℕ
  pub externals : List ℕ
  pub edges : List Edge

-- What makes it a graph over the grammar's symbols (000 definitions 1 and 2, 003 definition 1): an edge has as many
-- nodes as its label's rank, and no node stands twice in the graph, among the external nodes or on an edge.
pub record ProperEdge (G : Grammar) (nodes : List ℕ) (e : Edge) : Type 0 where
  pub known : e.label < length G.symbols
  pub ranked : length e.attachment ≡ rank_of G e.label
  pub once : (v : ℕ) → occurs v e.attachment ≤ 1
  pub attached : (v : ℕ) → 0 < occurs v e.attachment → 0 < occurs v nodes

pub record Proper (G : Grammar) (K : Hypergraph) : Type 0 where
  pub once : (v : ℕ) → occurs v K.nodes ≤ 1
  pub external_once : (v : ℕ) → occurs v K.externals ≤ 1
  pub externals : (v : ℕ) → 0 < occurs v K.externals → 0 < occurs v K.nodes
  pub edge : (e : Edge) → In e K.edges → ProperEdge G K.nodes e

-- an edge on other nodes
abbrev pub renamed : (ℕ → ℕ) → Edge → Edge
renamed f e = record { label = e.label; attachment = map f e.attachment }

-- One step as it is recorded: a rule, and the name that each node of the copy of its right side takes.
pub record Application : Type 0 where
  pub rule : ℕ
  pub place : List ℕ

-- One replacement step (000 definition 4, 003 definition 2): an edge with a nonterminal label is removed, and a copy
-- of a right side of that nonterminal is added. Its external nodes are the edge's nodes in order, and its other nodes
-- are new, each with a name of its own.
pub record Replaces (G : Grammar) (K : Hypergraph) (a : Application) (K' : Hypergraph) : Type 0 where
  pub before : List Edge
  pub replaced : Edge
  pub after : List Edge
  pub there : K.edges ≡ before ++ (replaced ∷ after)
  pub kind : kind_of G replaced.label ≡ nonterminal
  pub known : a.rule < length G.rules
  pub lhs : lhs_of G a.rule ≡ replaced.label
  pub sized : length a.place ≡ (right_of G a.rule).nodes
  pub identified : images a.place (right_of G a.rule).externals ≡ replaced.attachment
  pub fresh : (v : ℕ) → 0 < occurs v (images a.place (internals (right_of G a.rule))) → occurs v K.nodes ≡ 0
  pub once : (v : ℕ) → occurs v (images a.place (internals (right_of G a.rule))) ≤ 1
  pub nodes : K'.nodes ≡ K.nodes ++ images a.place (internals (right_of G a.rule))
  pub externals : K'.externals ≡ K.externals
  pub edges : K'.edges ≡ before ++ (map (renamed (λ x. at a.place x)) (right_of G a.rule).edges ++ after)

-- Sequences of steps, with what each of them applied.
pub data Derives (G : Grammar) : Hypergraph → List Application → Hypergraph → Type 0 where
  none : {K : Hypergraph} → Derives G K [] K
  step : {K K' K'' : Hypergraph} {a : Application} {rest : List Application} → Replaces G K a K' → Derives G K' rest K'' → Derives G K (a ∷ rest) K''

-- their number: each application of a rule counts what the rule costs, which is 1
unfoldable pub steps_of : Grammar → List Application → ℕ
steps_of G [] = 0
steps_of G (a ∷ rest) = cost (rule_of G a.rule) + steps_of G rest

-- no edge has a nonterminal label (003: a terminal graph)
pub record Terminal (G : Grammar) (K : Hypergraph) : Type 0 where
  pub labels : (i : ℕ) → i < length K.edges → kind_of G (edge_at K.edges i).label ≡ terminal

-- An isomorphism that keeps the external nodes in order.
pub record Isomorphic (K K' : Hypergraph) : Type 0 where
  pub rename : ℕ → ℕ
  pub one_to_one_is : (v w : ℕ) → 0 < occurs v K.nodes → 0 < occurs w K.nodes → rename v ≡ rename w → v ≡ w
  pub nodes : Reordered (map rename K.nodes) K'.nodes
  pub externals : map rename K.externals ≡ K'.externals
  pub edges : Reordered (map (renamed rename) K.edges) K'.edges

-- A sequence of n steps leads from K to a terminal graph that is isomorphic to the target.
pub record Yields (G : Grammar) (K target : Hypergraph) (n : ℕ) : Type 0 where
  pub applied : List Application
  pub result : Hypergraph
  pub derives : Derives G K applied result
  pub terminal : Terminal G result
  pub isomorphic : Isomorphic result target
  pub count : steps_of G applied ≡ n

-- the start: one edge with label s on the nodes L, which are the external nodes
abbrev pub start_on : ℕ → List ℕ → Hypergraph
start_on s L = record { nodes = L; externals = L; edges = record { label = s; attachment = L } ∷ [] }

-- a host graph
unfoldable pub hypergraph_of : Graph → Hypergraph
hypergraph_of H = record { nodes = up_to H.nodes; externals = H.externals; edges = H.edges }

-- Membership: the graph is generated from one start edge on its external nodes, in n steps.
abbrev pub Member : Grammar → Graph → ℕ → Type 0
Member G H n = Yields G (start_on G.start H.externals) (hypergraph_of H) n

-- The subgraph of an edge set m with the listed nodes L as external nodes: the edges of the set, the nodes on them
-- and the listed ones.
unfoldable pub subgraph : Graph → List ℕ → ℕ → Hypergraph
subgraph H L m = record {
  nodes = select (λ v. ltb 0 (occurs v L) || touches (λ e. member m e) H.edges v) (up_to H.nodes);
  externals = L;
  edges = map (λ (e : ℕ). edge_at H.edges e) (select (λ e. member m e) (up_to (length H.edges)));
}

-- ---- the side of trees
-- A derivation tree of s on L over exactly the edge set m, with n applications.
pub record TreeOver (G : Grammar) (H : Graph) (s : ℕ) (L : List ℕ) (m n : ℕ) : Type 0 where
  pub tree : Tree
  pub fits : Fits G H s L tree
  pub apart : Apart G L tree
  pub edges : (e : ℕ) → occurs e (edges_of tree) ≡ bit m e
  pub count : applications G tree ≡ n

-- The applications of a tree in the derivation file's order: an application, then its parts in edge order, each with
-- everything under it.
unfoldable mutual
  pub preorder : Tree → List Application
  preorder (apply r place ps) = record { rule = r; place = place } ∷ preorder_in ps

  pub preorder_in : Parts → List Application
  preorder_in end = []
  preorder_in (edge g ps) = preorder_in ps
  preorder_in (tree t ps) = preorder t ++ preorder_in ps

-- What a replay of a tree's applications in that order shows: they are a sequence from the one start edge that ends
-- in exactly the graph, with just the nodes and edges that the applications name.
pub record Replay (G : Grammar) (H : Graph) (t : Tree) : Type 0 where
  pub result : Hypergraph
  pub derives : Derives G (start_on G.start H.externals) (preorder t) result
  pub nodes : result.nodes ≡ H.externals ++ inner_of G t
  pub externals : result.externals ≡ H.externals
  pub edges : result.edges ≡ map (λ (e : ℕ). edge_at H.edges e) (edges_of t)
  pub all_nodes : Reordered result.nodes (up_to H.nodes)
  pub all_edges : Reordered result.edges H.edges
  pub count : steps_of G (preorder t) ≡ applications G t
