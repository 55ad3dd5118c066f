-- Truth of an item with n steps, by edge replacement (01: 'can be replaced until exactly its edge set stands').
use Rattle.std.specs.Prelude.{◌≡◌, List, map, ℕ, ◌^◌, ◌≤◌, ◌<◌, length, ltb}
use Rattle.hrg.specs.Counts.{occurs, up_to, select}
use Rattle.hrg.specs.Grammars.{nonterminal, Graph, touches, Rule, Grammar, kind_of, rule_of, plan_of}
use Rattle.hrg.specs.Trees.{at, images}
use Rattle.hrg.specs.Items.{below, is_open_at, restrict, Covers, Item, active, passive}
use Rattle.hrg.specs.Truth.{edges_below}
use Rattle.hrg.specs.Replacement.{Hypergraph, renamed, Yields, start_on, subgraph}

-- An edge s on the nodes L can be replaced until exactly the edge set m stands, and every open node of the set is
-- listed.
pub record PassiveReplaced (G : Grammar) (H : Graph) (s m : ℕ) (L : List ℕ) (n : ℕ) : Type 0 where
  pub kind : kind_of G s ≡ nonterminal
  pub inside : m < 2 ^ length H.edges
  pub yields : Yields G (start_on s L) (subgraph H L m) n
  pub covers : Covers H m L

-- the rule nodes on edges below plan node p, and those that are open there
abbrev pub nodes_below : Rule → ℕ → List ℕ
nodes_below R p = select (λ x. touches (λ i. ltb 0 (occurs i (below R.plan p))) R.production.right.edges x) (up_to R.production.right.nodes)

abbrev pub open_nodes : Rule → ℕ → List ℕ
open_nodes R p = select (λ x. is_open_at R p x) (up_to R.production.right.nodes)

-- the rule edges below plan node p on nodes with the names given; the open ones are external
abbrev pub edges_on : Rule → ℕ → List ℕ → Hypergraph
edges_on R p names = record {
  nodes = images names (nodes_below R p);
  externals = images names (open_nodes R p);
  edges = map (renamed (λ x. at names x)) (edges_below R p);
}

-- The same of the rule edges below plan node p, placed by the map: its images stand for the top list, other rule
-- nodes below have names of their own.
pub record ActiveReplaced (G : Grammar) (H : Graph) (R : Rule) (p m : ℕ) (f : List ℕ) (n : ℕ) : Type 0 where
  pub names : List ℕ
  pub sized : length names ≡ R.production.right.nodes
  pub once : (v : ℕ) → occurs v (images names (nodes_below R p)) ≤ 1
  pub map : f ≡ restrict R p names
  pub inside : m < 2 ^ length H.edges
  pub yields : Yields G (edges_on R p names) (subgraph H (images f (open_nodes R p)) m) n
  pub covers : Covers H m f

abbrev pub Replaced : Grammar → Graph → Item → ℕ → Type 0
Replaced G H (active r p m f) n = (r < length G.rules) × (p < length (plan_of G r)) × ActiveReplaced G H (rule_of G r) p m f n
Replaced G H (passive s m L) n = PassiveReplaced G H s m L n

-- The fewest replacement steps that make an item true.
pub record FewestSteps (G : Grammar) (H : Graph) (i : Item) (n : ℕ) : Type 0 where
  pub some : Replaced G H i n
  pub least : (k : ℕ) → Replaced G H i k → n ≤ k
