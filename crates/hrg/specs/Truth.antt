-- Truth of an item with n applications, by derivation trees (01, 'A passive item is true when ..').
use Rattle.std.specs.Prelude.{◌≡◌, List, map, ℕ, ◌+◌, ◌≤◌, ◌<◌, length}
use Rattle.masks.specs.Masks.{bit}
use Rattle.hrg.specs.Counts.{occurs}
use Rattle.hrg.specs.Grammars.{Edge, Graph, PlanNode, leaf, join, Rule, Grammar, rule_of, plan_of, plan_node, edge_at}
use Rattle.hrg.specs.Trees.{unplaced, at, Tree, Parts, edges_of, edges_in, inner_of, inner_in, applications, applications_in, Fits, FitsParts}
use Rattle.hrg.specs.Items.{below, restrict, Covers, Item, active, passive}

-- A tree of symbol s on the nodes L has just the edges m, and every open node of the set is listed.
pub record PassiveTruth (G : Grammar) (H : Graph) (s m : ℕ) (L : List ℕ) (n : ℕ) : Type 0 where
  pub tree : Tree
  pub fits : Fits G H s L tree
  -- just these edges, none twice
  pub edges : (e : ℕ) → occurs e (edges_of tree) ≡ bit m e
  -- no node is inner twice, inner and listed, or listed twice
  pub once : (v : ℕ) → occurs v (inner_of G tree) + occurs v L ≤ 1
  pub covers : Covers H m L
  pub count : applications G tree ≡ n

-- the edges of a right side below plan node p
abbrev pub edges_below : Rule → ℕ → List Edge
edges_below R p = map (λ (i : ℕ). edge_at R.production.right.edges i) (below R.plan p)

-- Rule node x lies on an edge below plan node p.
pub record IsBelow (R : Rule) (p x : ℕ) : Type 0 where
  pub edge : ℕ
  pub under : 0 < occurs edge (below R.plan p)
  pub on : 0 < occurs x (edge_at R.production.right.edges edge).attachment

-- The same of the rule edges below plan node p: parts for them on a placement of the rule nodes below. The images of
-- the map stand for the top list, and the other rule nodes below are inner.
pub record ActiveTruth (G : Grammar) (H : Graph) (R : Rule) (p m : ℕ) (f : List ℕ) (n : ℕ) : Type 0 where
  pub place : List ℕ
  pub parts : Parts
  pub sized : length place ≡ R.production.right.nodes
  pub placed : (x : ℕ) → x < R.production.right.nodes → IsBelow R p x → at place x < H.nodes
  pub others : (x : ℕ) → x < R.production.right.nodes → (IsBelow R p x → ⊥) → at place x ≡ unplaced
  pub fits : FitsParts G H place parts (edges_below R p)
  pub edges : (e : ℕ) → occurs e (edges_in parts) ≡ bit m e
  -- no node is inner in a part twice, inner and placed, or placed twice
  pub once : (v : ℕ) → v < H.nodes → occurs v (inner_in G parts) + occurs v place ≤ 1
  pub map : f ≡ restrict R p place
  pub covers : Covers H m f
  pub count : applications_in G parts ≡ n

abbrev pub Truth : Grammar → Graph → Item → ℕ → Type 0
Truth G H (active r p m f) n = (r < length G.rules) × (p < length (plan_of G r)) × ActiveTruth G H (rule_of G r) p m f n
Truth G H (passive s m L) n = PassiveTruth G H s m L n

-- Plan nodes with nothing introduced at them or under them: leaves and joins of such nodes.
pub data LeavesOnly (pl : List PlanNode) : ℕ → Type 0 where
  a_leaf : (p : ℕ) → plan_node pl p ≡ leaf → LeavesOnly pl p
  a_join : (p a b : ℕ) → plan_node pl p ≡ join a b → LeavesOnly pl a → LeavesOnly pl b → LeavesOnly pl p

-- 'Fewest over trees': some choice of trees that makes the item true has n applications in all, every other at least
-- as many.
pub record Fewest (G : Grammar) (H : Graph) (i : Item) (n : ℕ) : Type 0 where
  pub some : Truth G H i n
  pub least : (k : ℕ) → Truth G H i k → n ≤ k
