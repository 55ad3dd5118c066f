-- What an accepted grammar file and a graph file read with it establish (01, 'Lines and columns', questions 3 to 7).
use Rattle.std.specs.Prelude.{◌≡◌, ◌⊎◌, List, [], ◌∷◌, ◌++◌, ℕ, suc, ◌≤◌, ◌<◌, length}
use Rattle.hrg.specs.Counts.{occurs}
use Rattle.hrg.specs.Grammars.{terminal, nonterminal, Edge, Graph, PlanNode, leaf, introduce, join, Rule, Grammar, kind_of, rank_of, rule_of, plan_node, edge_at}

-- low ≤ n ≤ high
pub record Between (low n high : ℕ) : Type 0 where
  pub lower : low ≤ n
  pub upper : n ≤ high

-- 'Are listed nodes in range and distinct?' (question 5), and as many as the rank (question 4)
pub record Listed (nodes rank : ℕ) (l : List ℕ) : Type 0 where
  pub ranked : length l ≡ rank
  pub inside : (x : ℕ) → 0 < occurs x l → x < nodes
  pub once : (x : ℕ) → occurs x l ≤ 1

-- an `E` line: a symbol of rank 1 or more, then that many nodes
pub record EdgeOk (G : Grammar) (nodes : ℕ) (e : Edge) : Type 0 where
  pub known : e.label < length G.symbols
  pub positive : 1 ≤ rank_of G e.label
  pub listed : Listed nodes (rank_of G e.label) e.attachment

-- Node x lies on an edge of the list.
pub record OnEdge (es : List Edge) (x : ℕ) : Type 0 where
  pub edge : ℕ
  pub known : edge < length es
  pub on : 0 < occurs x (edge_at es edge).attachment

-- a right side or a graph: as many external nodes as the rank, edges in order, every node on an edge (question 6)
pub record SideOk (G : Grammar) (H : Graph) (rank nodes edges : ℕ) : Type 0 where
  pub node_count : Between 1 H.nodes nodes
  pub edge_count : Between 1 (length H.edges) edges
  pub externals : Listed H.nodes rank H.externals
  pub edge : (i : ℕ) → i < length H.edges → EdgeOk G H.nodes (edge_at H.edges i)
  pub covered : (x : ℕ) → x < H.nodes → OnEdge H.edges x

-- the children of a plan node, and the edges that it introduces
abbrev pub children : PlanNode → List ℕ
children leaf = []
children (introduce c i) = c ∷ []
children (join a b) = a ∷ b ∷ []

abbrev pub introduced : PlanNode → List ℕ
introduced leaf = []
introduced (introduce c i) = i ∷ []
introduced (join a b) = []

unfoldable pub all_children : List PlanNode → List ℕ
all_children [] = []
all_children (n ∷ pl) = children n ++ all_children pl

unfoldable pub all_introduced : List PlanNode → List ℕ
all_introduced [] = []
all_introduced (n ∷ pl) = introduced n ++ all_introduced pl

-- the plan rules (question 7), for a right side with so many edges
pub record PlanOk (edges : ℕ) (pl : List PlanNode) : Type 0 where
  pub size : Between 2 (length pl) 16
  -- 'A child's number is below its parent's.'
  pub lower : (p c : ℕ) → p < length pl → 0 < occurs c (children (plan_node pl p)) → c < p
  -- 'Every plan node but the last is a child exactly once': the last is the root
  pub child_once : (q : ℕ) → suc q < length pl → occurs q (all_children pl) ≡ 1
  -- 'each edge is introduced exactly once', and nothing else is
  pub edge_once : (i : ℕ) → i < edges → occurs i (all_introduced pl) ≡ 1
  pub edge_known : (i : ℕ) → 0 < occurs i (all_introduced pl) → i < edges

pub record RuleOk (G : Grammar) (R : Rule) : Type 0 where
  pub lhs_known : R.production.lhs < length G.symbols
  pub lhs_kind : kind_of G R.production.lhs ≡ nonterminal
  pub right : SideOk G R.production.right (rank_of G R.production.lhs) 8 8
  pub plan : PlanOk (length R.production.right.edges) R.plan

-- 'Ranks are 1-4; the start .. may also have rank 0.'
pub record SymbolOk (G : Grammar) (s : ℕ) : Type 0 where
  pub upper : rank_of G s ≤ 4
  pub lower : (s ≡ G.start) ⊎ (1 ≤ rank_of G s)

pub record GrammarOk (G : Grammar) : Type 0 where
  pub symbol_count_is : Between 1 (length G.symbols) 64
  pub rule_count_is : Between 1 (length G.rules) 64
  pub start_known : G.start < length G.symbols
  pub start_kind : kind_of G G.start ≡ nonterminal
  pub symbol : (s : ℕ) → s < length G.symbols → SymbolOk G s
  pub rule : (r : ℕ) → r < length G.rules → RuleOk G (rule_of G r)

-- a graph read with the grammar: external nodes as many as the start's rank, edges with terminal symbols
pub record GraphOk (G : Grammar) (H : Graph) : Type 0 where
  pub side : SideOk G H (rank_of G G.start) 64 64
  pub terminals : (g : ℕ) → g < length H.edges → kind_of G (edge_at H.edges g).label ≡ terminal
