-- Hypergraphs, productions, plans and grammars. Numbers stand for nodes, edges, symbols and rules, from 0 on (01,
-- 'Lines and columns').
use Rattle.std.specs.Prelude.{Bool, false, ◌&&◌, ◌||◌, List, [], ◌∷◌, ℕ, suc, get_or, ltb}
use Rattle.hrg.specs.Counts.{occurs}

-- 000 definition 3, 003 definition 3: terminal and nonterminal symbols, each with its rank.
pub data Kind : Type 0 where
  terminal nonterminal : Kind

pub record Symbol : Type 0 where
  pub kind : Kind
  pub rank : ℕ

-- A hyperedge (000 definition 1, 003 definition 1): a label and the nodes that it is attached to, in order.
pub record Edge : Type 0 where
  pub label : ℕ
  pub attachment : List ℕ

-- A graph with external nodes, in order (000 definition 2, 003 definition 1). Edges are a list: parallel ones are
-- separate.
pub record Graph : Type 0 where
  pub nodes : ℕ
  pub externals : List ℕ
  pub edges : List Edge

-- whether node x lies on an edge whose number passes the test
unfoldable pub touches : (ℕ → Bool) → List Edge → ℕ → Bool
touches t [] x = false
touches t (e ∷ es) x = (t 0 && ltb 0 (occurs x e.attachment)) || touches (λ i. t (suc i)) es x

-- A production (000 definition 3, 003 definition 3): an edge with the label lhs is replaced by the right side, which
-- is a graph.
pub record Production : Type 0 where
  pub lhs : ℕ
  pub right : Graph

-- A node of a matching plan (01, the `P` lines): it has nothing below it, introduces an edge above a child, or joins
-- two children.
pub data PlanNode : Type 0 where
  leaf : PlanNode
  introduce : (child edge : ℕ) → PlanNode
  join : (first second : ℕ) → PlanNode

-- A rule is a production and, apart from it, the plan by which the parser matches it. The last plan node is the root.
pub record Rule : Type 0 where
  pub production : Production
  pub plan : List PlanNode

pub record Grammar : Type 0 where
  pub symbols : List Symbol
  pub start : ℕ
  pub rules : List Rule

-- What an application of a rule adds to a count.
unfoldable pub cost : Rule → ℕ
cost R = 1

-- ---- look-up by number, with a value for numbers past the end
abbrev pub no_symbol : Symbol
no_symbol = record { kind = terminal; rank = 0 }

abbrev pub no_edge : Edge
no_edge = record { label = 0; attachment = [] }

abbrev pub no_graph : Graph
no_graph = record { nodes = 0; externals = []; edges = [] }

abbrev pub no_rule : Rule
no_rule = record { production = record { lhs = 0; right = no_graph }; plan = [] }

abbrev pub kind_of : Grammar → ℕ → Kind
kind_of G s = (get_or G.symbols s no_symbol).kind

abbrev pub rank_of : Grammar → ℕ → ℕ
rank_of G s = (get_or G.symbols s no_symbol).rank

abbrev pub rule_of : Grammar → ℕ → Rule
rule_of G r = get_or G.rules r no_rule

abbrev pub lhs_of : Grammar → ℕ → ℕ
lhs_of G r = (rule_of G r).production.lhs

-- the right side of rule r
abbrev pub right_of : Grammar → ℕ → Graph
right_of G r = (rule_of G r).production.right

abbrev pub plan_of : Grammar → ℕ → List PlanNode
plan_of G r = (rule_of G r).plan

abbrev pub plan_node : List PlanNode → ℕ → PlanNode
plan_node pl p = get_or pl p leaf

abbrev pub edge_at : List Edge → ℕ → Edge
edge_at es i = get_or es i no_edge
