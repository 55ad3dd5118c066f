-- The grammars A and B and the graphs K1 to K6 (01, 'Graphs K1 to K10').
use Rattle.std.specs.Prelude.{List, [], ◌∷◌, ℕ}
use Rattle.hrg.specs.Grammars.{Edge, Graph, PlanNode, leaf, introduce, Rule, Grammar, terminal, nonterminal}

-- an edge of rank 2
abbrev pub arc : ℕ → ℕ → ℕ → Edge
arc s a b = record { label = s; attachment = a ∷ b ∷ [] }

abbrev pub graph : ℕ → List ℕ → List Edge → Graph
graph n xs es = record { nodes = n; externals = xs; edges = es }

abbrev pub rule : ℕ → Graph → List PlanNode → Rule
rule s P pl = record { production = record { lhs = s; right = P }; plan = pl }

-- plans are chains in edge order
abbrev pub chain₁ : List PlanNode
chain₁ = leaf ∷ introduce 0 0 ∷ []

abbrev pub chain₂ : List PlanNode
chain₂ = leaf ∷ introduce 0 0 ∷ introduce 1 1 ∷ []

abbrev pub grammar_a : Grammar
grammar_a = record {
  symbols = record { kind = terminal; rank = 2 } ∷ record { kind = nonterminal; rank = 2 } ∷ [];
  start = 1;
  rules = rule 1 (graph 2 (0 ∷ 1 ∷ []) (arc 0 0 1 ∷ [])) chain₁ ∷ rule 1 (graph 3 (0 ∷ 1 ∷ []) (arc 0 0 2 ∷ arc 1 2 1 ∷ [])) chain₂ ∷ [];
}

-- symbol 1 is the start, symbol 2 is X
abbrev pub grammar_b : Grammar
grammar_b = record {
  symbols = record { kind = terminal; rank = 2 } ∷ record { kind = nonterminal; rank = 1 } ∷ record { kind = nonterminal; rank = 2 } ∷ [];
  start = 1;
  rules = rule 1 (graph 2 (0 ∷ []) (arc 2 0 1 ∷ [])) chain₁ ∷ rule 2 (graph 2 (0 ∷ 1 ∷ []) (arc 0 0 1 ∷ [])) chain₁ ∷ [];
}

pub record Case : Type 0 where
  pub grammar : Grammar
  pub graph : Graph

abbrev pub k1 : Case
k1 = record { grammar = grammar_a; graph = graph 2 (0 ∷ 1 ∷ []) (arc 0 0 1 ∷ []) }

abbrev pub k2 : Case
k2 = record { grammar = grammar_a; graph = graph 3 (0 ∷ 2 ∷ []) (arc 0 0 1 ∷ arc 0 1 2 ∷ []) }

abbrev pub k3 : Case
k3 = record { grammar = grammar_a; graph = graph 3 (0 ∷ 1 ∷ []) (arc 0 0 1 ∷ arc 0 0 2 ∷ []) }

abbrev pub k4 : Case
k4 = record { grammar = grammar_a; graph = graph 2 (1 ∷ 0 ∷ []) (arc 0 0 1 ∷ []) }

abbrev pub k5 : Case
k5 = record { grammar = grammar_b; graph = graph 2 (0 ∷ []) (arc 0 0 1 ∷ []) }

abbrev pub k6 : Case
k6 = record { grammar = grammar_a; graph = graph 2 (0 ∷ 1 ∷ []) (arc 0 0 1 ∷ arc 0 0 1 ∷ []) }

abbrev pub cases : List Case
cases = k1 ∷ k2 ∷ k3 ∷ k4 ∷ k5 ∷ k6 ∷ []
