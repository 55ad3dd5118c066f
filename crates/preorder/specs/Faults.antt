-- The derivation of K2 that 01 prints, and rows with one fault each.
use Rattle.std.specs.Prelude.{List, [], ◌∷◌, ℕ}
use Rattle.hrg.specs.Grammars.{Graph, Grammar, terminal, nonterminal}
use Rattle.hrg.specs.Trees.{Tree, apply, end, edge, tree}
use Rattle.hrg.specs.Cases.{arc, graph, rule, chain₂, grammar_a, k2, k4}

pub record Trial : Type 0 where
  pub grammar : Grammar
  pub graph : Graph
  pub rows : List (List ℕ)

abbrev pub on_k2 : List (List ℕ) → Trial
on_k2 rows = record { grammar = grammar_a; graph = k2.graph; rows = rows }

abbrev pub tree_of_k2 : Tree
tree_of_k2 = apply 1 (0 ∷ 2 ∷ 1 ∷ []) (edge 0 (tree (apply 0 (1 ∷ 2 ∷ []) (edge 1 end)) end))

abbrev pub printed : List (List ℕ)
printed = (0 ∷ 1 ∷ 0 ∷ 2 ∷ 1 ∷ 0 ∷ 1 ∷ []) ∷ (1 ∷ 0 ∷ 1 ∷ 2 ∷ 1 ∷ []) ∷ []

-- the second row has a number that is not its own
abbrev pub own_number : Trial
own_number = on_k2 ((0 ∷ 1 ∷ 0 ∷ 2 ∷ 1 ∷ 0 ∷ 1 ∷ []) ∷ (2 ∷ 0 ∷ 1 ∷ 2 ∷ 1 ∷ []) ∷ [])

-- the first row names an application that is not the next
abbrev pub part_number : Trial
part_number = on_k2 ((0 ∷ 1 ∷ 0 ∷ 2 ∷ 1 ∷ 0 ∷ 2 ∷ []) ∷ (1 ∷ 0 ∷ 1 ∷ 2 ∷ 1 ∷ []) ∷ [])

-- a row more than the derivation has
abbrev pub row_left : Trial
row_left = on_k2 ((0 ∷ 1 ∷ 0 ∷ 2 ∷ 1 ∷ 0 ∷ 1 ∷ []) ∷ (1 ∷ 0 ∷ 1 ∷ 2 ∷ 1 ∷ []) ∷ (2 ∷ 0 ∷ 1 ∷ 2 ∷ 1 ∷ []) ∷ [])

-- a field more than the rule has edges
abbrev pub field_left : Trial
field_left = on_k2 ((0 ∷ 1 ∷ 0 ∷ 2 ∷ 1 ∷ 0 ∷ 1 ∷ []) ∷ (1 ∷ 0 ∷ 1 ∷ 2 ∷ 1 ∷ 1 ∷ []) ∷ [])

-- K4: the external nodes the other way round
abbrev pub other_order : Trial
other_order = record { grammar = grammar_a; graph = k4.graph; rows = (0 ∷ 0 ∷ 0 ∷ 1 ∷ 0 ∷ []) ∷ [] }

-- the walk 0 1 2 1 3 is no path: node 1 is inner twice
abbrev pub inner_twice : Trial
inner_twice = record {
  grammar = grammar_a;
  graph = graph 4 (0 ∷ 3 ∷ []) (arc 0 0 1 ∷ arc 0 1 2 ∷ arc 0 2 1 ∷ arc 0 1 3 ∷ []);
  rows = (0 ∷ 1 ∷ 0 ∷ 3 ∷ 1 ∷ 0 ∷ 1 ∷ []) ∷ (1 ∷ 1 ∷ 1 ∷ 3 ∷ 2 ∷ 1 ∷ 2 ∷ []) ∷ (2 ∷ 1 ∷ 2 ∷ 3 ∷ 1 ∷ 2 ∷ 3 ∷ []) ∷ (3 ∷ 0 ∷ 1 ∷ 3 ∷ 3 ∷ []) ∷ [];
}

-- the walk 0 1 0 2 is no path: an external node is inner too
abbrev pub inner_on_top : Trial
inner_on_top = record {
  grammar = grammar_a;
  graph = graph 3 (0 ∷ 2 ∷ []) (arc 0 0 1 ∷ arc 0 1 0 ∷ arc 0 0 2 ∷ []);
  rows = (0 ∷ 1 ∷ 0 ∷ 2 ∷ 1 ∷ 0 ∷ 1 ∷ []) ∷ (1 ∷ 1 ∷ 1 ∷ 2 ∷ 0 ∷ 1 ∷ 2 ∷ []) ∷ (2 ∷ 0 ∷ 0 ∷ 2 ∷ 2 ∷ []) ∷ [];
}

-- a rule with two parallel edges on a graph with one
abbrev pub edge_twice : Trial
edge_twice = record {
  grammar = record {
    symbols = record { kind = terminal; rank = 2 } ∷ record { kind = nonterminal; rank = 2 } ∷ [];
    start = 1;
    rules = rule 1 (graph 2 (0 ∷ 1 ∷ []) (arc 0 0 1 ∷ arc 0 0 1 ∷ [])) chain₂ ∷ [];
  };
  graph = graph 2 (0 ∷ 1 ∷ []) (arc 0 0 1 ∷ []);
  rows = (0 ∷ 0 ∷ 0 ∷ 1 ∷ 0 ∷ 0 ∷ []) ∷ [];
}

abbrev pub faults : List Trial
faults = own_number ∷ part_number ∷ row_left ∷ field_left ∷ other_order ∷ inner_twice ∷ inner_on_top ∷ edge_twice ∷ []
