-- The grammar and the graph that accepted tables stand for.
use Rattle.hrg.specs.Grammars.{Grammar, Graph}
use Rattle.questions.specs.Abstract.{grammar_of, graph_of}
use Rattle.joins.specs.declared.accepted.AcceptedTables.{AcceptedTables}

abbrev pub grammar_in : AcceptedTables → Grammar
grammar_in t = grammar_of t.grammar.words.now

abbrev pub graph_in : AcceptedTables → Graph
graph_in t = graph_of t.grammar.words.now t.graph.now
