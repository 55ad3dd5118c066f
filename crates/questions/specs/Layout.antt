-- The layout of tables: each line has a place, and there one word of nine fields with seven bits each; fields that a
-- line does not use are 0, and so are places without a line. Seven bits are enough: no field of an accepted line is
-- above 64.
use Rattle.std.specs.Prelude.{Bool, true, ◌&&◌, List, ℕ, zero, suc, ◌+◌, ◌*◌, ◌/◌, ◌%◌, ◌^◌, min, get_or, set, drop, ltb}
use Rattle.format.specs.declared.Letter.{Letter}
use Rattle.format.specs.declared.Letter.TheVariants.{G, S, R, E, P, H, Other}
use Rattle.questions.specs.declared.Due.{Due}
use Rattle.questions.specs.declared.Due.TheVariants.{Grammar, Symbol, Rule, RuleEdge, PlanLine, Graph, GraphEdge, Nothing}

-- ---- places: where a line stands is said here, and everything else goes by these names
-- A grammar has G, 64 S lines, and for each of 64 rules a block: its R line, 8 E lines and 16 P lines. Lines that a
-- rule gets later come behind its P lines: then the stride changes, and no name.
abbrev pub symbol_place : ℕ → ℕ
symbol_place s = 1 + s

-- lines of a rule's block
abbrev pub rule_stride : ℕ
rule_stride = 25

abbrev pub rule_place : ℕ → ℕ
rule_place r = 65 + rule_stride * r

-- where the E lines of a rule start
abbrev pub edges_from : ℕ → ℕ
edges_from r = 66 + rule_stride * r

abbrev pub edge_place : ℕ → ℕ → ℕ
edge_place r i = edges_from r + i

-- and its P lines
abbrev pub plans_from : ℕ → ℕ
plans_from r = 74 + rule_stride * r

abbrev pub plan_place : ℕ → ℕ → ℕ
plan_place r q = plans_from r + q

-- a graph has H and 64 E lines
abbrev pub graph_edge_place : ℕ → ℕ
graph_edge_place e = 1 + e

unfoldable pub place_of : Due → ℕ
place_of Grammar = 0
place_of (Symbol s) = symbol_place s
place_of (Rule r) = rule_place r
place_of (RuleEdge r i) = edge_place r i
place_of (PlanLine r q) = plan_place r q
place_of Graph = 0
place_of (GraphEdge e) = graph_edge_place e
place_of Nothing = 0

-- the letter of the line
unfoldable pub letter_due : Due → Letter
letter_due Grammar = G
letter_due (Symbol s) = S
letter_due (Rule r) = R
letter_due (RuleEdge r i) = E
letter_due (PlanLine r q) = P
letter_due Graph = H
letter_due (GraphEdge e) = E
letter_due Nothing = Other

-- the lines that a largest table has a place for
unfoldable pub in_table : Due → Bool
in_table Grammar = true
in_table (Symbol s) = ltb s 64
in_table (Rule r) = ltb r 64
in_table (RuleEdge r i) = ltb r 64 && ltb i 8
in_table (PlanLine r q) = ltb r 64 && ltb q 16
in_table Graph = true
in_table (GraphEdge e) = ltb e 64
in_table Nothing = true

-- words of the largest grammar and graph, 1,665 and 65: one for each place
abbrev pub grammar_words : ℕ
grammar_words = rule_place 64

abbrev pub graph_words : ℕ
graph_words = graph_edge_place 64

-- field j of a word: its bits 7 * j to 7 * j + 6
unfoldable pub word_field : ℕ → ℕ → ℕ
word_field w j = w / 2 ^ (7 * j) % 128

-- field j of the line at place p
unfoldable pub line_field : List ℕ → ℕ → ℕ → ℕ
unfolding word_field
line_field t p j = word_field (get_or t p 0) j

-- the word of the first n of these fields, each cut to seven bits
unfoldable pub packed : ℕ → List ℕ → ℕ
packed zero fs = 0
packed (suc n) fs = get_or fs 0 0 % 128 + 128 * packed n (drop 1 fs)

-- the table with these fields at place p
unfoldable pub stored : List ℕ → ℕ → List ℕ → List ℕ
unfolding packed
stored t p fs = set t p (packed 9 fs)

-- ---- the fields of a grammar table by name
abbrev pub symbol_count : List ℕ → ℕ
symbol_count g = line_field g 0 0

abbrev pub rule_count : List ℕ → ℕ
rule_count g = line_field g 0 1

abbrev pub start_symbol : List ℕ → ℕ
start_symbol g = line_field g 0 2

-- 0 terminal, 1 nonterminal
abbrev pub kind_field : List ℕ → ℕ → ℕ
kind_field g s = line_field g (symbol_place s) 1

-- ranks are at most 4, whatever stands in a table that no reader filled
abbrev pub rank_at : List ℕ → ℕ → ℕ
rank_at g s = min 4 (line_field g (symbol_place s) 2)

abbrev pub rule_symbol : List ℕ → ℕ → ℕ
rule_symbol g r = line_field g (rule_place r) 1

abbrev pub rule_nodes : List ℕ → ℕ → ℕ
rule_nodes g r = line_field g (rule_place r) 2

abbrev pub rule_edges : List ℕ → ℕ → ℕ
rule_edges g r = line_field g (rule_place r) 3

abbrev pub rule_plan : List ℕ → ℕ → ℕ
rule_plan g r = line_field g (rule_place r) 4

abbrev pub rule_external : List ℕ → ℕ → ℕ → ℕ
rule_external g r k = line_field g (rule_place r) (5 + k)

abbrev pub edge_label : List ℕ → ℕ → ℕ → ℕ
edge_label g r i = line_field g (edge_place r i) 0

abbrev pub edge_node : List ℕ → ℕ → ℕ → ℕ → ℕ
edge_node g r i k = line_field g (edge_place r i) (1 + k)

abbrev pub plan_kind : List ℕ → ℕ → ℕ → ℕ
plan_kind g r q = line_field g (plan_place r q) 0

abbrev pub plan_first : List ℕ → ℕ → ℕ → ℕ
plan_first g r q = line_field g (plan_place r q) 1

abbrev pub plan_second : List ℕ → ℕ → ℕ → ℕ
plan_second g r q = line_field g (plan_place r q) 2

-- ---- and of a graph table
abbrev pub graph_nodes : List ℕ → ℕ
graph_nodes h = line_field h 0 0

abbrev pub graph_edges : List ℕ → ℕ
graph_edges h = line_field h 0 1

abbrev pub graph_external : List ℕ → ℕ → ℕ
graph_external h k = line_field h 0 (2 + k)

abbrev pub graph_label : List ℕ → ℕ → ℕ
graph_label h e = line_field h (graph_edge_place e) 0

abbrev pub graph_node : List ℕ → ℕ → ℕ → ℕ
graph_node h e k = line_field h (graph_edge_place e) (1 + k)
