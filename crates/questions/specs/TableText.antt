-- The text of a grammar and of a graph: the fields of each of its lines, and the lines in their order (01, 'Lines and
-- columns').
use Rattle.std.specs.Prelude.{List, [], ◌∷◌, ◌++◌, ℕ, zero, suc, ◌+◌, length}
use Rattle.hrg.specs.Grammars
use Rattle.hrg.specs.Grammars.{Kind, terminal, nonterminal, PlanNode, leaf, introduce, join, Edge, kind_of, rank_of, lhs_of, right_of, plan_of, plan_node, edge_at}
use Rattle.format.specs.Shape.{kind_letter}
use Rattle.format.specs.Writing.{line_text}
use Rattle.questions.specs.Layout.{letter_due}
use Rattle.questions.specs.declared.Due.{Due}
use Rattle.questions.specs.declared.Due.TheVariants.{Grammar, Symbol, Rule, RuleEdge, PlanLine, Graph, GraphEdge, Nothing}

-- ---- the fields of lines
abbrev pub kind_number : Kind → ℕ
kind_number terminal = 0
kind_number nonterminal = 1

abbrev pub plan_fields : PlanNode → List ℕ
plan_fields leaf = 0 ∷ 0 ∷ 0 ∷ []
plan_fields (introduce c i) = 1 ∷ c ∷ i ∷ []
plan_fields (join a b) = 2 ∷ a ∷ b ∷ []

abbrev pub edge_fields : Edge → List ℕ
edge_fields e = e.label ∷ e.attachment

unfoldable pub grammar_fields : Grammars.Grammar → Due → List ℕ
grammar_fields G Grammar = length G.symbols ∷ length G.rules ∷ G.start ∷ []
grammar_fields G (Symbol s) = s ∷ kind_number (kind_of G s) ∷ rank_of G s ∷ []
grammar_fields G (Rule r) = r ∷ lhs_of G r ∷ (right_of G r).nodes ∷ length (right_of G r).edges ∷ length (plan_of G r) ∷ (right_of G r).externals
grammar_fields G (RuleEdge r i) = edge_fields (edge_at (right_of G r).edges i)
grammar_fields G (PlanLine r q) = plan_fields (plan_node (plan_of G r) q)
grammar_fields G Graph = []
grammar_fields G (GraphEdge e) = []
grammar_fields G Nothing = []

unfoldable pub graph_fields : Grammars.Graph → Due → List ℕ
graph_fields H Grammar = []
graph_fields H (Symbol s) = []
graph_fields H (Rule r) = []
graph_fields H (RuleEdge r i) = []
graph_fields H (PlanLine r q) = []
graph_fields H Graph = H.nodes ∷ length H.edges ∷ H.externals
graph_fields H (GraphEdge e) = edge_fields (edge_at H.edges e)
graph_fields H Nothing = []

-- ---- the lines in order
-- n lines from number k on
unfoldable pub series : (ℕ → Due) → ℕ → ℕ → List Due
series line k zero = []
series line k (suc n) = line k ∷ series line (k + 1) n

-- a rule's lines, and then others
abbrev pub rule_lines : Grammars.Grammar → ℕ → List Due → List Due
rule_lines G r rest = Rule r ∷ (series (RuleEdge r) 0 (length (right_of G r).edges) ++ (series (PlanLine r) 0 (length (plan_of G r)) ++ rest))

unfoldable pub rules_lines : Grammars.Grammar → ℕ → ℕ → List Due
unfolding series
rules_lines G r zero = []
rules_lines G r (suc n) = rule_lines G r (rules_lines G (r + 1) n)

unfoldable pub grammar_lines : Grammars.Grammar → List Due
unfolding series rules_lines
grammar_lines G = Grammar ∷ (series Symbol 0 (length G.symbols) ++ rules_lines G 0 (length G.rules))

unfoldable pub graph_lines : Grammars.Graph → List Due
unfolding series
graph_lines H = Graph ∷ series GraphEdge 0 (length H.edges)

-- ---- the text
unfoldable pub lines_text : (Due → List ℕ) → List Due → List ℕ
lines_text fields [] = []
lines_text fields (d ∷ ds) = line_text (kind_letter (letter_due d)) (fields d) ++ lines_text fields ds

unfoldable pub grammar_text : Grammars.Grammar → List ℕ
unfolding lines_text grammar_fields grammar_lines
grammar_text G = lines_text (grammar_fields G) (grammar_lines G)

unfoldable pub graph_text : Grammars.Graph → List ℕ
unfolding lines_text graph_fields graph_lines
graph_text H = lines_text (graph_fields H) (graph_lines H)
