-- Reading a grammar text and a graph text: line by line, questions 1 to 7 for each line, the first no is the result
-- (01, 'Questions in their order').
use Rattle.std.specs.Prelude.{◌&&◌, cond, List, [], ◌∷◌, ◌++◌, ℕ, zero, suc, ◌+◌, min, length, drop, replicate, eqb, ltb, leb}
use Rattle.format.specs.Lines.{Line, lines_of}
use Rattle.format.specs.Shape.{shape_of, letter_of, kind_letter}
use Rattle.format.specs.Fields.{fields_of}
use Rattle.questions.specs.Layout.{place_of, letter_due, stored, grammar_words, graph_words, symbol_count, rule_count, rule_edges, rule_plan, graph_edges}
use Rattle.questions.specs.Questions.{ask, judge}
use Rattle.questions.specs.declared.Due.{Due}
use Rattle.questions.specs.declared.Due.TheVariants.{Grammar, Symbol, Rule, RuleEdge, PlanLine, Graph, GraphEdge, Nothing}

-- The order of lines: what is due after a line, by the table t with that line. A count never leads past the largest
-- table, whatever stands in t.
unfoldable pub next : List ℕ → Due → Due
next t Grammar = Symbol 0
next t (Symbol s) = cond (ltb (s + 1) (min 64 (symbol_count t))) (Symbol (s + 1)) (Rule 0)
next t (Rule r) = RuleEdge r 0
next t (RuleEdge r i) = cond (ltb (i + 1) (min 8 (rule_edges t r))) (RuleEdge r (i + 1)) (PlanLine r 0)
next t (PlanLine r q) = cond (ltb (q + 1) (min 16 (rule_plan t r))) (PlanLine r (q + 1)) (cond (ltb (r + 1) (min 64 (rule_count t))) (Rule (r + 1)) Nothing)
next t Graph = GraphEdge 0
next t (GraphEdge e) = cond (ltb (e + 1) (min 64 (graph_edges t))) (GraphEdge (e + 1)) Nothing
next t Nothing = Nothing

-- questions 1 to 7 for one line; where nothing is due, question 1 and then 2
unfoldable pub judge_line : List ℕ → List ℕ → Due → Line → ℕ
unfolding judge
judge_line g t due l =
    ask 1 (l.ended && shape_of l.bytes)
    (ask 2 (eqb (letter_of l.bytes) (kind_letter (letter_due due)))
    (judge g t due (fields_of l.bytes)))

-- A text is refused with a number, or accepted with its table.
pub data Verdict : Type 0 where
  refused : ℕ → Verdict
  accepted : List ℕ → Verdict

-- one verdict where nothing is due, another where a line is
abbrev pub when_done : Due → Verdict → Verdict → Verdict
when_done Nothing done rest = done
when_done Grammar done rest = rest
when_done (Symbol s) done rest = rest
when_done (Rule r) done rest = rest
when_done (RuleEdge r i) done rest = rest
when_done (PlanLine r q) done rest = rest
when_done Graph done rest = rest
when_done (GraphEdge e) done rest = rest

-- refusal k, or the rest where k is 0
abbrev pub go_on : ℕ → Verdict → Verdict
go_on zero rest = rest
go_on (suc k) rest = refused (suc k)

-- the lines judged one by one and stored in t; a line that is due and missing is refused 2
unfoldable pub read_lines : List ℕ → List ℕ → Due → List Line → Verdict
unfolding judge_line stored next
read_lines g t due [] = when_done due (accepted t) (refused 2)
read_lines g t due (l ∷ ls) =
    let t' = stored t (place_of due) (fields_of l.bytes) in
    let rest = read_lines g t' (next t' due) ls in
    go_on (judge_line g t due l) rest

-- the grammar text judged; the table starts with zeros
unfoldable pub grammar_verdict : List ℕ → Verdict
unfolding read_lines
grammar_verdict text = read_lines [] (replicate grammar_words 0) Grammar (lines_of text)

-- the graph text judged with the grammar table g
unfoldable pub graph_verdict : List ℕ → List ℕ → Verdict
unfolding read_lines
graph_verdict g text = read_lines g (replicate graph_words 0) Graph (lines_of text)

-- ---- what a reader answers and leaves in the lent table: too short a table is 8, and only an accepted text is written
pub data Answer : Type 0 where
  Done : Answer
  Refused : ℕ → Answer

pub record Outcome : Type 0 where
  pub answer : Answer
  pub table : List ℕ

unfoldable pub delivered : ℕ → Verdict → List ℕ → Outcome
delivered size (refused k) former = record { answer = Refused k; table = former }
delivered size (accepted t) former =
    cond (leb size (length former)) (record { answer = Done; table = t ++ drop size former }) (record { answer = Refused 8; table = former })

unfoldable pub read_grammar : List ℕ → List ℕ → Outcome
unfolding grammar_verdict delivered
read_grammar text former = delivered grammar_words (grammar_verdict text) former
