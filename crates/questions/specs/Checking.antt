-- Question 8 for tables: could accepted texts have filled them? The lines that a table holds are judged as a reader
-- judges them and stored in a cleared table, which must then be the table itself.
use Rattle.std.specs.Prelude.{◌≡◌, Bool, false, ◌&&◌, cond, List, [], ℕ, zero, suc, ◌+◌, length, take, replicate, leb}
use Rattle.hrg.specs.Counts.{tabulate}
use Rattle.hrg.specs.ClosureRun.{same_list}
use Rattle.questions.specs.Layout.{place_of, line_field, stored, grammar_words, graph_words, start_symbol, rank_at}
use Rattle.questions.specs.Questions.{judge}
use Rattle.questions.specs.Reading.{Verdict, refused, accepted, when_done, go_on, next, delivered, Outcome, graph_verdict, read_grammar, Done, Refused}
use Rattle.questions.specs.declared.Due.{Due}
use Rattle.questions.specs.declared.Due.TheVariants.{Grammar, Symbol, Rule, RuleEdge, PlanLine, Graph, GraphEdge, Nothing}

-- how many fields the line at a place of t has, by the ranks in the lines read before it: those of c, or of the
-- grammar g for a graph's lines
unfoldable pub fields_due : List ℕ → List ℕ → List ℕ → Due → ℕ
fields_due g c t Grammar = 3
fields_due g c t (Symbol s) = 3
fields_due g c t (Rule r) = 5 + rank_at c (line_field t (place_of (Rule r)) 1)
fields_due g c t (RuleEdge r i) = 1 + rank_at c (line_field t (place_of (RuleEdge r i)) 0)
fields_due g c t (PlanLine r q) = 3
fields_due g c t Graph = 2 + rank_at g (start_symbol g)
fields_due g c t (GraphEdge e) = 1 + rank_at g (line_field t (place_of (GraphEdge e)) 0)
fields_due g c t Nothing = 0

-- the fields of the line at a place of t
unfoldable pub stored_fields : List ℕ → List ℕ → List ℕ → Due → List ℕ
unfolding fields_due tabulate
stored_fields g c t due = tabulate (fields_due g c t due) (λ j. line_field t (place_of due) j)

-- the lines of t from `due` on, at most k of them, judged and stored in c
unfoldable pub check_lines : ℕ → List ℕ → List ℕ → List ℕ → Due → Verdict
unfolding judge stored_fields stored next
check_lines zero g t c due = refused 8
check_lines (suc k) g t c due =
    let fs = stored_fields g c t due in
    let c' = stored c (place_of due) fs in
    let rest = check_lines k g t c' (next c' due) in
    when_done due (accepted c) (go_on (judge g c due fs) rest)

-- the verdict's table is t, for as many words as the largest table has
abbrev pub filled_by : ℕ → List ℕ → Verdict → Bool
filled_by size t (refused k) = false
filled_by size t (accepted c) = leb size (length t) && same_list c (take size t)

-- a table has at most as many lines as words
unfoldable pub check_grammar : List ℕ → Bool
unfolding check_lines same_list
check_grammar t = filled_by grammar_words t (check_lines (suc grammar_words) [] t (replicate grammar_words 0) Grammar)

unfoldable pub check_graph : List ℕ → List ℕ → Bool
unfolding check_lines same_list
check_graph g t = filled_by graph_words t (check_lines (suc graph_words) g t (replicate graph_words 0) Graph)

-- the graph reader judges the grammar table before the text
unfoldable pub read_graph : List ℕ → List ℕ → List ℕ → Outcome
unfolding check_grammar graph_verdict delivered
read_graph g text former = cond (check_grammar g) (delivered graph_words (graph_verdict g text) former) (record { answer = Refused 8; table = former })

-- ---- question 8 in 01's words: some text and some former contents exist with which the reader leaves exactly this table
pub record FilledGrammar (t : List ℕ) : Type 0 where
  pub text : List ℕ
  pub former : List ℕ
  pub read : read_grammar text former ≡ record { answer = Done; table = t }

pub record FilledGraph (g t : List ℕ) : Type 0 where
  pub text : List ℕ
  pub former : List ℕ
  pub read : read_graph g text former ≡ record { answer = Done; table = t }
