-- The way of lines through a table, of which reading a text and checking a table are instances.
use Rattle.std.specs.Prelude.{◌≡◌, List, [], ◌∷◌, ℕ, ◌≤◌, ◌<◌}
use Rattle.questions.specs.Layout.{place_of, line_field, stored, grammar_words, graph_words}
use Rattle.questions.specs.Questions.{field, judge}
use Rattle.questions.specs.Reading.{next}
use Rattle.questions.specs.declared.Due.{Due}
use Rattle.questions.specs.declared.Due.TheVariants.{Grammar, Symbol, Rule, RuleEdge, PlanLine, Graph, GraphEdge, Nothing}

-- a table of this many words has the line's place, and those of all lines after it
abbrev pub Room : ℕ → Due → Type 0
Room size Grammar = grammar_words ≤ size
Room size (Symbol s) = (s < 64) × (grammar_words ≤ size)
Room size (Rule r) = (r < 64) × (grammar_words ≤ size)
Room size (RuleEdge r i) = (r < 64) × (i < 8) × (grammar_words ≤ size)
Room size (PlanLine r q) = (r < 64) × (q < 16) × (grammar_words ≤ size)
Room size Graph = graph_words ≤ size
Room size (GraphEdge e) = (e < 64) × (graph_words ≤ size)
Room size Nothing = graph_words ≤ size

-- From the table c with `due` due, lines with these fields pass questions 3 to 7 one by one, are stored, and lead to
-- the table t with nothing due.
pub data Walk (g t : List ℕ) : List ℕ → Due → List (List ℕ) → Type 0 where
  done : Walk g t t Nothing []
  line : {c : List ℕ} {due : Due} {fs : List ℕ} {fss : List (List ℕ)} → judge g c due fs ≡ 0
      → Walk g t (stored c (place_of due) fs) (next (stored c (place_of due) fs) due) fss → Walk g t c due (fs ∷ fss)

-- The fields of a line stand at its place in t, and pass questions 3 to 7 in t.
pub record Stands (g t : List ℕ) (due : Due) (fs : List ℕ) : Type 0 where
  pub passed : judge g t due fs ≡ 0
  pub there : (j : ℕ) → j < 9 → line_field t (place_of due) j ≡ field fs j

-- The same lines judged by the finished table: from `due` on each stands in t.
pub data Lines (g t : List ℕ) : Due → Type 0 where
  none : Lines g t Nothing
  more : {due : Due} (fs : List ℕ) → Stands g t due fs → Lines g t (next t due) → Lines g t due
