-- What the readers' contracts say: the answer and every lent word by the outcome of crate `tables`.
use Rattle.std.specs.Prelude.{◌≡◌, Bool, List, ℕ, ⊤, Result, OnOk}
use Rattle.format.specs.Fields.{fields_of}
use Rattle.format.specs.Lines.{Line}
use Rattle.questions.specs.Layout.{place_of, stored}
use Rattle.questions.specs.Reading.{Verdict, accepted, go_on, Outcome, Answer}
use Rattle.questions.specs.declared.Refusal.{Refusal}
use Rattle.questions.specs.declared.Due.{Due}
use Rattle.questions.specs.declared.Due.TheVariants.{Grammar, Symbol, Rule, RuleEdge, PlanLine, Graph, GraphEdge, Nothing}

-- a reader answers and leaves in the lent table what the outcome says
pub record Gives (o : Outcome) (answer : Answer) (table : List ℕ) : Type 0 where
  pub answers : answer ≡ o.answer
  pub leaves : table ≡ o.table

-- the verdict of a reading that ended with refusal k, or with 0 and the table t
abbrev pub verdict_of : ℕ → List ℕ → Verdict
verdict_of k t = go_on k (accepted t)

-- the line with these bytes
abbrev pub line_with : List ℕ → Bool → Line
line_with bytes ended = record { bytes = bytes; ended = ended }

-- a line that passes is stored at its place
abbrev pub Stores : List ℕ → Due → List ℕ → Result ⊤ Refusal → List ℕ → Type 0
Stores t due line r t' = OnOk r (t' ≡ stored t (place_of due) (fields_of line))

-- at the end of a text: refusal 2 where a line is due
abbrev pub missing : Due → ℕ
missing Nothing = 0
missing Grammar = 2
missing (Symbol s) = 2
missing (Rule r) = 2
missing (RuleEdge r i) = 2
missing (PlanLine r q) = 2
missing Graph = 2
missing (GraphEdge e) = 2
