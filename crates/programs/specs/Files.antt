-- The programs' grammar and graph files: above 32,768 bytes refused 1, each in its turn; else the readers' answers.
use Rattle.std.specs.Prelude.{◌≡◌, cond, List, ℕ, length, eqb, leb}
use Rattle.questions.specs.Reading.{Outcome, read_grammar}
use Rattle.questions.specs.Refusing.{reading_number}
use Rattle.questions.specs.Checking.{read_graph}

-- the most bytes of a file
abbrev pub file_bytes : ℕ
file_bytes = 32768

-- a file's refusal, or 0, and the words of its table
pub record FileRead : Type 0 where
  pub refusal : ℕ
  pub table : List ℕ

abbrev pub numbered : Outcome → FileRead
numbered o = record { refusal = reading_number o.answer; table = o.table }

-- 'a file above 32,768 bytes is refused 1'
unfoldable pub grammar_file : List ℕ → List ℕ → FileRead
grammar_file text former = cond (leb (length text) file_bytes) (numbered (read_grammar text former)) (record { refusal = 1; table = former })

unfoldable pub graph_file : List ℕ → List ℕ → List ℕ → FileRead
graph_file g text former = cond (leb (length text) file_bytes) (numbered (read_graph g text former)) (record { refusal = 1; table = former })

-- the first refusal of both files, or 0, and the words of both tables
pub record FilesRead : Type 0 where
  pub refusal : ℕ
  pub grammar : List ℕ
  pub graph : List ℕ

-- 'The grammar is judged first, then the graph'
unfoldable pub files_of : List ℕ → List ℕ → List ℕ → List ℕ → FilesRead
files_of grammar graph formerGrammar formerGraph =
    let a = grammar_file grammar formerGrammar in
    let b = graph_file a.table graph formerGraph in
    cond (eqb a.refusal 0)
    (record { refusal = b.refusal; grammar = a.table; graph = b.table })
    (record { refusal = a.refusal; grammar = a.table; graph = formerGraph })

-- a function answers and leaves in the lent tables what the definition says
pub record FileGives (f : FileRead) (k : ℕ) (table : List ℕ) : Type 0 where
  pub answers : k ≡ f.refusal
  pub leaves : table ≡ f.table

pub record FilesGive (f : FilesRead) (k : ℕ) (grammar graph : List ℕ) : Type 0 where
  pub answers : k ≡ f.refusal
  pub leaves_grammar : grammar ≡ f.grammar
  pub leaves_graph : graph ≡ f.graph
