-- Laws of the files: one for each way that a reading can go.
use mathlib.Core.Path.{◌≡◌, refl, ap, ◌∙◌}
use mathlib.Core.List.{List}
use Prim.Native.Nat.{ℕ, ◌≤◌, ◌<◌}
use lib.ListN.{length}
use borrow.Author.Tests.{eq-eqb, ne_eqb}
use Rattle.std.specs.Prelude.{⊤, Result, Ok, Err}
use Rattle.questions.specs.Reading.{read_grammar}
use Rattle.questions.specs.Refusing.{number_in, answer_of, reading_number}
use Rattle.questions.specs.declared.Refusal.{Refusal}
use Rattle.questions.specs.Checking.{read_graph}
use Rattle.readers.specs.Readers.{Gives}
use Rattle.programs.specs.Files.{file_bytes, grammar_file, graph_file, files_of, FileGives, FilesGive}
use Rattle.programs.proofs.Limits.{grammar_oversize, grammar_within, graph_oversize, graph_within}

pub grammar_over : (text former : List ℕ) → file_bytes < length text → FileGives (grammar_file text former) 1 former
grammar_over text former h = rw (grammar_oversize text former h) (record { answers = refl; leaves = refl })

-- the number of a reader's answer
told : (r : Result ⊤ Refusal) → number_in r ≡ reading_number (answer_of r)
told (Ok x) = refl
told (Err k) = refl

pub grammar_read : (text former table : List ℕ) (r : Result ⊤ Refusal) → length text ≤ file_bytes → Gives (read_grammar text former) (answer_of r) table
    → FileGives (grammar_file text former) (number_in r) table
grammar_read text former table r h gives = rw (grammar_within text former h) (record { answers = told r ∙ ap reading_number gives.answers; leaves = gives.leaves })

pub graph_over : (g text former : List ℕ) → file_bytes < length text → FileGives (graph_file g text former) 1 former
graph_over g text former h = rw (graph_oversize g text former h) (record { answers = refl; leaves = refl })

pub graph_read : (g text former table : List ℕ) (r : Result ⊤ Refusal) → length text ≤ file_bytes → Gives (read_graph g text former) (answer_of r) table
    → FileGives (graph_file g text former) (number_in r) table
graph_read g text former table r h gives = rw (graph_within g text former h) (record { answers = told r ∙ ap reading_number gives.answers; leaves = gives.leaves })

module _ (grammar graph formerGrammar formerGraph g : List ℕ) (k : ℕ) (first : FileGives (grammar_file grammar formerGrammar) k g) where
  pub files_refused : (k ≡ 0 → ⊥) → FilesGive (files_of grammar graph formerGrammar formerGraph) k g formerGraph
  unfolding files_of
  files_refused n =
      rw (← first.answers, ne_eqb k 0 n)
      (record { answers = refl; leaves_grammar = first.leaves; leaves_graph = refl })

  pub files_read : k ≡ 0 → (j : ℕ) (h : List ℕ) → FileGives (graph_file g graph formerGraph) j h → FilesGive (files_of grammar graph formerGrammar formerGraph) j g h
  unfolding files_of
  files_read z j h second =
      rw (← first.answers, eq-eqb k 0 z, ← first.leaves)
      (record { answers = second.answers; leaves_grammar = refl; leaves_graph = second.leaves })
