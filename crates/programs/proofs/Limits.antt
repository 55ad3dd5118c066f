-- Which files the programs hand on: one above 32,768 bytes is refused 1, any other goes to its reader or to the
-- replay, the grammar before the graph; a missing file counts as empty.
use mathlib.Core.Path.{◌≡◌, refl}
use mathlib.Core.Bool.{true, false}
use mathlib.Core.List.{List, []}
use Prim.Native.Nat.{ℕ, ◌≤◌, ◌<◌}
use lib.ListN.{length}
use lib.Dec.{leb}
use native.Mathlib.Omega.{arith}
use borrow.Author.Tests.{le-leb, lt-leb, eq-eqb, ne_eqb}
use Rattle.format.specs.Lines.{lines_of, counting_start}
use Rattle.questions.specs.Reading.{read_grammar, grammar_verdict, read_lines, delivered}
use Rattle.questions.specs.Checking.{read_graph}
use Rattle.replayer.specs.Verdicts.{number_of as verdict_number, replay_of}
use Rattle.programs.specs.Files.{FileRead, file_bytes, numbered, grammar_file, graph_file, files_of}
use Rattle.programs.specs.Programs.{refused, derive_files, replay_tables}

abbrev oversize : List ℕ → FileRead
oversize former = record { refusal = 1; table = former }

-- The definitions' limit is 01's. Stated once: where it is another number, antt finds that out here, and not by
-- looking for it in each law's goal.
limit : file_bytes ≡ 32768
limit = refl

above : (text : List ℕ) → 32768 < length text → leb (length text) file_bytes ≡ false
above text h = lt-leb (length text) file_bytes (omega (arith, limit))

within : (text : List ℕ) → length text ≤ 32768 → leb (length text) file_bytes ≡ true
within text h = le-leb (length text) file_bytes (omega (arith, limit))

-- ---- one file
pub grammar_oversize : (text former : List ℕ) → 32768 < length text → grammar_file text former ≡ oversize former
unfolding grammar_file
grammar_oversize text former h = rw (above text h)

pub grammar_within : (text former : List ℕ) → length text ≤ 32768 → grammar_file text former ≡ numbered (read_grammar text former)
unfolding grammar_file
grammar_within text former h = rw (within text h)

pub graph_oversize : (g text former : List ℕ) → 32768 < length text → graph_file g text former ≡ oversize former
unfolding graph_file
graph_oversize g text former h = rw (above text h)

pub graph_within : (g text former : List ℕ) → length text ≤ 32768 → graph_file g text former ≡ numbered (read_graph g text former)
unfolding graph_file
graph_within g text former h = rw (within text h)

pub derivation_oversize : (g h text : List ℕ) → 32768 < length text → replay_tables g h text ≡ 1
unfolding replay_tables
derivation_oversize g h text l = rw (above text l)

pub derivation_within : (g h text : List ℕ) → length text ≤ 32768 → replay_tables g h text ≡ verdict_number (replay_of g h text)
unfolding replay_tables
derivation_within g h text l = rw (within text l)

-- ---- the grammar is judged first
module _ (grammar graph formerGrammar formerGraph : List ℕ) where
  abbrev a : FileRead
  a = grammar_file grammar formerGrammar

  pub grammar_first : (a.refusal ≡ 0 → ⊥) → (files_of grammar graph formerGrammar formerGraph).refusal ≡ a.refusal
  unfolding files_of
  grammar_first n = rw (ne_eqb a.refusal 0 n)

  pub graph_second : a.refusal ≡ 0 → (files_of grammar graph formerGrammar formerGraph).refusal ≡ (graph_file a.table graph formerGraph).refusal
  unfolding files_of
  graph_second z = rw (eq-eqb a.refusal 0 z)

-- ---- a missing file
pub missing_grammar : (graph : List ℕ) → derive_files [] graph ≡ refused 2
unfolding derive_files files_of grammar_file read_grammar grammar_verdict read_lines delivered lines_of counting_start
missing_grammar graph = refl
