-- A trial: texts are read, a chart is started and run, and a derivation is written. What it tells is given by the
-- definitions that the functions' contracts cite.
use Rattle.std.specs.Prelude.{Bool, List, [], ◌∷◌, ℕ, take, replicate, Ok, Err}
use Rattle.records.specs.Words.{words_for}
use Rattle.hrg.specs.ClosureRun.{same_list}
use Rattle.questions.specs.Layout.{grammar_words, graph_words}
use Rattle.questions.specs.Reading.{read_grammar}
use Rattle.questions.specs.Refusing.{reading_number}
use Rattle.questions.specs.Checking.{read_graph}
use Rattle.charting.specs.Calls.{number_of, steps_of, start_of, run_of, runs_of}
use Rattle.writing.specs.Writing.{number_of as writing_number, write_of, Answer as Writing}
use Rattle.writing.specs.declared.WriteError.TheVariants.{Unfit, TooSmall, Unfinished, Underivable, NoRoom}

pub record Trial : Type 0 where
  pub grammar : List ℕ
  pub graph : List ℕ
  -- how many items the chart holds, the steps of each run, and how many bytes the output has
  pub items : ℕ
  pub runs : List ℕ
  pub room : ℕ

pub record Told : Type 0 where
  -- 01's numbers of the readers' answers and of the start's
  pub opening : List ℕ
  -- of each run its number and the steps that it reports
  pub ran : List (List ℕ)
  -- whether the chart is as the start left it
  pub kept : Bool
  -- the number of the writing, and the bytes that are written
  pub writing : ℕ
  pub bytes : List ℕ

abbrev pub written_bytes : Writing → ℕ
written_bytes (Err Unfit) = 0
written_bytes (Err TooSmall) = 0
written_bytes (Err (Unfinished k)) = 0
written_bytes (Err Underivable) = 0
written_bytes (Err NoRoom) = 0
written_bytes (Ok n) = n

unfoldable pub answers : List ℕ → List ℕ → List ℕ → List ℕ → List (List ℕ)
answers g h w [] = []
answers g h w (k ∷ ks) = let r = run_of g h w k in (number_of r.answer ∷ steps_of r.answer ∷ []) ∷ answers g h r.words ks

-- on cleared tables, a cleared chart and a cleared output
unfoldable pub told : Trial → Told
unfolding read_grammar read_graph start_of runs_of answers write_of same_list
told t =
    let a = read_grammar t.grammar (replicate grammar_words 0) in
    let b = read_graph a.table t.graph (replicate graph_words 0) in
    let s = start_of a.table b.table (replicate (words_for t.items) 0) in
    let w = runs_of a.table b.table s.words t.runs in
    let x = write_of a.table b.table w (replicate t.room 0) in
    record {
      opening = reading_number a.answer ∷ reading_number b.answer ∷ number_of s.answer ∷ [];
      ran = answers a.table b.table s.words t.runs;
      kept = same_list w s.words;
      writing = writing_number x.answer;
      bytes = take (written_bytes x.answer) x.out;
    }
