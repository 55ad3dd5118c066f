-- What `derive` and `replay` print, for every text of their files (01, the paragraph on the two programs).
use Rattle.std.specs.Prelude.{◌≡◌, cond, List, [], ◌∷◌, ◌++◌, ℕ, length, take, drop, replicate, eqb, leb, Ok, Err}
use Rattle.records.specs.Words.{words_for}
use Rattle.format.specs.Writing.{line_text}
use Rattle.questions.specs.Layout.{grammar_words, graph_words}
use Rattle.charting.specs.Calls.{number_of as chart_number, start_of, run_of, Outcome}
use Rattle.charting.specs.declared.Unready.TheVariants.{Unfit as UnfitChart, TooSmall as TooSmallChart, Unfinished as UnfinishedChart}
use Rattle.writing.specs.Writing.{write_of, Answer}
use Rattle.writing.specs.declared.WriteError.TheVariants.{Unfit, TooSmall, Unfinished, Underivable, NoRoom}
use Rattle.replayer.specs.Verdicts.{number_of as verdict_number, replay_of}
use Rattle.programs.specs.Files.{file_bytes, files_of}

-- 'one `N` line with the refusal', and 'a `C` line with the steps'
unfoldable pub refusal_line : ℕ → List ℕ
unfolding line_text
refusal_line k = line_text 78 (k ∷ [])

unfoldable pub steps_line : ℕ → List ℕ
unfolding line_text
steps_line steps = line_text 67 (steps ∷ [])

-- A refusal, or the text of a derivation with the steps of the chart's run.
pub data Derived : Type 0 where
  refused : ℕ → Derived
  derived : List ℕ → ℕ → Derived

-- 'It writes the derivation and a `C` line .. or one `N` line'
abbrev pub derived_text : Derived → List ℕ
derived_text (refused k) = refusal_line k
derived_text (derived text steps) = text ++ steps_line steps

-- '`derive` lends 2,048 items .. and 32,768 bytes of output'
abbrev pub items : ℕ
items = 2048

abbrev pub chart_words : ℕ
chart_words = words_for items

abbrev pub output_bytes : ℕ
output_bytes = 32768

abbrev pub when_written : Answer → List ℕ → ℕ → Derived
when_written (Err Unfit) out steps = refused 8
when_written (Err TooSmall) out steps = refused 9
when_written (Err (Unfinished k)) out steps = refused 10
when_written (Err Underivable) out steps = refused 11
when_written (Err NoRoom) out steps = refused 12
when_written (Ok n) out steps = derived (take n out) steps

unfoldable pub write_chart : List ℕ → List ℕ → List ℕ → ℕ → Derived
unfolding write_of
write_chart g h w steps = let x = write_of g h w (replicate output_bytes 0) in when_written x.answer x.out steps

abbrev pub when_ran : Outcome → (ℕ → Derived) → Derived
when_ran (Err UnfitChart) next = refused 8
when_ran (Err TooSmallChart) next = refused 9
when_ran (Err (UnfinishedChart k)) next = refused 10
when_ran (Ok k) next = next k

-- a start on a cleared chart, a run of as many steps as it holds items, and the writing
unfoldable pub derive_tables : List ℕ → List ℕ → Derived
unfolding start_of run_of write_chart
derive_tables g h =
    let s = start_of g h (replicate chart_words 0) in
    let r = run_of g h s.words items in
    let next = when_ran r.answer (λ steps. write_chart g h r.words steps) in
    cond (eqb (chart_number s.answer) 0) next (refused (chart_number s.answer))

unfoldable pub derive_files : List ℕ → List ℕ → Derived
unfolding files_of derive_tables
derive_files grammar graph =
    let t = files_of grammar graph (replicate grammar_words 0) (replicate graph_words 0) in
    cond (eqb t.refusal 0) (derive_tables t.grammar t.graph) (refused t.refusal)

-- the refusal of a derivation file, or 0: an oversize one is 1
unfoldable pub replay_tables : List ℕ → List ℕ → List ℕ → ℕ
unfolding replay_of
replay_tables g h text = cond (leb (length text) file_bytes) (verdict_number (replay_of g h text)) 1

unfoldable pub replay_files : List ℕ → List ℕ → List ℕ → ℕ
unfolding files_of replay_tables
replay_files grammar graph text =
    let t = files_of grammar graph (replicate grammar_words 0) (replicate graph_words 0) in
    cond (eqb t.refusal 0) (replay_tables t.grammar t.graph text) t.refusal

-- a text stands at the front of the lent output, the rest stays, and its length is answered
pub record Prints (text former now : List ℕ) (count : ℕ) : Type 0 where
  pub counts : count ≡ length text
  pub contents : now ≡ text ++ drop (length text) former
