-- What the calls answer where question 8 of the tables is known to hold: by the grammar and the graph that the tables
-- stand for. Computing it anew at each call, over some 1,700 words, is what an example costs.
use Rattle.std.specs.Prelude.{Err}
use mathlib.Core.Path.{◌≡◌, refl, ap, ◌∙◌}
use mathlib.Core.Bool.{true, ◌&&◌, cond}
use mathlib.Core.List.{List, [], ◌∷◌}
use Prim.Native.Nat.{ℕ}
use lib.ListN.{take, replicate}
use Rattle.hrg.specs.Grammars.{Grammar, Graph}
use Rattle.hrg.specs.ClosureRun.{same_list}
use Rattle.questions.specs.Layout.{grammar_words, graph_words}
use Rattle.questions.specs.Reading.{Outcome, read_grammar, Answer, Done}
use Rattle.questions.specs.Refusing.{reading_number}
use Rattle.questions.specs.Checking.{check_grammar, check_graph, read_graph}
use Rattle.questions.specs.Abstract.{grammar_of, graph_of}
use Rattle.agenda.specs.Steps.{run_chart, start_chart}
use Rattle.records.specs.Words.{words_for, capacity, record_at, chart_of, written}
use Rattle.validity.specs.Checking.{holds, known_chart}
use Rattle.charting.specs.Calls.{Called, number_of, steps_of, refused, fit, fit_chart, answer_of, start_answer, start_of, run_of, standing_of, runs_of, Outcome as Standing}
use Rattle.charting.specs.declared.Unready.TheVariants.{Unfit}
use Rattle.writing.specs.Writing.{Wrote, number_of as writing_number, write_by, write_goal, goal_in, write_of}
use Rattle.trials.specs.Trials.{Trial, Told, written_bytes, answers, told}

-- ---- the calls
unfoldable pub start_by : Grammar → List ℕ → Called
start_by G w = let c = start_chart G (capacity w) in cond (holds w && true) (record { answer = start_answer c; words = written w c }) (refused w)

unfoldable pub run_by : Grammar → Graph → List ℕ → ℕ → Called
run_by G H w k =
    let c = run_chart G H (capacity w) k (chart_of w) in
    cond ((holds w && true) && known_chart G H w) (record { answer = answer_of c; words = written w c }) (refused w)

unfoldable pub runs_by : Grammar → Graph → List ℕ → List ℕ → List ℕ
runs_by G H w [] = w
runs_by G H w (k ∷ ks) = runs_by G H (run_by G H w k).words ks

unfoldable pub answers_by : Grammar → Graph → List ℕ → List ℕ → List (List ℕ)
answers_by G H w [] = []
answers_by G H w (k ∷ ks) = let r = run_by G H w k in (number_of r.answer ∷ steps_of r.answer ∷ []) ∷ answers_by G H r.words ks

unfoldable pub standing_by : Grammar → Graph → List ℕ → Standing
standing_by G H w = cond ((holds w && true) && known_chart G H w) (answer_of (chart_of w)) (Err Unfit)

unfoldable pub writing_by : Grammar → Graph → List ℕ → List ℕ → Wrote
writing_by G H w out = write_by (standing_by G H w) out (write_goal G H (λ j. record_at w j) out (goal_in G H (chart_of w).records))

module _ (g h : List ℕ) (p : check_grammar g ≡ true) (q : check_graph g h ≡ true) where
  pub fit_by : (w : List ℕ) → fit g h w ≡ (holds w && true)
  unfolding fit
  fit_by w = rw (p, q)

  pub start_by_is : (w : List ℕ) → start_of g h w ≡ start_by (grammar_of g) w
  unfolding start_of start_by
  start_by_is w = rw (fit_by w)

  pub run_by_is : (w : List ℕ) (k : ℕ) → run_of g h w k ≡ run_by (grammar_of g) (graph_of g h) w k
  unfolding run_of fit_chart run_by
  run_by_is w k = rw (fit_by w)

  pub runs_by_is : (w ks : List ℕ) → runs_of g h w ks ≡ runs_by (grammar_of g) (graph_of g h) w ks
  unfolding runs_of runs_by
  runs_by_is w [] = refl
  runs_by_is w (k ∷ ks) = ap (λ (c : Called). runs_of g h c.words ks) (run_by_is w k) ∙ runs_by_is (run_by (grammar_of g) (graph_of g h) w k).words ks

  pub answers_by_is : (w ks : List ℕ) → answers g h w ks ≡ answers_by (grammar_of g) (graph_of g h) w ks
  unfolding answers answers_by
  answers_by_is w [] = refl
  answers_by_is w (k ∷ ks) =
      ap (λ (c : Called). (number_of c.answer ∷ steps_of c.answer ∷ []) ∷ answers g h c.words ks) (run_by_is w k)
      ∙ ap (λ (l : List (List ℕ)). (number_of (run_by (grammar_of g) (graph_of g h) w k).answer ∷ steps_of (run_by (grammar_of g) (graph_of g h) w k).answer ∷ []) ∷ l) (answers_by_is (run_by (grammar_of g) (graph_of g h) w k).words ks)

  pub standing_by_is : (w : List ℕ) → standing_of g h w ≡ standing_by (grammar_of g) (graph_of g h) w
  unfolding standing_of fit_chart standing_by
  standing_by_is w = rw (fit_by w)

  pub writing_by_is : (w out : List ℕ) → write_of g h w out ≡ writing_by (grammar_of g) (graph_of g h) w out
  unfolding write_of writing_by
  writing_by_is w out = rw (standing_by_is w)

-- ---- the tables that two texts fill, and what they stand for
pub record Reading (grammar graph : List ℕ) (G : Grammar) (H : Graph) : Type 0 where
  pub g : List ℕ
  pub h : List ℕ
  pub reads : read_grammar grammar (replicate grammar_words 0) ≡ record { answer = Done; table = g }
  pub reads_graph : read_graph g graph (replicate graph_words 0) ≡ record { answer = Done; table = h }
  pub checks : check_grammar g ≡ true
  pub checks_graph : check_graph g h ≡ true
  pub means : grammar_of g ≡ G
  pub means_graph : graph_of g h ≡ H

-- a text that is accepted, as one equation
pub accepted_whole : (o : Outcome) → o.answer ≡ Done → o ≡ record { answer = Done; table = o.table }
accepted_whole o e = ap (λ (a : Answer). record { answer = a; table = o.table }) e

-- ---- a trial
unfoldable pub told_by : Grammar → Graph → List ℕ → List ℕ → List ℕ → Told
told_by G H chart out runs =
    let s = start_by G chart in
    let w = runs_by G H s.words runs in
    let x = writing_by G H w out in
    record {
      opening = 0 ∷ 0 ∷ number_of s.answer ∷ [];
      ran = answers_by G H s.words runs;
      kept = same_list w s.words;
      writing = writing_number x.answer;
      bytes = take (written_bytes x.answer) x.out;
    }

-- the trial over any two answers of the readers
unfoldable told_on : Outcome → Outcome → List ℕ → List ℕ → List ℕ → Told
told_on a b chart out runs =
    let s = start_of a.table b.table chart in
    let w = runs_of a.table b.table s.words runs in
    let x = write_of a.table b.table w out in
    record {
      opening = reading_number a.answer ∷ reading_number b.answer ∷ number_of s.answer ∷ [];
      ran = answers a.table b.table s.words runs;
      kept = same_list w s.words;
      writing = writing_number x.answer;
      bytes = take (written_bytes x.answer) x.out;
    }

told_on_lem : (g h chart out runs : List ℕ) → check_grammar g ≡ true → check_graph g h ≡ true
    → told_on (record { answer = Done; table = g }) (record { answer = Done; table = h }) chart out runs ≡ told_by (grammar_of g) (graph_of g h) chart out runs
unfolding told_on told_by
told_on_lem g h chart out runs p q = simp (start_by_is g h p q, runs_by_is g h p q, answers_by_is g h p q, writing_by_is g h p q)

told_whole : (t : Trial) → told t
    ≡ (let a = read_grammar t.grammar (replicate grammar_words 0) in
    told_on a (read_graph a.table t.graph (replicate graph_words 0)) (replicate (words_for t.items) 0) (replicate t.room 0) t.runs)
unfolding told told_on
told_whole t = refl

pub told_by_lem : (t : Trial) (G : Grammar) (H : Graph) → Reading t.grammar t.graph G H
    → told t ≡ told_by G H (replicate (words_for t.items) 0) (replicate t.room 0) t.runs
told_by_lem t G H r =
    let chart : List ℕ = replicate (words_for t.items) 0 in
    let out : List ℕ = replicate t.room 0 in
    told_whole t
    ∙ ap (λ (a : Outcome). told_on a (read_graph a.table t.graph (replicate graph_words 0)) chart out t.runs) r.reads
    ∙ ap (λ (b : Outcome). told_on (record { answer = Done; table = r.g }) b chart out t.runs) r.reads_graph
    ∙ told_on_lem r.g r.h chart out t.runs r.checks r.checks_graph
    ∙ ap (λ (X : Grammar). told_by X (graph_of r.g r.h) chart out t.runs) r.means
    ∙ ap (λ (X : Graph). told_by G X chart out t.runs) r.means_graph
