-- The run part of demand 3, over what start and run leave: every start that passes question 8, and every list of runs
-- after it.
use Rattle.std.specs.Prelude.{Option, Ok, Err}
use mathlib.Core.Path.{◌≡◌, refl, sym, ap, ◌∙◌, subst}
use mathlib.Core.Bool.{true}
use mathlib.Core.List.{List, [], ◌∷◌, ◌++◌}
use Prim.Native.Nat.{ℕ, ◌+◌, ◌≤◌, ◌<◌}
use lib.ListN.{length}
use Rattle.hrg.specs.Items.{Item, closure}
use Rattle.hrg.specs.Agenda.{Closure}
use Rattle.hrg.specs.WellFormed.{GrammarOk, GraphOk}
use Rattle.agenda.specs.Steps.{Chart, run_chart, runs_chart, start_chart, handled_count, sum_of}
use Rattle.agenda.proofs.Runs.{runs_last, sum_last, start_none}
use Rattle.agenda.proofs.RunFacts.{runs_correct, marked_small, full_run, waiting_more, done_size, steps_most, start_waits}
use Rattle.questions.specs.Abstract.{grammar_of, graph_of}
use Rattle.records.specs.Words.{capacity, chart_of, written}
use Rattle.records.proofs.Written.{chart_of_written, capacity_written}
use Rattle.charting.specs.Calls.{number_of, Called, fit, fit_chart, when_waiting, answer_of, start_answer, start_of, run_of, runs_of, Outcome}
use Rattle.validity.specs.Checking.{known_chart}
use Rattle.charting.specs.Facts.{RunRight}
use Rattle.charting.specs.declared.Unready.TheVariants.{TooSmall, Unfinished}
use Rattle.validity.proofs.Own.{start_known}
use Rattle.validity.proofs.KnownCharts.{written_known}
use Rattle.charting.proofs.Answers.{answer_waiting, answer_fit, answer_nine, answer_other, answer_steps, answer_done, answer_ten, start_answer_nine, start_answer_done}
use Rattle.charting.proofs.Calls.{and_both, after_start, after_run, fit_grammar, fit_graph, fit_most, start_held, start_is, run_is, run_chart_is, run_capacity, run_fit, run_zero, fit_same}

-- ---- what a start leaves
module _ (g h w : List ℕ) (e : fit g h w ≡ true) where
  start_words : (start_of g h w).words ≡ written w (after_start g w)
  start_words = ap (λ (c : Called). c.words) (start_is g h w e)

  start_answer_is : (start_of g h w).answer ≡ start_answer (after_start g w)
  start_answer_is = ap (λ (c : Called). c.answer) (start_is g h w e)

  pub start_chart_is : chart_of (start_of g h w).words ≡ start_chart (grammar_of g) (capacity w)
  start_chart_is = ap chart_of start_words ∙ chart_of_written w (after_start g w) (start_held g h w e)

  pub start_capacity : capacity (start_of g h w).words ≡ capacity w
  start_capacity = ap capacity start_words ∙ capacity_written w (after_start g w) (start_held g h w e)

  -- question 8 passes what a start leaves
  pub start_fit : fit_chart g h (start_of g h w).words ≡ true
  unfolding fit_chart
  start_fit =
      let v = (start_of g h w).words in
      and_both (fit g h v) (known_chart (grammar_of g) (graph_of g h) v) (fit_same g h v w start_capacity ∙ e)
      (ap (known_chart (grammar_of g) (graph_of g h)) start_words ∙ written_known (grammar_of g) (graph_of g h) w (after_start g w) (start_held g h w e) (start_known (grammar_of g) (graph_of g h) (fit_grammar g h w e) (fit_graph g h w e) (capacity w)))

-- ---- a list of runs is one on the chart
module _ (g h : List ℕ) where
  pub runs_fit : (ks : List ℕ) (v : List ℕ) → fit_chart g h v ≡ true → fit_chart g h (runs_of g h v ks) ≡ true
  unfolding runs_of
  runs_fit [] v e = e
  runs_fit (k ∷ ks) v e = runs_fit ks (run_of g h v k).words (run_fit g h v e k)

  runs_capacity_from : (ks : List ℕ) (v : List ℕ) → fit_chart g h v ≡ true → capacity (runs_of g h v ks) ≡ capacity v
  unfolding runs_of
  runs_capacity_from [] v e = refl
  runs_capacity_from (k ∷ ks) v e = runs_capacity_from ks (run_of g h v k).words (run_fit g h v e k) ∙ run_capacity g h v e k

  runs_chart_from : (ks : List ℕ) (v : List ℕ) → fit_chart g h v ≡ true → chart_of (runs_of g h v ks) ≡ runs_chart (grammar_of g) (graph_of g h) (capacity v) ks (chart_of v)
  unfolding runs_of runs_chart
  runs_chart_from [] v e = refl
  runs_chart_from (k ∷ ks) v e =
      runs_chart_from ks (run_of g h v k).words (run_fit g h v e k)
      ∙ ap (λ n. runs_chart (grammar_of g) (graph_of g h) n ks (chart_of (run_of g h v k).words)) (run_capacity g h v e k)
      ∙ ap (runs_chart (grammar_of g) (graph_of g h) (capacity v) ks) (run_chart_is g h v e k)

-- ---- from a start on
module _ (g h w : List ℕ) (e : fit g h w ≡ true) where
  module _ (ks : List ℕ) where
    -- the words after the start and the runs
    abbrev after : List ℕ
    after = runs_of g h (start_of g h w).words ks

    pub runs_known : fit_chart g h after ≡ true
    runs_known = runs_fit g h ks (start_of g h w).words (start_fit g h w e)

    pub runs_capacity : capacity after ≡ capacity w
    runs_capacity = runs_capacity_from g h ks (start_of g h w).words (start_fit g h w e) ∙ start_capacity g h w e

    pub runs_chart_lem : chart_of after ≡ runs_chart (grammar_of g) (graph_of g h) (capacity w) ks (start_chart (grammar_of g) (capacity w))
    runs_chart_lem =
        runs_chart_from g h ks (start_of g h w).words (start_fit g h w e)
        ∙ ap (λ n. runs_chart (grammar_of g) (graph_of g h) n ks (chart_of (start_of g h w).words)) (start_capacity g h w e)
        ∙ ap (runs_chart (grammar_of g) (graph_of g h) (capacity w) ks) (start_chart_is g h w e)

    module _ (k : ℕ) where
      -- one run more is a list of runs, one longer
      last_chart : after_run g h after k ≡ runs_chart (grammar_of g) (graph_of g h) (capacity w) (ks ++ (k ∷ [])) (start_chart (grammar_of g) (capacity w))
      last_chart =
          ap (λ n. run_chart (grammar_of g) (graph_of g h) n k (chart_of after)) runs_capacity
          ∙ ap (run_chart (grammar_of g) (graph_of g h) (capacity w) k) runs_chart_lem
          ∙ sym (runs_last (grammar_of g) (graph_of g h) (capacity w) ks k (start_chart (grammar_of g) (capacity w)))

  abbrev ok : GrammarOk (grammar_of g)
  ok = fit_grammar g h w e

  abbrev good : GraphOk (grammar_of g) (graph_of g h)
  good = fit_graph g h w e

  abbrev most : capacity w ≤ 4096
  most = fit_most g h w e

  -- what the agenda's theorem says of a chart and of the answer that it gives
  module _ (ks : List ℕ) (c : Chart) (is : c ≡ runs_chart (grammar_of g) (graph_of g h) (capacity w) ks (start_chart (grammar_of g) (capacity w))) where
    chart_right : RunRight (grammar_of g) (graph_of g h) (capacity w) (sum_of ks) (answer_of c) c
    chart_right =
        record {
          fit = answer_fit c;
          small = λ n. marked_small (grammar_of g) (graph_of g h) ok good (capacity w) most ks c is (answer_nine c n);
          most = steps_most (grammar_of g) (graph_of g h) ok good (capacity w) most ks c is;
          right = λ n. runs_correct (grammar_of g) (graph_of g h) ok good (capacity w) most ks c is (answer_other c n);
          steps = λ n. answer_steps c (answer_other c n);
          done = λ n all d. let (m, f) = answer_done c n in answer_steps c m ∙ done_size (grammar_of g) (graph_of g h) ok good (capacity w) most ks c is m f all d;
          more = λ n. let (m, f) = answer_ten c n in waiting_more (grammar_of g) (graph_of g h) ok good (capacity w) most ks c is m f;
          never = λ l n. let (m, f) = answer_ten c n in f (full_run (grammar_of g) (graph_of g h) ok good (capacity w) most ks c is l m);
        }

  -- demand 3 for runs: after the runs ks, a run of k steps
  pub runs_right : (ks : List ℕ) (k : ℕ)
      → RunRight (grammar_of g) (graph_of g h) (capacity w) (sum_of ks + k) (run_of g h (runs_of g h (start_of g h w).words ks) k).answer (chart_of (run_of g h (runs_of g h (start_of g h w).words ks) k).words)
  runs_right ks k =
      let v = after ks in
      let c = after_run g h v k in
      let a : answer_of c ≡ (run_of g h v k).answer = sym (ap (λ (d : Called). d.answer) (run_is g h v k (runs_known ks))) in
      let b : c ≡ chart_of (run_of g h v k).words = sym (run_chart_is g h v (runs_known ks) k) in
      let right : RunRight (grammar_of g) (graph_of g h) (capacity w) (sum_of ks + k) (answer_of c) c =
      subst (λ n. RunRight (grammar_of g) (graph_of g h) (capacity w) n (answer_of c) c) (sum_last ks k) (chart_right (ks ++ (k ∷ [])) c (last_chart ks k)) in
      subst (λ (d : Chart). RunRight (grammar_of g) (graph_of g h) (capacity w) (sum_of ks + k) (run_of g h v k).answer d) b
      (subst (λ (o : Outcome). RunRight (grammar_of g) (graph_of g h) (capacity w) (sum_of ks + k) o c) a right)

  -- a start says 9 only if the closure has more items than the chart holds
  pub start_right : (start_of g h w).answer ≡ Err TooSmall → (is : List Item) → Closure (closure (grammar_of g) (graph_of g h)) is → capacity w < length is
  unfolding runs_chart
  start_right s = marked_small (grammar_of g) (graph_of g h) ok good (capacity w) most [] (after_start g w) refl (start_answer_nine (after_start g w) (ap number_of (sym (start_answer_is g h w e) ∙ s)))

  -- 0 steps on a fresh chart say 10 and change nothing
  pub fresh_waits : (start_of g h w).answer ≡ Ok 0 → run_of g h (start_of g h w).words 0 ≡ record { answer = Err (Unfinished 0); words = (start_of g h w).words }
  fresh_waits s =
      let c = after_start g w in
      let m : c.mark ≡ 0 = start_answer_done c (ap number_of (sym (start_answer_is g h w e) ∙ s)) in
      let (j, f) = start_waits (grammar_of g) (graph_of g h) ok good (capacity w) most m in
      let a : answer_of c ≡ Err (Unfinished 0) =
      answer_waiting c m ∙ ap (λ (q : Option ℕ). when_waiting (handled_count c.records) q) f ∙ ap (λ k. Err (Unfinished k)) (start_none (grammar_of g) (graph_of g h) (capacity w)) in
      run_zero g h (start_of g h w).words (start_fit g h w e)
      ∙ ap (λ (o : Outcome). record { answer = o; words = (start_of g h w).words }) (ap answer_of (start_chart_is g h w e) ∙ a)
