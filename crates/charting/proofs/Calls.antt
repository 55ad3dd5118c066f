-- One call of start or run, on any words: when it is refused, what it leaves, and that splitting a run changes nothing.
use Rattle.std.specs.Prelude.{Err}
use mathlib.Core.Path.{◌≡◌, refl, sym, ap, ◌∙◌, subst}
use mathlib.Core.Logic.{◌≢◌, ◌↔◌}
use mathlib.Core.Bool.{Bool, true, false, ◌&&◌, cond}
use mathlib.Core.List.{List, [], ◌∷◌}
use Prim.Native.Nat.{ℕ, ◌+◌, ◌≤◌, ◌<◌}
use lib.ListN.{length, get_or}
use lib.Dec.{leb}
use Rattle.hrg.specs.WellFormed.{GrammarOk, GraphOk}
use Rattle.hrg.proofs.Degrees.{and_true as both}
use Rattle.agenda.specs.Records.{is_handled}
use Rattle.agenda.specs.Consequences.{record_in}
use Rattle.agenda.specs.Steps.{Chart, run_chart, runs_chart, start_chart}
use Rattle.agenda.proofs.Spelling.{Stays}
use Rattle.agenda.proofs.Runs.{run_none, marked_run, run_split as chart_split, handled_kept}
use Rattle.questions.specs.Checking.{check_grammar, check_graph}
use Rattle.questions.specs.Abstract.{grammar_of, graph_of}
use Rattle.questions.proofs.WellFormedLent.{checked_grammar_ok, checked_graph_ok}
use Rattle.records.specs.Words.{Fits, capacity, chart_of, written}
use Rattle.records.proofs.Written.{Holds, chart_written, chart_of_written, capacity_written, written_over}
use Rattle.records.proofs.Rewritten.{Grown}
use Rattle.records.proofs.Grown.{holds_own}
use Rattle.steps.proofs.RunLaws.{run_grown, start_holds}
use Rattle.validity.specs.Checking.{holds, known_chart}
use Rattle.charting.specs.Calls.{number_of, Called, fit, fit_chart, answer_of, start_answer, refused, start_of, run_of, standing_of, Outcome}
use Rattle.charting.specs.declared.Unready.TheVariants.{Unfit, TooSmall}
use Rattle.validity.proofs.KnownCharts.{holds_header, holds_most, known_fits, known_records, written_known}
use Rattle.validity.proofs.Own.{run_known}
use Rattle.charting.proofs.Answers.{answer_marked, answer_fit, start_answer_fit}

pub and_both : (a b : Bool) → a ≡ true → b ≡ true → a && b ≡ true
and_both a b e f = rw (e, f)

-- an answer and the words that c makes of w
abbrev called : Outcome → List ℕ → Chart → Called
called a w c = record { answer = a; words = written w c }

abbrev pub after_start : List ℕ → List ℕ → Chart
after_start g w = start_chart (grammar_of g) (capacity w)

abbrev pub after_run : List ℕ → List ℕ → List ℕ → ℕ → Chart
after_run g h w k = run_chart (grammar_of g) (graph_of g h) (capacity w) k (chart_of w)

-- ---- what question 8 gives
module _ (g h w : List ℕ) (e : fit g h w ≡ true) where
  fit_parts : (holds w ≡ true) × (check_grammar g ≡ true) × (check_graph g h ≡ true)
  unfolding fit
  fit_parts = let (a, r) = both (holds w) (check_grammar g && check_graph g h) e in let (b, c) = both (check_grammar g) (check_graph g h) r in (a, b, c)

  pub fit_grammar : GrammarOk (grammar_of g)
  fit_grammar = checked_grammar_ok g fit_parts.1

  pub fit_graph : GraphOk (grammar_of g) (graph_of g h)
  fit_graph = checked_graph_ok g h fit_parts.1 fit_parts.2

  pub fit_most : capacity w ≤ 4096
  fit_most = holds_most w fit_parts.0

  pub start_held : Holds w (after_start g w)
  start_held = start_holds w (holds_header w fit_parts.0) (grammar_of g) fit_grammar

module _ (g h w : List ℕ) (e : fit_chart g h w ≡ true) where
  pub chart_fit : fit g h w ≡ true
  unfolding fit_chart
  chart_fit = (both (fit g h w) (known_chart (grammar_of g) (graph_of g h) w) e).0

  pub chart_known : known_chart (grammar_of g) (graph_of g h) w ≡ true
  unfolding fit_chart
  chart_known = (both (fit g h w) (known_chart (grammar_of g) (graph_of g h) w) e).1

  fitting : Fits w
  fitting = known_fits (grammar_of g) (graph_of g h) w (holds_header w (fit_parts g h w chart_fit).0) chart_known

  grown : (k : ℕ) → Grown w (chart_of w) (after_run g h w k)
  grown k =
      run_grown (grammar_of g) (graph_of g h) (fit_grammar g h w chart_fit) (fit_graph g h w chart_fit) w (fit_most g h w chart_fit) (chart_of w) (holds_own w fitting)
      (known_records (grammar_of g) (graph_of g h) w fitting chart_known) k

-- the size of the chart is all that question 8 asks of words before a start
pub fit_same : (g h v w : List ℕ) → capacity v ≡ capacity w → fit g h v ≡ fit g h w
unfolding fit holds
fit_same g h v w e = ap (λ n. (leb 1 n && leb n 4096) && (check_grammar g && check_graph g h)) e

-- ---- the two ways of a call
cond_yes : {A : Type 0} (b : Bool) (x y : A) → b ≡ true → cond b x y ≡ x
cond_yes b x y e = rw e

cond_no : {A : Type 0} (b : Bool) (x y : A) → b ≡ false → cond b x y ≡ y
cond_no b x y e = rw e

module _ (g h w : List ℕ) where
  pub start_is : fit g h w ≡ true → start_of g h w ≡ called (start_answer (after_start g w)) w (after_start g w)
  unfolding start_of
  start_is e = cond_yes (fit g h w) _ _ e

  pub start_not : fit g h w ≡ false → start_of g h w ≡ refused w
  unfolding start_of
  start_not e = cond_no (fit g h w) _ _ e

  module _ (k : ℕ) where
    pub run_is : fit_chart g h w ≡ true → run_of g h w k ≡ called (answer_of (after_run g h w k)) w (after_run g h w k)
    unfolding run_of
    run_is e = cond_yes (fit_chart g h w) _ _ e

    pub run_not : fit_chart g h w ≡ false → run_of g h w k ≡ refused w
    unfolding run_of
    run_not e = cond_no (fit_chart g h w) _ _ e

-- ---- 8
-- an answer of 8 comes with the words as they were
module _ (g h w : List ℕ) where
  -- just where question 8 says no
  pub start_eight : (number_of (start_of g h w).answer ≡ 8) ↔ (fit g h w ≡ false)
  start_eight = (λ e. go e (fit g h w) refl, λ e. ap (λ (c : Called). number_of c.answer) (start_not g h w e))
    where
      go : number_of (start_of g h w).answer ≡ 8 → (b : Bool) → fit g h w ≡ b → fit g h w ≡ false
      go e false f = f
      go e true f = absurd (start_answer_fit (after_start g w) (sym (ap (λ (c : Called). number_of c.answer) (start_is g h w f)) ∙ e))

  pub start_refused : number_of (start_of g h w).answer ≡ 8 → (start_of g h w).words ≡ w
  start_refused e = ap (λ (c : Called). c.words) (start_not g h w (start_eight.0 e))

  module _ (k : ℕ) where
    pub run_eight : (number_of (run_of g h w k).answer ≡ 8) ↔ (fit_chart g h w ≡ false)
    run_eight = (λ e. go e (fit_chart g h w) refl, λ e. ap (λ (c : Called). number_of c.answer) (run_not g h w k e))
      where
        go : number_of (run_of g h w k).answer ≡ 8 → (b : Bool) → fit_chart g h w ≡ b → fit_chart g h w ≡ false
        go e false f = f
        go e true f = absurd (answer_fit (after_run g h w k) (sym (ap (λ (c : Called). number_of c.answer) (run_is g h w k f)) ∙ e))

    pub run_refused : number_of (run_of g h w k).answer ≡ 8 → (run_of g h w k).words ≡ w
    run_refused e = ap (λ (c : Called). c.words) (run_not g h w k (run_eight.0 e))

-- ---- what stays
chart_mark : (w : List ℕ) → (chart_of w).mark ≡ get_or w 1 0
unfolding chart_of
chart_mark w = refl

module _ (g h w : List ℕ) (e : fit_chart g h w ≡ true) where
  -- a run that leaves the chart as it is leaves the words
  unchanged : (k : ℕ) → after_run g h w k ≡ chart_of w → run_of g h w k ≡ record { answer = answer_of (chart_of w); words = w }
  unchanged k q =
      run_is g h w k e ∙ ap (λ (c : Chart). called (answer_of c) w c) q
      ∙ ap (λ (v : List ℕ). record { answer = answer_of (chart_of w); words = v }) (sym (chart_written w (fitting g h w e)))

  -- 0 steps change nothing
  pub run_zero : run_of g h w 0 ≡ record { answer = answer_of (chart_of w); words = w }
  run_zero = unchanged 0 (run_none (grammar_of g) (graph_of g h) (capacity w) (chart_of w))

  -- after 9 every later run says 9 and changes nothing
  pub run_marked : (k : ℕ) → get_or w 1 0 ≢ 0 → run_of g h w k ≡ record { answer = Err TooSmall; words = w }
  run_marked k m =
      let n : (chart_of w).mark ≢ 0 = λ q. m (sym (chart_mark w) ∙ q) in
      unchanged k (marked_run (grammar_of g) (graph_of g h) (capacity w) k (chart_of w) n)
      ∙ ap (λ (a : Outcome). record { answer = a; words = w }) (answer_marked (chart_of w) n)

-- ---- what a run leaves
module _ (g h w : List ℕ) (e : fit_chart g h w ≡ true) (k : ℕ) where
  run_words : (run_of g h w k).words ≡ written w (after_run g h w k)
  run_words = ap (λ (c : Called). c.words) (run_is g h w k e)

  -- the words stand for the chart after so many steps, and hold as many items as before
  pub run_chart_is : chart_of (run_of g h w k).words ≡ after_run g h w k
  run_chart_is = ap chart_of run_words ∙ chart_of_written w (after_run g h w k) (grown g h w e k).holds

  pub run_capacity : capacity (run_of g h w k).words ≡ capacity w
  run_capacity = ap capacity run_words ∙ capacity_written w (after_run g h w k) (grown g h w e k).holds

  -- a chart that passes question 8 still does
  pub run_fit : fit_chart g h (run_of g h w k).words ≡ true
  unfolding fit_chart
  run_fit =
      let f = chart_fit g h w e in
      let o = (grown g h w e k).holds in
      let own = known_records (grammar_of g) (graph_of g h) w (fitting g h w e) (chart_known g h w e) in
      let all = run_known (grammar_of g) (graph_of g h) (fit_grammar g h w f) (fit_graph g h w f) (capacity w) k (chart_of w) own in
      and_both (fit g h (run_of g h w k).words) (known_chart (grammar_of g) (graph_of g h) (run_of g h w k).words) (fit_same g h (run_of g h w k).words w run_capacity ∙ f)
      (ap (known_chart (grammar_of g) (graph_of g h)) run_words ∙ written_known (grammar_of g) (graph_of g h) w (after_run g h w k) o all)

-- handled records stay at their places, whatever the answer
module _ (g h w : List ℕ) (k : ℕ) where
  one_run : Stays (chart_of w).records (after_run g h w k).records
  unfolding runs_chart
  one_run = handled_kept (grammar_of g) (graph_of g h) (capacity w) (k ∷ []) (chart_of w)

  pub run_handled : (j : ℕ) → j < length (chart_of w).records → is_handled (record_in (chart_of w).records j) ≡ true
      → (j < length (chart_of (run_of g h w k).words).records) × (record_in (chart_of (run_of g h w k).words).records j ≡ record_in (chart_of w).records j)
  run_handled = go (fit_chart g h w) refl
    where
      go : (b : Bool) → fit_chart g h w ≡ b → Stays (chart_of w).records (chart_of (run_of g h w k).words).records
      go true e = subst (λ (c : Chart). Stays (chart_of w).records c.records) (sym (run_chart_is g h w e k)) one_run
      go false e = subst (λ (c : Called). Stays (chart_of w).records (chart_of c.words).records) (sym (run_not g h w k e)) (λ j l m. (l, refl))

-- ---- splitting a run changes neither the chart nor the answer
module _ (g h w : List ℕ) (j k : ℕ) where
  split_not : fit_chart g h w ≡ false → run_of g h (run_of g h w j).words k ≡ run_of g h w (j + k)
  split_not e = ap (λ (c : Called). run_of g h c.words k) (run_not g h w j e) ∙ run_not g h w k e ∙ sym (run_not g h w (j + k) e)

  module _ (e : fit_chart g h w ≡ true) where
    -- the second run, on words of which all that is needed is known
    second : (v : List ℕ) → fit_chart g h v ≡ true → capacity v ≡ capacity w → chart_of v ≡ after_run g h w j → v ≡ written w (after_run g h w j)
        → run_of g h v k ≡ called (answer_of (after_run g h w (j + k))) w (after_run g h w (j + k))
    second v f p q r =
        let f' = chart_fit g h w e in
        let d = after_run g h w j in
        let c = after_run g h w (j + k) in
        let same : after_run g h v k ≡ c =
        ap (λ n. run_chart (grammar_of g) (graph_of g h) n k (chart_of v)) p ∙ ap (run_chart (grammar_of g) (graph_of g h) (capacity w) k) q
        ∙ sym (chart_split (grammar_of g) (graph_of g h) (capacity w) j k (chart_of w)) in
        let longer : length d.records ≤ length c.records =
        subst (λ (b : Chart). length d.records ≤ length b.records) (sym (chart_split (grammar_of g) (graph_of g h) (capacity w) j k (chart_of w)))
        (run_grown (grammar_of g) (graph_of g h) (fit_grammar g h w f') (fit_graph g h w f') w (fit_most g h w f') d (grown g h w e j).holds
        (run_known (grammar_of g) (graph_of g h) (fit_grammar g h w f') (fit_graph g h w f') (capacity w) j (chart_of w) (known_records (grammar_of g) (graph_of g h) w (fitting g h w e) (chart_known g h w e))) k).longer in
        run_is g h v k f ∙ ap (λ (b : Chart). called (answer_of b) v b) same
        ∙ ap (λ (u : List ℕ). called (answer_of c) u c) r
        ∙ ap (λ (u : List ℕ). record { answer = answer_of c; words = u }) (written_over w d (grown g h w e j).holds c longer)

    split_is : run_of g h (run_of g h w j).words k ≡ run_of g h w (j + k)
    split_is = second (run_of g h w j).words (run_fit g h w e j) (run_capacity g h w e j) (run_chart_is g h w e j) (run_words g h w e j) ∙ sym (run_is g h w (j + k) e)

  pub run_split : run_of g h (run_of g h w j).words k ≡ run_of g h w (j + k)
  run_split = go (fit_chart g h w) refl
    where
      go : (b : Bool) → fit_chart g h w ≡ b → run_of g h (run_of g h w j).words k ≡ run_of g h w (j + k)
      go true e = split_is e
      go false e = split_not e

-- how a chart stands is what a run of no steps answers, whatever the words
pub standing_run : (g h w : List ℕ) → standing_of g h w ≡ (run_of g h w 0).answer
unfolding standing_of run_of run_chart
standing_run g h w = go (fit_chart g h w)
  where
    go : (b : Bool) → cond b (answer_of (chart_of w)) (Err Unfit) ≡ (cond b (record { answer = answer_of (chart_of w); words = written w (chart_of w) }) (refused w)).answer
    go true = refl
    go false = refl
