-- Start and run, call by call: a law for each way through the functions.
use Rattle.std.specs.Prelude.{None, Ok, Err}
use Prim.Native.Nat.{ℕ, ◌+◌, ◌≤◌}
use mathlib.Core.Path.{◌≡◌, refl, sym, ap, ◌∙◌, subst}
use mathlib.Core.Bool.{Bool, true, false, ◌&&◌, cond}
use mathlib.Core.List.{List}
use native.Mathlib.Omega.{arith}
use lib.ListN.{length, get_or}
use borrow.Author.Tests.{eq-eqb, ne_eqb}
use Rattle.agenda.specs.declared.Record.{Record}
use Rattle.agenda.specs.Steps.{least_waiting, handled_count, run_chart, start_chart, sum_of}
use Rattle.questions.specs.Checking.{check_grammar, check_graph}
use Rattle.questions.specs.Abstract.{grammar_of, graph_of}
use Rattle.joins.specs.Joins.{Accepted}
use Rattle.records.specs.Words.{capacity, item_count, records_at, chart_of, written}
use Rattle.records.proofs.WordLaws.{length_records}
use Rattle.validity.specs.Checking.{holds, known_chart}
use Rattle.steps.specs.Runs.{next_in}
use Rattle.steps.specs.Ready.{Runnable}
use Rattle.charting.specs.Calls.{Called, fit, fit_chart, when_waiting, answer_of, start_answer, start_of, run_of, runs_of, standing_of, Outcome}
use Rattle.charting.specs.Facts.{RunRight, StartChoices, RunChoices}
use Rattle.charting.specs.declared.Unready.TheVariants.{Unfit, TooSmall, Unfinished}
use Rattle.hrg.proofs.Degrees.{and_true as both}
use Rattle.validity.proofs.KnownCharts.{holds_header, holds_most, known_fits}
use Rattle.charting.proofs.Waiting.{none_waits, some_waits, idle_counted}
use Rattle.charting.proofs.Calls.{and_both, start_is, start_not, run_is, run_not, run_chart_is}
use Rattle.charting.proofs.Demand.{runs_right, start_right}

-- ---- question 8
module _ (g h w : List ℕ) (a : Bool) (size : a ≡ holds w) where
  pub fit_size : a ≡ false → false ≡ fit g h w
  unfolding fit
  fit_size n = ap (λ (b : Bool). b && (check_grammar g && check_graph g h)) (sym n ∙ size)

  module _ (b : Bool) (grammar : b ≡ check_grammar g) (y : a ≡ true) where
    pub fit_grammar : b ≡ false → false ≡ fit g h w
    unfolding fit
    fit_grammar n =
        ap (λ (c : Bool). c && check_graph g h) (sym n ∙ grammar)
        ∙ ap (λ (c : Bool). c && (check_grammar g && check_graph g h)) (sym y ∙ size)

    pub fit_graph : (c : Bool) → b ≡ true → c ≡ check_graph g h → c ≡ fit g h w
    unfolding fit
    fit_graph c z q =
        q
        ∙ ap (λ (d : Bool). d && check_graph g h) (sym z ∙ grammar)
        ∙ ap (λ (d : Bool). d && (check_grammar g && check_graph g h)) (sym y ∙ size)

module _ (g h w : List ℕ) (b : Bool) (is : b ≡ fit g h w) (y : b ≡ true) where
  parts : (holds w ≡ true) × (check_grammar g ≡ true) × (check_graph g h ≡ true)
  unfolding fit
  parts = let (s, r) = both (holds w) (check_grammar g && check_graph g h) (sym is ∙ y) in let (t, u) = both (check_grammar g) (check_graph g h) r in (s, t, u)

  pub fit_accepted : Accepted g h
  fit_accepted = record { grammar = parts.1; graph = parts.2 }

  pub fit_header : 2 ≤ length w
  fit_header = holds_header w parts.0

  -- what a run needs, where the chart is known too
  pub fit_runnable : (k : Bool) → k ≡ known_chart (grammar_of g) (graph_of g h) w → k ≡ true → Runnable g h w
  fit_runnable k q z =
      let known = sym q ∙ z in
      record { fits = known_fits (grammar_of g) (graph_of g h) w fit_header known; small = holds_most w parts.0; known = known }

-- ---- start
module _ (g h w : List ℕ) (b : Bool) (is : b ≡ fit g h w) where
  abbrev Started : Outcome → List ℕ → Type 0
  Started a v = (a ≡ (start_of g h w).answer) × (v ≡ (start_of g h w).words) × StartChoices g h w a

  pub start_refuses : b ≡ false → Started (Err Unfit) w
  start_refuses n =
      let q = start_not g h w (sym is ∙ n) in
      (sym (ap (λ (c : Called). c.answer) q), sym (ap (λ (c : Called). c.words) q), record { small = λ e. absurd (omega arith) })

  module _ (y : b ≡ true) (v : List ℕ) (made : v ≡ written w (start_chart (grammar_of g) (capacity w))) (m : ℕ) (mark : m ≡ get_or v 1 0) where
    marked : (start_chart (grammar_of g) (capacity w)).mark ≡ m
    unfolding written
    marked = sym (mark ∙ ap (λ (u : List ℕ). get_or u 1 0) made)

    start_by_is : (a : Outcome) → a ≡ start_answer (start_chart (grammar_of g) (capacity w)) → (a ≡ (start_of g h w).answer → StartChoices g h w a) → Started a v
    start_by_is a e right =
        let q = start_is g h w (sym is ∙ y) in
        let p : a ≡ (start_of g h w).answer = e ∙ sym (ap (λ (c : Called). c.answer) q) in
        (p, made ∙ sym (ap (λ (c : Called). c.words) q), right p)

    pub start_small : (m ≡ 0 → ⊥) → Started (Err TooSmall) v
    unfolding start_answer
    start_small n =
        start_by_is (Err TooSmall) (ap (λ (t : Bool). cond t (Ok 0) (Err TooSmall)) (sym (ne_eqb _ 0 (λ z. n (sym marked ∙ z)))))
        (λ p. record { small = λ e. start_right g h w (sym is ∙ y) (sym p) })

    pub start_done : m ≡ 0 → Started (Ok 0) v
    unfolding start_answer
    start_done z =
        start_by_is (Ok 0) (ap (λ (t : Bool). cond t (Ok 0) (Err TooSmall)) (sym (eq-eqb _ 0 (marked ∙ z)))) (λ p. record { small = λ e. absurd (omega arith) })

-- ---- questions 9 and 10
module _ (w : List ℕ) (m : ℕ) (mark : m ≡ get_or w 1 0) where
  pub outcome_small : (m ≡ 0 → ⊥) → Err TooSmall ≡ answer_of (chart_of w)
  unfolding answer_of chart_of
  outcome_small n = rw (ne_eqb (get_or w 1 0) 0 (λ z. n (mark ∙ z))) refl

  module _ (n d : ℕ) (clear : m ≡ 0) (number : n ≡ item_count w) (steps : d ≡ handled_count (records_at w (item_count w))) where
    abbrev rs : List Record
    rs = records_at w (item_count w)

    length_here : length rs ≡ n
    length_here = length_records w (item_count w) ∙ sym number

    outcome_by : (a : Outcome) → a ≡ when_waiting (handled_count rs) (least_waiting rs (length rs)) → a ≡ answer_of (chart_of w)
    unfolding answer_of chart_of
    outcome_by a e = rw (eq-eqb (get_or w 1 0) 0 (sym mark ∙ clear)) e

    pub outcome_done : d ≡ n → Ok d ≡ answer_of (chart_of w)
    outcome_done e =
        outcome_by (Ok d)
        (ap Ok steps ∙ ap (when_waiting (handled_count rs)) (sym (none_waits rs (sym steps ∙ e ∙ sym length_here))))

    pub outcome_waits : (d ≡ n → ⊥) → Err (Unfinished d) ≡ answer_of (chart_of w)
    outcome_waits f =
        let (j, at) = some_waits rs (λ e. f (steps ∙ e ∙ length_here)) in
        outcome_by (Err (Unfinished d)) (ap (λ k. Err (Unfinished k)) steps ∙ ap (when_waiting (handled_count rs)) (sym at))

  -- where no step is left all are handled
  pub outcome_idle : (n : ℕ) → m ≡ 0 → n ≡ item_count w → next_in (chart_of w) ≡ None → Ok n ≡ answer_of (chart_of w)
  unfolding next_in chart_of
  outcome_idle n clear number idle =
      let rs = records_at w (item_count w) in
      let least : least_waiting rs (length rs) ≡ None = ap (λ (b : Bool). cond b (least_waiting rs (length rs)) None) (sym (eq-eqb (get_or w 1 0) 0 (sym mark ∙ clear))) ∙ idle in
      let all : handled_count rs ≡ n = idle_counted rs least ∙ length_records w (item_count w) ∙ sym number in
      ap Ok (sym all) ∙ outcome_done n (handled_count rs) clear number refl all

-- ---- run
not_by : (g h w : List ℕ) → fit g h w ≡ false → fit_chart g h w ≡ false
unfolding fit_chart
not_by g h w e = ap (λ (b : Bool). b && known_chart (grammar_of g) (graph_of g h) w) e

unknown_by : (g h w : List ℕ) → known_chart (grammar_of g) (graph_of g h) w ≡ false → fit g h w ≡ true → fit_chart g h w ≡ false
unfolding fit_chart
unknown_by g h w n e = ap (λ (b : Bool). b && known_chart (grammar_of g) (graph_of g h) w) e ∙ n

fits_by : (g h w : List ℕ) → fit g h w ≡ true → known_chart (grammar_of g) (graph_of g h) w ≡ true → fit_chart g h w ≡ true
unfolding fit_chart
fits_by g h w e f = and_both (fit g h w) (known_chart (grammar_of g) (graph_of g h) w) e f

module _ (g h w : List ℕ) (k : ℕ) where
  abbrev Ran : Outcome → List ℕ → Type 0
  Ran a v = (a ≡ (run_of g h w k).answer) × (v ≡ (run_of g h w k).words) × RunChoices g h w k a v

  -- what holds of the choices follows from the answer and the words
  choices : (a : Outcome) (v : List ℕ) → a ≡ (run_of g h w k).answer → v ≡ (run_of g h w k).words → RunChoices g h w k a v
  choices a v p q = record { right = λ former ks e is. from former ks e is }
    where
      from : (former ks : List ℕ) → fit g h former ≡ true → w ≡ runs_of g h (start_of g h former).words ks → RunRight (grammar_of g) (graph_of g h) (capacity former) (sum_of ks + k) a (chart_of v)
      from former ks e is =
          let u = runs_of g h (start_of g h former).words ks in
          let p' : (run_of g h u k).answer ≡ a = sym (p ∙ ap (λ (t : List ℕ). (run_of g h t k).answer) is) in
          let q' : (run_of g h u k).words ≡ v = sym (q ∙ ap (λ (t : List ℕ). (run_of g h t k).words) is) in
          subst (λ (b : Outcome). RunRight (grammar_of g) (graph_of g h) (capacity former) (sum_of ks + k) b (chart_of v)) p'
          (subst (λ (t : List ℕ). RunRight (grammar_of g) (graph_of g h) (capacity former) (sum_of ks + k) (run_of g h u k).answer (chart_of t)) q' (runs_right g h former e ks k))

  whole : (a : Outcome) (v : List ℕ) → a ≡ (run_of g h w k).answer → v ≡ (run_of g h w k).words → Ran a v
  whole a v p q = (p, q, choices a v p q)

  unfit : fit_chart g h w ≡ false → Ran (Err Unfit) w
  unfit n = let q = run_not g h w k n in whole (Err Unfit) w (sym (ap (λ (c : Called). c.answer) q)) (sym (ap (λ (c : Called). c.words) q))

  module _ (b : Bool) (is : b ≡ fit g h w) where
    pub run_refuses : b ≡ false → Ran (Err Unfit) w
    run_refuses n = unfit (not_by g h w (sym is ∙ n))

    module _ (y : b ≡ true) (c : Bool) (known : c ≡ known_chart (grammar_of g) (graph_of g h) w) where
      pub run_unknown : c ≡ false → Ran (Err Unfit) w
      run_unknown n = unfit (unknown_by g h w (sym known ∙ n) (sym is ∙ y))

      pub run_ran : (a : Outcome) (v : List ℕ) → c ≡ true → v ≡ written w (run_chart (grammar_of g) (graph_of g h) (capacity w) k (chart_of w)) → a ≡ answer_of (chart_of v) → Ran a v
      run_ran a v z made e =
          let fits : fit_chart g h w ≡ true = fits_by g h w (sym is ∙ y) (sym known ∙ z) in
          let q = run_is g h w k fits in
          let words : v ≡ (run_of g h w k).words = made ∙ sym (ap (λ (d : Called). d.words) q) in
          whole a v (e ∙ ap (λ (u : List ℕ). answer_of (chart_of u)) words ∙ ap answer_of (run_chart_is g h w fits k) ∙ sym (ap (λ (d : Called). d.answer) q)) words

-- ---- standing
module _ (g h w : List ℕ) (b : Bool) (is : b ≡ fit g h w) where
  unfit_standing : fit_chart g h w ≡ false → Err Unfit ≡ standing_of g h w
  unfolding standing_of
  unfit_standing n = rw n

  pub standing_refuses : b ≡ false → Err Unfit ≡ standing_of g h w
  standing_refuses n = unfit_standing (not_by g h w (sym is ∙ n))

  module _ (y : b ≡ true) (c : Bool) (known : c ≡ known_chart (grammar_of g) (graph_of g h) w) where
    pub standing_unknown : c ≡ false → Err Unfit ≡ standing_of g h w
    standing_unknown n = unfit_standing (unknown_by g h w (sym known ∙ n) (sym is ∙ y))

    pub standing_is : (a : Outcome) → c ≡ true → a ≡ answer_of (chart_of w) → a ≡ standing_of g h w
    unfolding standing_of
    standing_is a z e = rw (fits_by g h w (sym is ∙ y) (sym known ∙ z)) e
