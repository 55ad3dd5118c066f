-- `derive` on tables that pass question 8: each of its answers means what 01 says.
use Rattle.std.specs.Prelude.{None, Ok, Err}
use mathlib.Core.Path.{◌≡◌, refl, sym, ap, ◌∙◌, subst}
use mathlib.Core.Bool.{Bool, true, false, cond}
use mathlib.Core.List.{List, [], ◌∷◌, ◌++◌}
use Prim.Native.Nat.{ℕ, ◌+◌, ◌≤◌, ◌<◌}
use native.Mathlib.Decide.{dec_le}
use native.Mathlib.Omega.{arith}
use lib.ListN.{length, take, drop, replicate, length-replicate}
use lib.Seq.{take_at}
use lib.Dec.{eqb}
use Rattle.hrg.specs.Grammars.{Graph, Grammar}
use Rattle.hrg.specs.Items.{Item, closure}
use Rattle.hrg.specs.Agenda.{Closure}
use Rattle.hrg.proofs.ClosureAgenda.{closure_finite}
use Rattle.agenda.specs.Consequences.{record_in}
use Rattle.agenda.specs.Steps.{Chart, least_waiting, start_chart, runs_chart, sum_of}
use Rattle.questions.specs.Abstract.{grammar_of, graph_of}
use Rattle.records.specs.Words.{capacity, item_count, record_at, chart_of}
use Rattle.records.proofs.WordLaws.{length_records, record_in_lem}
use Rattle.charting.specs.Calls.{number_of, steps_of, Called, fit, fit_chart, answer_of, start_answer, start_of, run_of, runs_of, standing_of, Outcome}
use Rattle.charting.specs.Facts.{RunRight}
use Rattle.charting.specs.declared.Unready.TheVariants.{Unfit as UnfitChart, TooSmall as TooSmallChart, Unfinished as UnfinishedChart}
use Rattle.charting.proofs.Answers.{answer_done}
use Rattle.charting.proofs.Calls.{fit_grammar, fit_graph, fit_most, after_start, start_is, start_eight, run_is, run_chart_is}
use Rattle.charting.proofs.Demand.{start_fit, runs_known, runs_chart_lem, runs_right, start_right}
use Rattle.derivation.specs.Derivations.{derivation_text, replay_text}
use Rattle.writing.specs.Writing.{Wrote, goal_in, write_goal, write_of, refused as refused_writing}
use Rattle.writing.specs.Demand.{ClosureSize}
use Rattle.writing.specs.declared.WriteError.TheVariants.{Underivable, NoRoom}
use Rattle.writing.proofs.Writings.{write_by_is}
use Rattle.writing.proofs.Derivations.{written_passes}
use Rattle.writing.proofs.OwnCharts.{Writes, no_tree, a_tree, goal_writes}
use Rattle.programs.specs.Programs.{Derived, refused, derived, items, chart_words, output_bytes, when_written, write_chart, when_ran, derive_tables}
use Rattle.programs.specs.Facts.{Deriving, derives, small, underivable, long}

-- ---- the writing, after a run of k steps from a start on the words w
module _ (g h w : List ℕ) (e : fit g h w ≡ true) (k : ℕ) where
  abbrev G : Grammar
  G = grammar_of g

  abbrev H : Graph
  H = graph_of g h

  abbrev v : List ℕ
  v = (run_of g h (start_of g h w).words k).words

  abbrev c : Chart
  c = chart_of (run_of g h (start_of g h w).words k).words

  known : fit_chart g h v ≡ true
  unfolding runs_of
  known = runs_known g h w e (k ∷ [])

  is : c ≡ runs_chart (grammar_of g) (graph_of g h) (capacity w) (k ∷ []) (start_chart (grammar_of g) (capacity w))
  unfolding runs_of
  is = runs_chart_lem g h w e (k ∷ [])

  look_same : (j : ℕ) → j < length c.records → record_at v j ≡ record_in c.records j
  unfolding chart_of
  look_same j l = sym (record_in_lem v (item_count v) j (omega (arith, l, length_records v (item_count v))))

  module _ (steps : ℕ) (ran : (run_of g h (start_of g h w).words k).answer ≡ Ok steps) (sized : ClosureSize (grammar_of g) (graph_of g h) steps) (most : steps ≤ items) where
    answers : answer_of c ≡ Ok steps
    answers =
        ap answer_of (run_chart_is g h (start_of g h w).words (start_fit g h w e) k)
        ∙ sym (ap (λ (d : Called). d.answer) (run_is g h (start_of g h w).words k (start_fit g h w e)))
        ∙ ran

    done : (c.mark ≡ 0) × (least_waiting c.records (length c.records) ≡ None)
    done = answer_done c (ap number_of answers)

    searches : (out : List ℕ) → write_of g h v out ≡ write_goal G H (λ j. record_at v j) out (goal_in G H c.records)
    unfolding standing_of
    searches out = write_by_is g h v out (Ok steps) (rw known answers)

    abbrev out : List ℕ
    out = replicate output_bytes 0

    by_writing : (x : Wrote) → write_of g h v out ≡ x → write_chart g h v steps ≡ when_written x.answer x.out steps
    unfolding write_chart
    by_writing x q = ap (λ (y : Wrote). when_written y.answer y.out steps) q

    means : (d : Derived) → write_chart g h v steps ≡ d → Deriving g h d → Deriving g h (write_chart g h v steps)
    means d q x = subst (Deriving g h) (sym q) x

    writes_tree : Writes G H (fit_grammar g h w e) (fit_graph g h w e) (capacity w) (fit_most g h w e) (k ∷ []) c is done.0 done.1 (λ j. record_at v j) look_same (goal_in G H c.records)
        → Deriving g h (write_chart g h v steps)
    writes_tree (no_tree none f) = means (refused 11) (by_writing (refused_writing (Err Underivable) out) (searches out ∙ ap (write_goal G H (λ j. record_at v j) out) f)) (underivable none)
    writes_tree (a_tree t few wr l ch) = go (dec_le (length (derivation_text t)) (length out))
      where
        go : Dec (length (derivation_text t) ≤ length out) → Deriving g h (write_chart g h v steps)
        go (yes l) =
            let x : Wrote = record { answer = Ok (length (derivation_text t)); out = derivation_text t ++ drop (length (derivation_text t)) out } in
            let wrote : write_of g h v out ≡ x = searches out ∙ (wr out).held l in
            let front : take (length (derivation_text t)) x.out ≡ derivation_text t = take_at (derivation_text t) (drop (length (derivation_text t)) out) (length (derivation_text t)) refl in
            let text : take (length (derivation_text t)) (write_of g h v out).out ≡ derivation_text t = ap (λ (y : Wrote). take (length (derivation_text t)) y.out) wrote ∙ front in
            let passes : replay_text G H (derivation_text t) ≡ true =
            ap (replay_text G H) (sym text) ∙ written_passes g h v out (length (derivation_text t)) (ap (λ (y : Wrote). y.answer) wrote)
            in
            means (derived (derivation_text t) steps)
            (by_writing x wrote ∙ ap (λ (y : List ℕ). derived y steps) front)
            (derives t steps few passes (omega (arith, length-replicate {A = ℕ} output_bytes 0)) sized most)
        go (no n) =
            means (refused 12) (by_writing (refused_writing (Err NoRoom) out) (searches out ∙ (wr out).short (omega arith))) (long t few (omega (arith, length-replicate {A = ℕ} output_bytes 0)))

    pub chart_deriving : Deriving g h (write_chart g h v steps)
    chart_deriving = writes_tree (goal_writes G H (fit_grammar g h w e) (fit_graph g h w e) (capacity w) (fit_most g h w e) (k ∷ []) c is done.0 done.1 (λ j. record_at v j) look_same)

-- ---- the start and the run
start_done_or_nine : (c : Chart) → number_of (start_answer c) ≡ 10 → ⊥
unfolding start_answer
start_done_or_nine c = go (eqb c.mark 0)
  where
    go : (b : Bool) → number_of (cond b (Ok 0) (Err TooSmallChart)) ≡ 10 → ⊥
    go true q = omega arith
    go false q = omega arith

module _ (g h : List ℕ) (e : fit g h (replicate chart_words 0) ≡ true) where
  abbrev w : List ℕ
  w = replicate chart_words 0

  holds_items : capacity w ≡ items
  unfolding capacity
  holds_items = refl

  finite : (is : List Item) × Closure (closure (grammar_of g) (graph_of g h)) is
  finite = closure_finite (grammar_of g) (graph_of g h) (fit_grammar g h w e) (fit_graph g h w e)

  sized : ClosureSize (grammar_of g) (graph_of g h) (length finite.0)
  sized = record { items = finite.0; closed = finite.1; number = refl }

  too_small : capacity w < length finite.0 → Deriving g h (refused 9)
  too_small l = small (length finite.0) sized (omega (arith, holds_items, l))

  run_right : RunRight (grammar_of g) (graph_of g h) (capacity w) (0 + items) (run_of g h (start_of g h w).words items).answer (chart_of (run_of g h (start_of g h w).words items).words)
  unfolding runs_of sum_of
  run_right = runs_right g h w e [] items

  ran : (a : Outcome) → (run_of g h (start_of g h w).words items).answer ≡ a → Deriving g h (when_ran a (λ steps. write_chart g h (run_of g h (start_of g h w).words items).words steps))
  ran (Err UnfitChart) q = absurd (run_right.fit (ap number_of q))
  ran (Err TooSmallChart) q = too_small (run_right.small (ap number_of q) finite.0 finite.1)
  ran (Err (UnfinishedChart k)) q = absurd (run_right.never (omega (arith, holds_items)) (ap number_of q))
  ran (Ok k) q =
      let all : k ≡ length finite.0 = sym (ap steps_of q) ∙ run_right.done (ap number_of q) finite.0 finite.1 in
      let fits : number_of (run_of g h (start_of g h w).words items).answer ≡ 9 → ⊥ = λ z. let y : ◌≡◌ {A = ℕ} 0 9 = sym (ap number_of q) ∙ z in omega (arith, y) in
      chart_deriving g h w e items k q (subst (ClosureSize (grammar_of g) (graph_of g h)) (sym all) sized) (omega (arith, run_right.most, run_right.steps fits, ap steps_of q))

  abbrev next : Derived
  next = when_ran (run_of g h (start_of g h w).words items).answer (λ steps. write_chart g h (run_of g h (start_of g h w).words items).words steps)

  -- every answer of `derive` on such tables
  pub tables_deriving : Deriving g h (derive_tables g h)
  unfolding derive_tables
  tables_deriving = go (start_of g h w).answer refl
    where
      go : (a : Outcome) → (start_of g h w).answer ≡ a → Deriving g h (cond (eqb (number_of a) 0) next (refused (number_of a)))
      go (Err UnfitChart) q = absurd (let z : true ≡ false = sym e ∙ (start_eight g h w).0 (ap number_of q) in let y : ◌≡◌ {A = ℕ} 0 1 = cc in omega (arith, y))
      go (Err TooSmallChart) q = too_small (start_right g h w e q finite.0 finite.1)
      go (Err (UnfinishedChart k)) q = absurd (start_done_or_nine (after_start g w) (ap number_of (sym (ap (λ (d : Called). d.answer) (start_is g h w e)) ∙ q)))
      go (Ok k) q = ran (run_of g h (start_of g h w).words items).answer refl
