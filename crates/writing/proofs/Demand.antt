-- Demand 3: one theorem over any list of calls after a start that passes question 8.
use Rattle.std.specs.Prelude.{Option, Some, None, Ok, Err}
use mathlib.Core.Path.{◌≡◌, refl, sym, ap, ◌∙◌, subst}
use mathlib.Core.Logic.{◌≢◌, ◌↔◌}
use mathlib.Core.Bool.{true, false}
use mathlib.Core.List.{List, [], ◌∷◌, ◌++◌}
use Prim.Native.Nat.{ℕ, ◌+◌, ◌≤◌, ◌<◌}
use native.Mathlib.Decide.{dec_le}
use native.Mathlib.Omega.{arith}
use lib.ListN.{length, drop}
use Rattle.hrg.specs.Grammars.{Graph, Grammar}
use Rattle.hrg.specs.Trees.{Tree, Generates}
use Rattle.hrg.specs.WellFormed.{GrammarOk, GraphOk}
use Rattle.hrg.proofs.ClosureAgenda.{closure_finite}
use Rattle.agenda.specs.Consequences.{record_in}
use Rattle.agenda.specs.Steps.{Chart, least_waiting, start_chart, runs_chart, handled_count, sum_of}
use Rattle.agenda.specs.declared.Record.{Record}
use Rattle.agenda.proofs.Choice.{Chosen, waits, nothing, chosen}
use Rattle.agenda.proofs.RunFacts.{runs_correct, marked_small, done_size}
use Rattle.questions.specs.Abstract.{grammar_of, graph_of}
use Rattle.records.specs.Words.{capacity, item_count, record_at, chart_of}
use Rattle.records.proofs.WordLaws.{length_records, record_in_lem}
use Rattle.charting.specs.Calls.{fit, when_waiting, answer_of, start_of, run_of, runs_of, standing_of}
use Rattle.charting.specs.declared.Unready.TheVariants.{TooSmall as TooSmallChart, Unfinished as UnfinishedChart}
use Rattle.charting.proofs.Answers.{answer_marked, answer_waiting}
use Rattle.charting.proofs.Calls.{fit_grammar, fit_graph, fit_most}
use Rattle.charting.proofs.Demand.{runs_known, runs_chart_lem}
use Rattle.preorder.specs.Rows.{size}
use Rattle.derivation.specs.Derivations.{derivation_text}
use Rattle.writing.specs.Writing.{number_of, Wrote, refused, goal_in, write_goal, write_of}
use Rattle.writing.specs.Filling.{records_of, chooses, chosen_goal, chosen_of, Filled, unfilled, fill_of}
use Rattle.writing.specs.Demand.{Call, run, write, fill, after_calls, steps_given, AllHandled, SomeLeft, FewestTree, WritesTree, FillsTree, CallsRight}
use Rattle.writing.specs.declared.Application.{Application}
use Rattle.writing.specs.declared.WriteError.TheVariants.{TooSmall, Unfinished, Underivable}
use Rattle.writing.proofs.Writings.{write_by_is}
use Rattle.writing.proofs.Filling.{records_held, records_short, records_size, chosen_by_is, fill_refuses, chosen_records}
use Rattle.writing.proofs.OwnCharts.{Writes, no_tree, a_tree, goal_writes}

-- ---- a list of calls is its runs
unfoldable pub runs_in : List Call → List ℕ
runs_in [] = []
runs_in (run k ∷ cs) = k ∷ runs_in cs
runs_in (write out ∷ cs) = runs_in cs
runs_in (fill former ∷ cs) = runs_in cs

-- a writing changes nothing in the chart
pub calls_runs : (g h w : List ℕ) (cs : List Call) → after_calls g h w cs ≡ runs_of g h w (runs_in cs)
unfolding after_calls runs_of runs_in
calls_runs g h w [] = refl
calls_runs g h w (run k ∷ cs) = calls_runs g h (run_of g h w k).words cs
calls_runs g h w (write out ∷ cs) = calls_runs g h w cs
calls_runs g h w (fill former ∷ cs) = calls_runs g h w cs

pub given_sum : (cs : List Call) → steps_given cs ≡ sum_of (runs_in cs)
unfolding steps_given sum_of runs_in
given_sum [] = refl
given_sum (run k ∷ cs) = ap (λ (n : ℕ). k + n) (given_sum cs)
given_sum (write out ∷ cs) = given_sum cs
given_sum (fill former ∷ cs) = given_sum cs

-- ---- what is left
pub nothing_left : (rs : List Record) → AllHandled rs → least_waiting rs (length rs) ≡ None
nothing_left rs all = go (least_waiting rs (length rs)) (chosen rs (length rs))
  where
    go : (f : Option ℕ) → Chosen rs (length rs) f → f ≡ None
    go None (nothing h) = refl
    go (Some j) (waits l w h) = let z : true ≡ false = sym (all j l) ∙ w in absurd (let y : ◌≡◌ {A = ℕ} 0 1 = cc in omega (arith, y))

pub record Waits (rs : List Record) : Type 0 where
  pub at : ℕ
  pub found : least_waiting rs (length rs) ≡ Some at

pub some_left : (rs : List Record) → SomeLeft rs → Waits rs
some_left rs s = go (least_waiting rs (length rs)) refl (chosen rs (length rs))
  where
    go : (f : Option ℕ) → least_waiting rs (length rs) ≡ f → Chosen rs (length rs) f → Waits rs
    go None e (nothing h) = let z : true ≡ false = sym (h s.at s.known) ∙ s.waits in absurd (let y : ◌≡◌ {A = ℕ} 0 1 = cc in omega (arith, y))
    go (Some j) e (waits l w h) = record { at = j; found = e }

-- ---- from a start on, with the runs ks
module _ (g h w : List ℕ) (e : fit g h w ≡ true) (ks : List ℕ) where
  abbrev G : Grammar
  G = grammar_of g

  abbrev H : Graph
  H = graph_of g h

  abbrev v : List ℕ
  v = runs_of g h (start_of g h w).words ks

  abbrev c : Chart
  c = chart_of (runs_of g h (start_of g h w).words ks)

  abbrev ok : GrammarOk (grammar_of g)
  ok = fit_grammar g h w e

  abbrev good : GraphOk (grammar_of g) (graph_of g h)
  good = fit_graph g h w e

  abbrev most : capacity w ≤ 4096
  most = fit_most g h w e

  is : chart_of (runs_of g h (start_of g h w).words ks) ≡ runs_chart (grammar_of g) (graph_of g h) (capacity w) ks (start_chart (grammar_of g) (capacity w))
  is = runs_chart_lem g h w e ks

  stands : standing_of g h (runs_of g h (start_of g h w).words ks) ≡ answer_of (chart_of (runs_of g h (start_of g h w).words ks))
  unfolding standing_of
  stands = rw (runs_known g h w e ks)

  look_same : (j : ℕ) → j < length c.records → record_at v j ≡ record_in c.records j
  unfolding chart_of
  look_same j l = sym (record_in_lem v (item_count v) j (omega (arith, l, length_records v (item_count v))))

  module _ (fits : c.mark ≡ 0) (all : AllHandled c.records) where
    stands_done : standing_of g h v ≡ Ok (handled_count c.records)
    stands_done = stands ∙ answer_waiting c fits ∙ ap (when_waiting (handled_count c.records)) (nothing_left c.records all)

    -- the search for the goal decides
    searches : (out : List ℕ) → write_of g h v out ≡ write_goal G H (λ j. record_at v j) out (goal_in G H c.records)
    searches out = write_by_is g h v out (Ok (handled_count c.records)) stands_done

    outcome : Writes G H ok good (capacity w) most ks c is fits (nothing_left c.records all) (λ j. record_at v j) look_same (goal_in G H c.records)
    outcome = goal_writes G H ok good (capacity w) most ks c is fits (nothing_left c.records all) (λ j. record_at v j) look_same

    -- a tree that is written is no refusal
    not_refused : (t : Tree) (out : List ℕ) (x : Wrote) → WritesTree t out x → x ≡ refused (Err Underivable) out → ⊥
    not_refused t out x wr q = go (dec_le (length (derivation_text t)) (length out))
      where
        go : Dec (length (derivation_text t) ≤ length out) → ⊥
        go (yes l) = let z : ◌≡◌ {A = ℕ} 0 11 = ap (λ (y : Wrote). number_of y.answer) (sym (wr.held l) ∙ q) in omega (arith, z)
        go (no n) = let z : ◌≡◌ {A = ℕ} 12 11 = ap (λ (y : Wrote). number_of y.answer) (sym (wr.short (omega arith)) ∙ q) in omega (arith, z)

    pub write_underivable : (out : List ℕ) → (write_of g h v out ≡ refused (Err Underivable) out) ↔ ((t : Tree) → Generates G H t → ⊥)
    write_underivable out = (λ q. left outcome q, λ none. right outcome none)
      where
        left : Writes G H ok good (capacity w) most ks c is fits (nothing_left c.records all) (λ j. record_at v j) look_same (goal_in G H c.records) → write_of g h v out ≡ refused (Err Underivable) out
            → (t : Tree) → Generates G H t → ⊥
        left (no_tree none f) q = none
        left (a_tree t few wr l ch) q = absurd (not_refused t out _ (wr out) (sym (searches out) ∙ q))

        right : Writes G H ok good (capacity w) most ks c is fits (nothing_left c.records all) (λ j. record_at v j) look_same (goal_in G H c.records) → ((t : Tree) → Generates G H t → ⊥)
            → write_of g h v out ≡ refused (Err Underivable) out
        right (no_tree none f) n = searches out ∙ ap (write_goal G H (λ j. record_at v j) out) f
        right (a_tree t few wr l ch) n = absurd (n t few.generates)

    -- the same of a row
    chosen_is : chosen_of g h v ≡ chosen_goal G H (λ j. record_at v j) (goal_in G H c.records)
    chosen_is = chosen_by_is g h v (Ok (handled_count c.records)) stands_done

    tree_fills : (t : Tree) → Generates G H t → size t ≤ 4096 → chosen_goal G H (λ j. record_at v j) (goal_in G H c.records) ≡ chooses (derivation_text t)
        → (former : List Application) → FillsTree t former (fill_of g h v former)
    unfolding records_of
    tree_fills t gen l ch former =
        let q = chosen_records g h v t gen l (chosen_is ∙ ch) former in
        let n = records_size 0 t in
        record {
          held = λ k. q ∙ records_held (records_of t) former (omega (arith, n, k)) ∙ ap (λ (m : ℕ). record { answer = Ok m; rows = records_of t ++ drop m former }) n;
          short = λ k. q ∙ records_short (records_of t) former (omega (arith, n, k));
        }

    row_not_refused : (t : Tree) (former : List Application) (x : Filled) → FillsTree t former x → x ≡ unfilled (Err Underivable) former → ⊥
    row_not_refused t former x fl q = go (dec_le (size t) (length former))
      where
        go : Dec (size t ≤ length former) → ⊥
        go (yes l) = let z : ◌≡◌ {A = ℕ} 0 11 = ap (λ (y : Filled). number_of y.answer) (sym (fl.held l) ∙ q) in omega (arith, z)
        go (no n) = let z : ◌≡◌ {A = ℕ} 12 11 = ap (λ (y : Filled). number_of y.answer) (sym (fl.short (omega arith)) ∙ q) in omega (arith, z)

    abbrev Outcomes : Type 0
    Outcomes = Writes G H ok good (capacity w) most ks c is fits (nothing_left c.records all) (λ j. record_at v j) look_same (goal_in G H c.records)

    pub fill_underivable : (former : List Application) → (fill_of g h v former ≡ unfilled (Err Underivable) former) ↔ ((t : Tree) → Generates G H t → ⊥)
    fill_underivable former = (λ q. left outcome q, λ none. right outcome none)
      where
        left : Outcomes → fill_of g h v former ≡ unfilled (Err Underivable) former → (t : Tree) → Generates G H t → ⊥
        left (no_tree none f) q = none
        left (a_tree t few wr l ch) q = absurd (row_not_refused t former _ (tree_fills t few.generates l ch former) q)

        right : Outcomes → ((t : Tree) → Generates G H t → ⊥) → fill_of g h v former ≡ unfilled (Err Underivable) former
        right (no_tree none f) n = fill_refuses g h v former (Err Underivable) (chosen_is ∙ ap (chosen_goal G H (λ j. record_at v j)) f)
        right (a_tree t few wr l ch) n = absurd (n t few.generates)

    -- one tree, as text and as records
    pub write_fewest : (u : Tree) → Generates G H u
        → (t : Tree) × FewestTree G H t × ((out : List ℕ) → WritesTree t out (write_of g h v out)) × ((former : List Application) → FillsTree t former (fill_of g h v former))
    write_fewest u gen = go outcome
      where
        go : Outcomes → (t : Tree) × FewestTree G H t × ((out : List ℕ) → WritesTree t out (write_of g h v out)) × ((former : List Application) → FillsTree t former (fill_of g h v former))
        go (no_tree none f) = absurd (none u gen)
        go (a_tree t few wr l ch) = (t, few, λ out. subst (λ (x : Wrote). WritesTree t out x) (sym (searches out)) (wr out), tree_fills t few.generates l ch)

  stands_small : c.mark ≢ 0 → standing_of g h v ≡ Err TooSmallChart
  stands_small m = stands ∙ answer_marked c m

  stands_waiting : c.mark ≡ 0 → SomeLeft c.records → standing_of g h v ≡ Err (UnfinishedChart (handled_count c.records))
  stands_waiting m s = stands ∙ answer_waiting c m ∙ ap (when_waiting (handled_count c.records)) (some_left c.records s).found

  runs_calls : CallsRight g h (capacity w) (sum_of ks) (runs_of g h (start_of g h w).words ks)
  runs_calls =
      let z = closure_finite G H ok good in
      record {
        size = length z.0;
        sized = record { items = z.0; closed = z.1; number = refl };
        small = λ m. marked_small G H ok good (capacity w) most ks c is m z.0 z.1;
        right = runs_correct G H ok good (capacity w) most ks c is;
        steps = λ m. (runs_correct G H ok good (capacity w) most ks c is m).steps z.0 z.1;
        done = λ m all. done_size G H ok good (capacity w) most ks c is m (nothing_left c.records all) z.0 z.1;
        underivable = write_underivable;
        underivable_row = fill_underivable;
        writes = write_fewest;
        nine = λ m out. write_by_is g h v out (Err TooSmallChart) (stands_small m);
        nine_row = λ m former. fill_refuses g h v former (Err TooSmall) (chosen_by_is g h v (Err TooSmallChart) (stands_small m));
        ten = λ m s out. write_by_is g h v out (Err (UnfinishedChart (handled_count c.records))) (stands_waiting m s);
        ten_row = λ m s former. fill_refuses g h v former (Err (Unfinished (handled_count c.records))) (chosen_by_is g h v (Err (UnfinishedChart (handled_count c.records))) (stands_waiting m s));
      }

-- Demand 3: after a start that passes question 8 and any list of runs and writings, as text or as records.
pub demand_3 : (g h w : List ℕ) → fit g h w ≡ true → (cs : List Call) → CallsRight g h (capacity w) (steps_given cs) (after_calls g h (start_of g h w).words cs)
demand_3 g h w e cs =
    subst (λ (v : List ℕ). CallsRight g h (capacity w) (steps_given cs) v) (sym (calls_runs g h (start_of g h w).words cs))
    (subst (λ (k : ℕ). CallsRight g h (capacity w) k (runs_of g h (start_of g h w).words (runs_in cs))) (sym (given_sum cs)) (runs_calls g h w e (runs_in cs)))
