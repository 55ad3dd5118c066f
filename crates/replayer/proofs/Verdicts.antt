-- The replay from the start, what is whole at its end, and the answer.
use Rattle.std.specs.Prelude.{Some, None, Ok, Err}
use mathlib.Core.Path.{◌≡◌, refl, sym, ap, ap₂, subst, ◌∙◌}
use mathlib.Core.Logic.{◌↔◌}
use mathlib.Core.Bool.{Bool, true, false, true≢false, cond, ◌&&◌}
use mathlib.Core.List.{List, []}
use Prim.Native.Nat.{ℕ, zero, suc, ◌≤◌, ◌<◌}
use native.Mathlib.Omega.{arith}
use lib.ListN.{length, get_or, take}
use lib.Dec.{eqb}
use borrow.Author.Tests.{le-leb}
use Rattle.masks.specs.Masks.{full}
use Rattle.format.specs.Lines.{after_line}
use Rattle.scripts.specs.Scripts.{Script, bad, rows, rows_in}
use Rattle.hrg.specs.Counts.{occurs, tabulate}
use Rattle.hrg.specs.Grammars.{Graph, Grammar, rank_of}
use Rattle.hrg.specs.Trees.{at}
use Rattle.hrg.specs.WellFormedTest.{Decides}
use Rattle.hrg.proofs.Degrees.{test_T, T_test, and_true}
use Rattle.hrg.proofs.Sums.{length_tabulate, at_tabulate, occurs_at}
use Rattle.questions.specs.Layout.{start_symbol, rank_at, graph_nodes, graph_edges, graph_external}
use Rattle.questions.specs.Checking.{check_grammar, check_graph}
use Rattle.questions.specs.Abstract.{grammar_of, graph_of}
use Rattle.questions.proofs.WellFormedLent.{checked_grammar_ok, checked_graph_ok}
use Rattle.questions.proofs.WellFormedAccepted.{symbols_length, start_is, rank_is}
use Rattle.joins.specs.Joins.{Accepted}
use Rattle.joins.proofs.Known.{graph_size, graph_nodes_lem, graph_ok, graph_nodes_few}
use Rattle.preorder.specs.Replay.{State, reached, failed, replay_at, whole, calls, replayed, replays}
use Rattle.derivation.specs.Derivations.{replay_text, DerivationOf}
use Rattle.derivation.proofs.Derivations.{replay_text_is, replay_bad, replay_rows}
use Rattle.replayer.specs.Verdicts.{Verdict, number_of, fit_tables, replay_of, Exact}
use Rattle.replayer.specs.declared.ReplayError.TheVariants.{Unfit, NoDerivation}
use Rattle.std.proofs.lemmas.Option.{none-some}
use Rattle.replayer.specs.Fitting.{count_in, with_all}
use Rattle.replayer.specs.Following.{text_rows, RowsAt, Progress, progress_of, Marks, Reaches, Stands, Applied}
use Rattle.questions.proofs.StoredLaws.{take_tabulate}
use Rattle.replayer.proofs.MaskTests.{marks_none, marks_append, marks_all}
use Rattle.replayer.proofs.PlacedRows.{text_count, text_some, text_few, place_start}

-- ---- from the start
four_at : (f : ℕ → ℕ) (k : ℕ) → k < 4 → get_or (tabulate 4 f) k 0 ≡ f k
unfolding tabulate
four_at f zero h = refl
four_at f (suc zero) h = refl
four_at f (suc (suc zero)) h = refl
four_at f (suc (suc (suc zero))) h = refl
four_at f (suc (suc (suc (suc k)))) h = absurd (omega arith)

module _ (g h : List ℕ) (ok : Accepted g h) (s : ℕ) (e : s ≡ start_symbol g) (x : ℕ) (q : x ≡ rank_at g s) where
  rank_start : x ≡ rank_at g (start_symbol g)
  rank_start = q ∙ ap (rank_at g) e

  rank_read : rank_of (grammar_of g) s ≡ x
  rank_read = rank_is g s (omega (arith, e, start_is g, symbols_length g, (checked_grammar_ok g ok.grammar).start_known)) ∙ sym q

  externals_are : tabulate x (λ k. graph_external h k) ≡ (graph_of g h).externals
  unfolding graph_of
  externals_are = ap (λ (n : ℕ). tabulate n (λ k. graph_external h k)) rank_start

  externals_inside : (v : ℕ) → 0 < occurs v (graph_of g h).externals → v < (graph_of g h).nodes
  externals_inside = (graph_ok g h ok).side.externals.inside

  module _ (listed : List ℕ) (l : listed ≡ tabulate 4 (λ k. graph_external h k)) (few : x ≤ 4) where
    externals_take : take x listed ≡ (graph_of g h).externals
    externals_take = ap (take x) l ∙ take_tabulate x 4 (λ k. graph_external h k) few ∙ externals_are

    pub externals_small : (k : ℕ) → k < x → get_or listed k 0 < 64
    externals_small k i =
        let read : get_or listed k 0 ≡ at (graph_of g h).externals k =
        ap (λ (m : List ℕ). get_or m k 0) l ∙ four_at (λ j. graph_external h j) k (omega arith) ∙ sym (at_tabulate x (λ j. graph_external h j) k i)
        ∙ ap (λ (m : List ℕ). at m k) externals_are in
        omega (
          arith,
          read,
          externals_inside (at (graph_of g h).externals k)
              (occurs_at (graph_of g h).externals k (omega (arith, sym (ap length externals_are), length_tabulate x (λ j. graph_external h j)))),
          graph_nodes_lem g h,
          graph_nodes_few g h ok,
        )

    module _ (text : List ℕ) (place m : ℕ) (w : m ≡ with_all 0 (take x listed)) (p r : Progress)
        (d : p ≡ record { ok = true; next = 0; at = place; edges = 0; nodes = m })
        (a : Applied (grammar_of g) (graph_of g h) text s (take (rank_of (grammar_of g) s) listed) p r) where
      start_nodes : Marks (graph_of g h).nodes m (graph_of g h).externals
      start_nodes =
          subst (λ (y : ℕ). Marks (graph_of g h).nodes y (graph_of g h).externals) (sym (w ∙ ap (with_all 0) externals_take))
          (marks_append (graph_of g h).nodes 0 [] (graph_of g h).externals externals_inside (marks_none (graph_of g h).nodes))

      start_reaches : Reaches (graph_of g h) p p.next [] (graph_of g h).externals
      start_reaches =
          subst (λ (x : Progress). Reaches (graph_of g h) x x.next [] (graph_of g h).externals) (sym d)
          (record {
            passing = refl;
            row = refl;
            used_edges = marks_none (length (graph_of g h).edges);
            used_nodes = start_nodes;
          })

      -- the definition from a row on, for an edge y on the nodes L, with its number of calls
      abbrev from : ℕ → List ℕ → ℕ → State
      from y L k =
          let R = text_rows text in
          let nodes = (graph_of g h).externals in
          replay_at (calls R) (grammar_of g) (graph_of g h) R y L (reached k [] nodes)

      -- its number of calls is what is left at the start
      pub start_stands : Stands (graph_of g h) r (replayed (grammar_of g) (graph_of g h) (text_rows text))
      unfolding replayed
      start_stands =
          let begun : p.next ≡ 0 = ap (λ (x : Progress). x.next) d in
          let listed_are = ap (λ (k : ℕ). take k listed) rank_read ∙ externals_take in
          subst (Stands (graph_of g h) r)
          (ap (λ (k : ℕ). from s (take (rank_of (grammar_of g) s) listed) k) begun
          ∙ ap₂ (λ (y : ℕ) (L : List ℕ). from y L 0) (e ∙ sym (start_is g)) listed_are)
          (a.stands (calls (text_rows text)) (omega arith) [] (graph_of g h).externals start_reaches)

-- a replay that failed, whatever else is said of it
pub stands_failed : (H : Graph) (p : Progress) (st : State) → p.ok ≡ false → Stands H p st → Stands H (progress_of None) st
stands_failed H p failed f s = refl
stands_failed H p (reached n es vs) f s = absurd (true≢false (sym s.passing ∙ f))

-- the first row
pub start_rows : (text : List ℕ) → 0 < length (text_rows text) → (place : ℕ) → place ≡ after_line text 0 → RowsAt text 0 place
start_rows text some place e = subst (λ (y : ℕ). RowsAt text 0 y) (sym e) (place_start text some)

-- ---- the end
whole_stands : (H : Graph) (R : List (List ℕ)) (p : Progress) (st : State) → Stands H p st
    → whole H R st ≡ (p.ok && eqb p.next (length R) && eqb p.edges (full (length H.edges)) && eqb p.nodes (full H.nodes))
unfolding whole
whole_stands H R p failed f = rw f
whole_stands H R p (reached n es vs) k = rw (k.passing, k.row) (ap₂ (λ (a b : Bool). eqb n (length R) && a && b) (marks_all k.used_edges) (marks_all k.used_nodes))

module _ (G : Grammar) (H : Graph) (text : List ℕ) where
  -- a text without rows is refused
  pub none_refused : None ≡ count_in (rows_in text) → replay_text G H text ≡ false
  none_refused c = go (rows_in text) refl
    where
      go : (s : Script) → rows_in text ≡ s → replay_text G H text ≡ false
      go bad q = replay_bad G H text q
      go (rows rs) q = absurd (none-some (length rs) (c ∙ ap count_in q))

  -- a text with rows is passed where the replay of its rows is whole
  pub whole_passes : 0 < length (text_rows text) → replay_text G H text ≡ whole H (text_rows text) (replayed G H (text_rows text))
  unfolding replays
  whole_passes some =
      replay_rows G H text (text_rows text) (text_some text some)
      ∙ rw (le-leb 1 (length (text_rows text)) some, le-leb (length (text_rows text)) 4096 (text_few text))

module _ (g h text : List ℕ) (n : ℕ) (c : Some n ≡ count_in (rows_in text)) (p : Progress)
    (k : Stands (graph_of g h) p (replayed (grammar_of g) (graph_of g h) (text_rows text))) where
  answer_by_is : replay_text (grammar_of g) (graph_of g h) text ≡ (p.ok && eqb p.next n && eqb p.edges (full (graph_edges h)) && eqb p.nodes (full (graph_nodes h)))
  answer_by_is =
      let counted = text_count text n c in
      whole_passes (grammar_of g) (graph_of g h) text (omega arith)
      ∙ whole_stands (graph_of g h) (text_rows text) p _ k
      ∙ rw (sym counted.0, graph_size g h, graph_nodes_lem g h)

  pub failed_answer : p.ok ≡ false → replay_text (grammar_of g) (graph_of g h) text ≡ false
  failed_answer f = answer_by_is ∙ rw f

  pub whole_answer : p.ok ≡ true → (b : Bool) → b ≡ (eqb p.next n && eqb p.edges (full (graph_edges h)) && eqb p.nodes (full (graph_nodes h))) → replay_text (grammar_of g) (graph_of g h) text ≡ b
  whole_answer y b t = answer_by_is ∙ rw y (sym t)

-- ---- the answer
pub tables_accepted : (g h : List ℕ) (a : Bool) → a ≡ check_grammar g → a ≡ true → (b : Bool) → b ≡ check_graph g h → b ≡ true → Accepted g h
tables_accepted g h a p x b q y = record { grammar = sym p ∙ x; graph = sym q ∙ y }

abbrev answer_by : Bool → Bool → Verdict
answer_by f t = cond f (cond t (Ok tt) (Err NoDerivation)) (Err Unfit)

unfit_by : (f t : Bool) → (number_of (answer_by f t) ≡ 8) ↔ (f ≡ false)
unfit_by true true = (λ e. absurd (omega arith), λ e. absurd (true≢false e))
unfit_by true false = (λ e. absurd (omega arith), λ e. absurd (true≢false e))
unfit_by false t = (λ e. refl, λ e. refl)

passed_by : (f t : Bool) → (number_of (answer_by f t) ≡ 0) ↔ ((f ≡ true) × (t ≡ true))
passed_by true true = (λ e. (refl, refl), λ e. refl)
passed_by true false = (λ e. absurd (omega arith), λ e. absurd (true≢false (sym e.1)))
passed_by false t = (λ e. absurd (omega arith), λ e. absurd (true≢false (sym e.0)))

module _ (g h : List ℕ) where
  fit_accepted : fit_tables g h ≡ true → Accepted g h
  unfolding fit_tables
  fit_accepted e = let p = and_true (check_grammar g) (check_graph g h) e in record { grammar = p.0; graph = p.1 }

  accepted_fit : Accepted g h → fit_tables g h ≡ true
  unfolding fit_tables
  accepted_fit a = rw (a.grammar, a.graph)

  module _ (text : List ℕ) where
    answer_is : replay_of g h text ≡ answer_by (fit_tables g h) (replay_text (grammar_of g) (graph_of g h) text)
    unfolding replay_of
    answer_is = refl

    exact : Exact g h text (answer_by (fit_tables g h) (replay_text (grammar_of g) (graph_of g h) text))
    exact =
        let by = passed_by (fit_tables g h) (replay_text (grammar_of g) (graph_of g h) text) in
        record {
          unfit = unfit_by (fit_tables g h) (replay_text (grammar_of g) (graph_of g h) text);
          passed = (
            λ e. let a = fit_accepted (by.0 e).0 in (a, (decided a).sound (test_T _ (by.0 e).1)),
            λ d. by.1 (accepted_fit d.0, T_test _ ((decided d.0).complete d.1)),
          );
        }
      where
        decided : Accepted g h → Decides (replay_text (grammar_of g) (graph_of g h) text) (DerivationOf (grammar_of g) (graph_of g h) text)
        decided a = replay_text_is (grammar_of g) (graph_of g h) (checked_grammar_ok g a.grammar) (checked_graph_ok g h a.grammar a.graph) text

    answered : (f t : Bool) → fit_tables g h ≡ f → replay_text (grammar_of g) (graph_of g h) text ≡ t → (answer_by f t ≡ replay_of g h text) × Exact g h text (answer_by f t)
    answered f t e q =
        let same : answer_by (fit_tables g h) (replay_text (grammar_of g) (graph_of g h) text) ≡ answer_by f t = ap₂ answer_by e q in
        (sym same ∙ sym answer_is, subst (Exact g h text) same exact)

    pub answer_unfit_grammar : check_grammar g ≡ false → ((Err Unfit) ≡ replay_of g h text) × Exact g h text (Err Unfit)
    unfolding fit_tables
    answer_unfit_grammar e = answered false _ (rw e) refl

    pub answer_unfit_graph : check_grammar g ≡ true → check_graph g h ≡ false → ((Err Unfit) ≡ replay_of g h text) × Exact g h text (Err Unfit)
    unfolding fit_tables
    answer_unfit_graph e q = answered false _ (rw (e, q)) refl

    pub answer_refused : Accepted g h → replay_text (grammar_of g) (graph_of g h) text ≡ false → ((Err NoDerivation) ≡ replay_of g h text) × Exact g h text (Err NoDerivation)
    answer_refused a q = answered true false (accepted_fit a) q

    pub answer_passed : Accepted g h → replay_text (grammar_of g) (graph_of g h) text ≡ true → ((Ok tt) ≡ replay_of g h text) × Exact g h text (Ok tt)
    answer_passed a q = answered true true (accepted_fit a) q
