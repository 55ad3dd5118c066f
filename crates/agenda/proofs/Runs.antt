-- A chart after a start and runs: it stands for a run of the agenda over the closure, or the closure has more items
-- than it holds.
use Rattle.std.specs.Prelude.{Option, Some, None}
use mathlib.Core.Path.{◌≡◌, refl, sym, ap, ◌∙◌, subst}
use mathlib.Core.Logic.{◌⊎◌, inl, inr, ◌≢◌}
use mathlib.Core.Bool.{Bool, true, false, cond}
use mathlib.Core.List.Memᴰ.{append_cases as in_append}
use mathlib.Core.List.Memᴰ.{head as here}
use mathlib.Core.List.Memᴰ.{not-nil as in_nil}
use mathlib.Core.List.{List, [], ◌∷◌, ◌++◌, Memᴰ as In}
use Prim.Native.Nat.{ℕ, zero, suc, ◌+◌, ◌≤◌, ◌<◌}
use native.Mathlib.Omega.{arith}
use lib.ListN.{length, set, length-set}
use lib.Dec.{eqb}
use borrow.Author.Tests.{eqb-true, eqb-false, ne_eqb}
use Rattle.hrg.specs.Counts.{flag}
use Rattle.hrg.specs.Grammars.{Graph, Grammar}
use Rattle.hrg.specs.Items.{Item, closure}
use Rattle.hrg.specs.WellFormed.{GrammarOk}
use Rattle.hrg.specs.Agenda.{Entry, State, Start, Step, Run, stop, idle, step, Closure}
use Rattle.hrg.specs.CountBound.{is_passive, edges_of_item, passives_within, Bounded}
use Rattle.hrg.proofs.AgendaInvariant.{Invariant, start_invariant, run_invariant}
use Rattle.hrg.proofs.ClosureSize.{run_append}
use Rattle.hrg.proofs.CountBound.{within_le, bounded}
use Rattle.agenda.specs.Records.{is_handled}
use Rattle.agenda.specs.Consequences.{record_in, consequences, leaf_records}
use Rattle.agenda.specs.Steps.{Chart, least_waiting, handled_now, handled_at, step_with, step_chart, run_chart, start_chart, runs_chart, handled_count, sum_of}
use Rattle.agenda.specs.declared.Record.{Record}
use Rattle.agenda.proofs.Consequences.{in_consequence, in_leaf_record}
use Rattle.agenda.proofs.Adding.{apart, cond_by, AddsAll, done, Ends, held, full, all_ends, marked_all}
use Rattle.agenda.proofs.Growth.{SetAt, changed, other, set_at, Fresh, all_grew, all_held, all_count, count_set, count_le}
use Rattle.agenda.proofs.Choice.{Chosen, waits, nothing, chosen}
use Rattle.agenda.proofs.Spelling.{Shows, Stays}
use Rattle.agenda.proofs.Simulation.{start_shown, start_full, step_shown, step_full}

-- ---- what start and step add
-- the records when the one at j has become handled
abbrev handled_in : List Record → ℕ → List Record
handled_in rs j = set rs j (handled_now (record_in rs j))

start_ends : (G : Grammar) (cap : ℕ) → Ends cap (leaf_records G) [] (start_chart G cap)
unfolding start_chart
start_ends G cap = all_ends cap _ _ refl

handled_ends : (G : Grammar) (H : Graph) (cap j : ℕ) (c : Chart) → c.mark ≡ 0 → Ends cap (consequences G H (handled_in c.records j) j) (handled_in c.records j) (handled_at G H cap j c)
unfolding handled_at
handled_ends G H cap j c e = all_ends cap _ _ e

handled_marked : (G : Grammar) (H : Graph) (cap j : ℕ) (c : Chart) → c.mark ≢ 0 → (handled_at G H cap j c).records ≡ handled_in c.records j
unfolding handled_at
handled_marked G H cap j c e = ap (λ (d : Chart). d.records) (marked_all cap (consequences G H (handled_in c.records j) j) (record { mark = c.mark; records = handled_in c.records j }) e)

pub sum_last : (ks : List ℕ) (k : ℕ) → sum_of (ks ++ (k ∷ [])) ≡ sum_of ks + k
unfolding sum_of
sum_last [] k = omega arith
sum_last (j ∷ ks) k = omega (arith, sum_last ks k)

-- ---- runs in parts, on any chart
module _ (G : Grammar) (H : Graph) (cap : ℕ) where
  -- where nothing waits, a step changes nothing
  pub idle_step : (c : Chart) → least_waiting c.records (length c.records) ≡ None → step_chart G H cap c ≡ c
  unfolding step_chart
  idle_step c e = ap (step_with G H cap c) e

  -- a marked chart is left as it is
  pub marked_run : (k : ℕ) (c : Chart) → c.mark ≢ 0 → run_chart G H cap k c ≡ c
  unfolding run_chart
  marked_run zero c m = refl
  marked_run (suc k) c m =
      let e = marked_run k c m in
      subst (λ (d : Chart). cond (eqb d.mark 0) (step_chart G H cap d) d ≡ c) (sym e) (ap (λ (b : Bool). cond b (step_chart G H cap c) c) (ne_eqb c.mark 0 m))

  pub marked_kept : (ks : List ℕ) (c : Chart) → c.mark ≢ 0 → runs_chart G H cap ks c ≡ c
  unfolding runs_chart
  marked_kept [] c m = refl
  marked_kept (k ∷ ks) c m = ap (runs_chart G H cap ks) (marked_run k c m) ∙ marked_kept ks c m

  -- one step more
  abbrev pub again : Chart → Chart
  again d = cond (eqb d.mark 0) (step_chart G H cap d) d

  pub run_none : (c : Chart) → run_chart G H cap 0 c ≡ c
  unfolding run_chart
  run_none c = refl

  pub run_more : (k : ℕ) (c : Chart) → run_chart G H cap (suc k) c ≡ again (run_chart G H cap k c)
  unfolding run_chart
  run_more k c = refl

  -- splitting a run changes nothing
  pub run_split : (j k : ℕ) (c : Chart) → run_chart G H cap (j + k) c ≡ run_chart G H cap k (run_chart G H cap j c)
  run_split j zero c =
      let e : j + 0 ≡ j = omega arith in
      ap (λ (n : ℕ). run_chart G H cap n c) e ∙ sym (run_none (run_chart G H cap j c))
  run_split j (suc k) c =
      let e : j + suc k ≡ suc (j + k) = omega arith in
      ap (λ (n : ℕ). run_chart G H cap n c) e ∙ run_more (j + k) c ∙ ap again (run_split j k c) ∙ sym (run_more k (run_chart G H cap j c))

  -- a list of runs and one run more
  pub runs_last : (ks : List ℕ) (k : ℕ) (c : Chart) → runs_chart G H cap (ks ++ (k ∷ [])) c ≡ run_chart G H cap k (runs_chart G H cap ks c)
  unfolding runs_chart
  runs_last [] k c = refl
  runs_last (j ∷ ks) k c = runs_last ks k (run_chart G H cap j c)

  -- where nothing waits, a run changes nothing
  pub idle_run : (k : ℕ) (c : Chart) → least_waiting c.records (length c.records) ≡ None → run_chart G H cap k c ≡ c
  idle_run zero c e = run_none c
  idle_run (suc k) c e = run_more k c ∙ ap again (idle_run k c e) ∙ cond_by (λ (d : Chart). d ≡ c) (eqb c.mark 0) (λ t. idle_step c e) (λ t. refl)

  -- ---- what a step does to records, of any chart
  data Moved (c : Chart) : Chart → Type 0 where
    unmoved : Moved c c
    moved : {d : Chart} (j : ℕ) (ys : List Record) → ((y : Record) → In y ys → Fresh y) → j < length c.records → is_handled (record_in c.records j) ≡ false
        → AddsAll cap ys (handled_in c.records j) d.records → Moved c d

  handled_moved : (c : Chart) (j : ℕ) → j < length c.records → is_handled (record_in c.records j) ≡ false → Moved c (handled_at G H cap j c)
  handled_moved c j l w = go (eqb c.mark 0) refl
    where
      rs : List Record
      rs = handled_in c.records j

      fresh : (x : Record) → In x (consequences G H rs j) → Fresh x
      fresh x m = let t = in_consequence G H rs j x m in subst (λ (y : Record). Fresh y) (sym t.is) refl

      ended : {d : Chart} → Ends cap (consequences G H rs j) rs d → Moved c d
      ended (held m a) = moved j (consequences G H rs j) fresh l w a
      ended (full m ys x sub i a n b) = moved j ys (λ y k. fresh y (sub y k)) l w a

      go : (b : Bool) → eqb c.mark 0 ≡ b → Moved c (handled_at G H cap j c)
      go true e = ended (handled_ends G H cap j c (eqb-true _ _ e))
      go false e = moved j [] (λ y m. absurd (in_nil m)) l w (subst (λ (ts : List Record). AddsAll cap [] rs ts) (sym (handled_marked G H cap j c (eqb-false _ _ e))) done)

  step_moved : (c : Chart) → Moved c (step_chart G H cap c)
  unfolding step_chart
  step_moved c = go (least_waiting c.records (length c.records)) (chosen c.records (length c.records))
    where
      go : (f : Option ℕ) → Chosen c.records (length c.records) f → Moved c (step_with G H cap c f)
      go None (nothing h) = unmoved
      go (Some j) (waits l w m) = handled_moved c j l w

  -- a property of charts that steps keep holds after every run
  module _ (P : Chart → Type 0) (kept : (c d : Chart) → Moved c d → P c → P d) where
    run_keeps : (k : ℕ) (c : Chart) → P c → P (run_chart G H cap k c)
    unfolding run_chart
    run_keeps zero c p = p
    run_keeps (suc k) c p =
        let q = run_keeps k c p in
        let d = run_chart G H cap k c in
        cond_by P (eqb d.mark 0) {x = step_chart G H cap d} {y = d} (λ e. kept d (step_chart G H cap d) (step_moved d) q) (λ e. q)

    runs_keep : (ks : List ℕ) (c : Chart) → P c → P (runs_chart G H cap ks c)
    unfolding runs_chart
    runs_keep [] c p = p
    runs_keep (k ∷ ks) c p = runs_keep ks (run_chart G H cap k c) (run_keeps k c p)

  -- handled records stay handled, with their counts and partners, also when the chart becomes marked
  pub handled_kept : (ks : List ℕ) (c : Chart) → Stays c.records (runs_chart G H cap ks c).records
  handled_kept ks c = runs_keep (λ d. Stays c.records d.records) kept ks c (λ k l h. (l, refl))
    where
      one : (d e : Chart) → Moved d e → Stays d.records e.records
      one d e unmoved k l h = (l, refl)
      one d e (moved j ys f m w a) k l h = go (set_at d.records j (handled_now (record_in d.records j)) k m)
        where
          ss : List Record
          ss = handled_in d.records j

          size : length ss ≡ length d.records
          size = length-set d.records j (handled_now (record_in d.records j))

          go : SetAt d.records j (handled_now (record_in d.records j)) k → (k < length e.records) × (record_in e.records k ≡ record_in d.records k)
          go (changed q p) = absurd (apart (subst (λ (i : ℕ). is_handled (record_in d.records i) ≡ true) q h) w)
          go (other n p) =
              let g = all_grew a in
              let i : k < length ss = omega (arith, size) in
              (omega (arith, g.longer), g.stays k i (ap is_handled p ∙ h) ∙ p)

      kept : (d e : Chart) → Moved d e → Stays c.records d.records → Stays c.records e.records
      kept d e m s k l h =
          let o = s k l h in
          let p = one d e m k o.0 (ap is_handled o.1 ∙ h) in
          (p.0, p.1 ∙ o.1)

  -- records never exceed what the chart holds
  pub runs_held : (ks : List ℕ) (c : Chart) → length c.records ≤ cap → length (runs_chart G H cap ks c).records ≤ cap
  runs_held ks c l = runs_keep (λ d. length d.records ≤ cap) kept ks c l
    where
      kept : (d e : Chart) → Moved d e → length d.records ≤ cap → length e.records ≤ cap
      kept d e unmoved l = l
      kept d e (moved j ys f m w a) l = all_held a (omega (arith, length-set d.records j (handled_now (record_in d.records j))))

  -- the steps done are at most those given, also when the chart becomes marked
  moved_steps : (d e : Chart) → Moved d e → handled_count e.records ≤ handled_count d.records + 1
  moved_steps d e unmoved = omega arith
  moved_steps d e (moved j ys f m w a) = omega (arith, all_count a f, count_set d.records j (handled_now (record_in d.records j)) m, ap flag w)

  run_steps_most : (k : ℕ) (c : Chart) → handled_count (run_chart G H cap k c).records ≤ handled_count c.records + k
  unfolding run_chart
  run_steps_most zero c = omega arith
  run_steps_most (suc k) c =
      let l = run_steps_most k c in
      let d = run_chart G H cap k c in
      cond_by (λ (e : Chart). handled_count e.records ≤ handled_count c.records + suc k) (eqb d.mark 0) {x = step_chart G H cap d} {y = d} (λ e. omega (arith, moved_steps d (step_chart G H cap d) (step_moved d))) (λ e. omega arith)

  pub runs_steps_most : (ks : List ℕ) (c : Chart) → handled_count (runs_chart G H cap ks c).records ≤ handled_count c.records + sum_of ks
  unfolding runs_chart sum_of
  runs_steps_most [] c = omega arith
  runs_steps_most (k ∷ ks) c = omega (arith, runs_steps_most ks (run_chart G H cap k c), run_steps_most k c)

  pub start_none : handled_count (start_chart G cap).records ≡ 0
  unfolding handled_count
  start_none = go (start_ends G cap)
    where
      fresh : (x : Record) → In x (leaf_records G) → Fresh x
      fresh x m = let t = in_leaf_record G H x m in subst (λ (y : Record). Fresh y) (sym t.2) refl

      go : {d : Chart} → Ends cap (leaf_records G) [] d → handled_count d.records ≡ 0
      go (held m a) = all_count a fresh
      go (full m ys x sub i a n l) = all_count a (λ y k. fresh y (sub y k))

  pub start_held : length (start_chart G cap).records ≤ cap
  start_held = go (start_ends G cap)
    where
      go : {d : Chart} → Ends cap (leaf_records G) [] d → length d.records ≤ cap
      go (held m a) = all_held a (omega arith)
      go (full m ys x sub i a n l) = all_held a (omega arith)

-- ---- a run of the agenda
-- The records stand for what a run of the agenda reached with n steps given.
pub record Reached (G : Grammar) (H : Graph) (cap n : ℕ) (rs : List Record) : Type 0 where
  pub start : State Item
  pub state : State Item
  pub starts : Start (closure G H) start
  pub run : Run (closure G H) n start state
  pub shows : Shows G H rs state
  pub held : length rs ≤ cap

pub data Fate (G : Grammar) (H : Graph) (cap n : ℕ) (c : Chart) : Type 0 where
  fits : c.mark ≡ 0 → Reached G H cap n c.records → Fate G H cap n c
  -- found too small, and the closure has more items than the chart holds
  over : c.mark ≢ 0 → ((is : List Item) → Closure (closure G H) is → cap < length is) → Fate G H cap n c

no_entries : (ws : List (Entry Item)) → ((e : Entry Item) → In e ws → ⊥) → ws ≡ []
no_entries [] f = refl
no_entries (w ∷ ws) f = absurd (f w (here refl))

module _ (G : Grammar) (H : Graph) (ok : GrammarOk G) {cap : ℕ} (most : cap ≤ 4096) where
  start_fate : Fate G H cap 0 (start_chart G cap)
  start_fate = go (start_ends G cap)
    where
      go : {d : Chart} → Ends cap (leaf_records G) [] d → Fate G H cap 0 d
      go (held m a) = let o = start_shown G H ok a in fits m (record { start = o.0; state = o.0; starts = o.1; run = stop; shows = o.2; held = all_held a (omega arith) })
      go (full m ys x sub i a n l) = over m (λ is c. omega (arith, start_full G H ok x sub i a n is c))

  module _ {n : ℕ} {rs : List Record} (r : Reached G H cap n rs) where
    -- counts are at most the handled items and one more
    small : (e : Entry Item) → In e (r.state.handled ++ r.state.waiting) → e.count ≤ 4097
    small e m = go (in_append r.state.handled m)
      where
        b : Bounded r.state
        b = bounded G H ok r.starts r.run

        few : passives_within (edges_of_item e.item) r.state.handled ≤ 4096
        few = omega (arith, within_le (edges_of_item e.item) r.state.handled, r.shows.steps, count_le rs, r.held, most)

        waiting : (p : Bool) → is_passive e.item ≡ p → In e r.state.waiting → e.count ≤ 4097
        waiting true q m = omega (arith, b.count.waiting_passive e m q, few)
        waiting false q m = omega (arith, b.count.waiting_active e m q, few)

        go : In e r.state.handled ⊎ In e r.state.waiting → e.count ≤ 4097
        go (inl m) = omega (arith, b.count.handled e m, few)
        go (inr m) = waiting (is_passive e.item) refl m

    invariant : Invariant (closure G H) r.state
    invariant = run_invariant r.run (start_invariant r.starts)

    pub nothing_waits : ((k : ℕ) → k < length rs → is_handled (record_in rs k) ≡ true) → r.state.waiting ≡ []
    nothing_waits h = no_entries r.state.waiting (λ e m. let o = r.shows.waiting.place e m in apart (h o.0 o.1) o.2)

    -- The chart d is what a step of the agenda leaves, or the closure has more items than it holds.
    data Stepped (d : Chart) : Type 0 where
      stepped : d.mark ≡ 0 → (t : State Item) → Step (closure G H) r.state t → Shows G H d.records t → length d.records ≤ cap → Stepped d
      too_small : d.mark ≢ 0 → ((is : List Item) → Closure (closure G H) is → cap < length is) → Stepped d

    handled_stepped : (m j : ℕ) → m ≡ 0 → j < length rs → is_handled (record_in rs j) ≡ false
        → ((k : ℕ) → k < length rs → is_handled (record_in rs k) ≡ false → (record_in rs j).item.count ≤ (record_in rs k).item.count) → Stepped (handled_at G H cap j (record { mark = m; records = rs }))
    handled_stepped m j e l w h = go (handled_ends G H cap j (record { mark = m; records = rs }) e)
      where
        ss : List Record
        ss = handled_in rs j

        go : {d : Chart} → Ends cap (consequences G H ss j) ss d → Stepped d
        go (held m a) =
            let o = step_shown G H ok r.shows invariant small j l w h a in
            stepped m o.0 o.1 o.2 (all_held a (omega (arith, length-set rs j (handled_now (record_in rs j)), r.held)))
        go (full m ys x sub i a k b) = too_small m (λ is c. omega (arith, step_full G H ok r.shows invariant small j l w h x sub i a k is c))

  step_fate : {n : ℕ} (c : Chart) → c.mark ≡ 0 → Reached G H cap n c.records → Fate G H cap (n + 1) (step_chart G H cap c)
  unfolding step_chart
  step_fate {n} c e r = go (least_waiting c.records (length c.records)) (chosen c.records (length c.records))
    where
      after : {d : Chart} → Stepped r d → Fate G H cap (n + 1) d
      after (stepped m t z s l) = fits m (record { start = r.start; state = t; starts = r.starts; run = run_append r.run (step z stop); shows = s; held = l })
      after (too_small m f) = over m f

      go : (f : Option ℕ) → Chosen c.records (length c.records) f → Fate G H cap (n + 1) (step_with G H cap c f)
      go None (nothing h) = fits e (record { start = r.start; state = r.state; starts = r.starts; run = run_append r.run (idle (nothing_waits r h)); shows = r.shows; held = r.held })
      go (Some j) (waits l w h) = after (handled_stepped r c.mark j e l w h)

  -- a start of the chart is one of the agenda, and a step where something waits is one of its steps
  pub start_simulates : (start_chart G cap).mark ≡ 0 → (s : State Item) × Start (closure G H) s × Shows G H (start_chart G cap).records s
  start_simulates m = go (start_ends G cap) m
    where
      go : {d : Chart} → Ends cap (leaf_records G) [] d → d.mark ≡ 0 → (s : State Item) × Start (closure G H) s × Shows G H d.records s
      go (held e a) m = start_shown G H ok a
      go (full n ys x sub i a k l) m = absurd (n m)

  pub step_simulates : {n : ℕ} (c : Chart) (r : Reached G H cap n c.records) → c.mark ≡ 0 → least_waiting c.records (length c.records) ≢ None → (step_chart G H cap c).mark ≡ 0
      → (t : State Item) × Step (closure G H) r.state t × Shows G H (step_chart G H cap c).records t
  unfolding step_chart
  step_simulates {n} c r e = go (least_waiting c.records (length c.records)) (chosen c.records (length c.records))
    where
      after : {d : Chart} → Stepped r d → d.mark ≡ 0 → (t : State Item) × Step (closure G H) r.state t × Shows G H d.records t
      after (stepped m t z s l) q = (t, z, s)
      after (too_small m f) q = absurd (m q)

      go : (f : Option ℕ) → Chosen c.records (length c.records) f → f ≢ None → (step_with G H cap c f).mark ≡ 0 → (t : State Item) × Step (closure G H) r.state t × Shows G H (step_with G H cap c f).records t
      go None (nothing h) x m = absurd (x refl)
      go (Some j) (waits l w h) x m = after (handled_stepped r c.mark j e l w h) m

  again_fate : {n : ℕ} (d : Chart) → Fate G H cap n d → Fate G H cap (n + 1) (again G H cap d)
  again_fate {n} d (fits e r) = cond_by (Fate G H cap (n + 1)) _ (λ t. step_fate d e r) (λ t. absurd (eqb-false _ _ t e))
  again_fate {n} d (over m f) = cond_by (Fate G H cap (n + 1)) _ (λ t. absurd (m (eqb-true _ _ t))) (λ t. over m f)

  run_fate : {n : ℕ} (k : ℕ) (c : Chart) → Fate G H cap n c → Fate G H cap (n + k) (run_chart G H cap k c)
  unfolding run_chart
  run_fate {n} zero c f = let e : n ≡ n + 0 = omega arith in subst (λ (i : ℕ). Fate G H cap i c) e f
  run_fate {n} (suc k) c f =
      let e : n + k + 1 ≡ n + suc k = omega arith in
      subst (λ (i : ℕ). Fate G H cap i (again G H cap (run_chart G H cap k c))) e (again_fate (run_chart G H cap k c) (run_fate k c f))

  runs_fate_from : {n : ℕ} (ks : List ℕ) (c : Chart) → Fate G H cap n c → Fate G H cap (n + sum_of ks) (runs_chart G H cap ks c)
  unfolding runs_chart sum_of
  runs_fate_from {n} [] c f = let e : n ≡ n + 0 = omega arith in subst (λ (i : ℕ). Fate G H cap i c) e f
  runs_fate_from {n} (k ∷ ks) c f =
      let e : n + k + sum_of ks ≡ n + (k + sum_of ks) = omega arith in
      subst (λ (i : ℕ). Fate G H cap i (runs_chart G H cap ks (run_chart G H cap k c))) e (runs_fate_from {n = n + k} ks (run_chart G H cap k c) (run_fate k c f))

  pub runs_fate : (ks : List ℕ) → Fate G H cap (sum_of ks) (runs_chart G H cap ks (start_chart G cap))
  runs_fate ks =
      let e : 0 + sum_of ks ≡ sum_of ks = omega arith in
      subst (λ (i : ℕ). Fate G H cap i (runs_chart G H cap ks (start_chart G cap))) e (runs_fate_from ks (start_chart G cap) start_fate)
