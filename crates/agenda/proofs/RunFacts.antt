-- The run part of demand 3 on the records of a chart, after a start and any list of runs.
use Rattle.std.specs.Prelude.{Option, Some, None}
use mathlib.Core.Path.{◌≡◌, refl, sym, ap, ◌∙◌, subst, subst₂}
use mathlib.Core.Logic.{◌⊎◌, inl, inr, ◌≢◌}
use mathlib.Core.Bool.{Bool, true, false}
use mathlib.Core.List.Memᴰ.{append_cases as in_append}
use mathlib.Core.List.Memᴰ.{append_left as in_left}
use mathlib.Core.List.Memᴰ.{append_right as in_right}
use mathlib.Core.List.Memᴰ.{cast as in_cast}
use mathlib.Core.List.Memᴰ.{not-nil as in_nil}
use mathlib.Core.List.{List, [], ◌++◌, Memᴰ as In}
use Prim.Native.Nat.{ℕ, ◌+◌, ◌≤◌, ◌<◌}
use native.Mathlib.Decide.{dec_le}
use native.Mathlib.Omega.{arith}
use lib.ListN.{length, set, length-set, length-map}
use Rattle.hrg.specs.Counts.{flag}
use Rattle.hrg.specs.Grammars.{Graph, PlanNode, leaf, introduce, join, Grammar, plan_of, plan_node}
use Rattle.hrg.specs.Items.{Item, LeafRule, leaf_rule, UnaryRule, BinaryRule, closure}
use Rattle.hrg.specs.WellFormed.{PlanOk, GrammarOk, GraphOk}
use Rattle.hrg.specs.Deduction.{Reachable}
use Rattle.hrg.specs.Agenda.{given, from, from₂, Derivation, Entry, Distinct, items_of, Made, axiom_made, unary_made, binary_made, Closure}
use Rattle.hrg.specs.AgendaFacts.{Correct}
use Rattle.hrg.specs.CountBound.{edges_of_item, conclusion, passives_of}
use Rattle.hrg.proofs.CountBound.{start_every, run_every, counted_kept, within_le, run_uses_once, bounded}
use Rattle.hrg.proofs.Plans.{introduce_lower, join_lower}
use Rattle.hrg.proofs.AgendaInvariant.{of_items, in_items}
use Rattle.hrg.proofs.ClosureSize.{closure_unique}
use Rattle.hrg.proofs.ClosureAgenda.{closure_size, closure_finite, closure_size_is, run_correct, run_finishes}
use Rattle.hrg.proofs.ReplacementTruth.{handled_by_replacement}
use Rattle.agenda.specs.Records.{item_of, is_handled}
use Rattle.agenda.specs.Consequences.{record_in, no_record}
use Rattle.agenda.specs.Steps.{Chart, least_waiting, handled_now, start_chart, runs_chart, handled_count, sum_of}
use Rattle.agenda.specs.RunFacts.{Present, Handled, OneRule, by_leaf, by_one, by_two, ChartCorrect}
use Rattle.agenda.specs.declared.Record.{Record}
use Rattle.agenda.proofs.Growth.{count_set, count_le}
use Rattle.agenda.proofs.Choice.{Chosen, waits, nothing, chosen}
use Rattle.agenda.proofs.Spelling.{Spells, EntryOf}
use Rattle.agenda.proofs.Simulation.{one_place}
use Rattle.agenda.proofs.Runs.{Reached, Fate, fits, over, runs_fate, nothing_waits, start_held, runs_held, start_none, runs_steps_most}

-- one that waits is not counted
unhandled_less : (rs : List Record) (j : ℕ) → j < length rs → is_handled (record_in rs j) ≡ false → handled_count rs < length rs
unhandled_less rs j l w =
    let ss = set rs j (handled_now (record_in rs j)) in
    omega (arith, count_set rs j (handled_now (record_in rs j)) l, ap flag w, count_le ss, length-set rs j (handled_now (record_in rs j)))

-- one that is handled is counted
handled_some : (rs : List Record) (j : ℕ) → j < length rs → is_handled (record_in rs j) ≡ true → 0 < handled_count rs
handled_some rs j l h = omega (arith, count_set rs j no_record l, ap flag h)

-- nothing lies below plan node 0
first_leaf : (edges : ℕ) (pl : List PlanNode) → PlanOk edges pl → plan_node pl 0 ≡ leaf
first_leaf edges pl ok = go (plan_node pl 0) refl
  where
    go : (n : PlanNode) → plan_node pl 0 ≡ n → plan_node pl 0 ≡ leaf
    go leaf e = e
    go (introduce c i) e = absurd (omega (arith, introduce_lower edges pl ok 0 c i e))
    go (join a b) e = absurd (omega (arith, (join_lower edges pl ok 0 a b e).0))

-- every well-formed grammar has a leaf item
some_leaf : (G : Grammar) → GrammarOk G → (i : Item) × LeafRule G i
some_leaf G ok =
    let r : 0 < length G.rules = omega (arith, ok.rule_count_is.lower) in
    let plan = (ok.rule 0 r).plan in
    (_, leaf_rule 0 0 r (omega (arith, plan.size.lower)) (first_leaf _ (plan_of G 0) plan))

-- The partners of the record at k spell a derivation of its item, which uses no passive item twice; its count is
-- their number.
pub record Spelt (G : Grammar) (H : Graph) (rs : List Record) (k : ℕ) : Type 0 where
  pub how : Derivation Item
  pub spells : Spells G H rs (record_in rs k) how
  pub concludes : conclusion how ≡ item_of G (record_in rs k).item
  pub once : Distinct (passives_of how)
  pub count : length (passives_of how) ≡ (record_in rs k).item.count

module _ (G : Grammar) (H : Graph) (ok : GrammarOk G) (hok : GraphOk G H) where
  module _ {cap n : ℕ} {rs : List Record} (r : Reached G H cap n rs) where
    correct : Correct G H n r.state
    correct = run_correct G H ok hok r.starts r.run

    abbrev hs : List (Entry Item)
    hs = r.state.handled

    -- ---- items of records and of entries
    to_handled : {i : Item} → In i (items_of hs) → Handled G rs i
    to_handled m =
        let o = of_items hs m in
        let p = r.shows.handled.place o.0 o.1 in
        record { at = p.0; known = p.1; handled = p.2; item = p.3.item ∙ o.2 }

    -- the entry of a handled item
    of_handled : {a : Item} → Handled G rs a → (e : Entry Item) × In e hs × (e.item ≡ a)
    of_handled h = let o = r.shows.handled.entry h.at h.known h.handled in (o.0, o.1, sym o.2.item ∙ h.item)

    to_present : {i : Item} → In i (items_of (hs ++ r.state.waiting)) → Present G rs i
    to_present {i} m = go (in_append hs o.1)
      where
        o : (e : Entry Item) × In e (hs ++ r.state.waiting) × (e.item ≡ i)
        o = of_items (hs ++ r.state.waiting) m

        go : In o.0 hs ⊎ In o.0 r.state.waiting → Present G rs i
        go (inl k) = let p = r.shows.handled.place o.0 k in record { at = p.0; known = p.1; item = p.3.item ∙ o.2 }
        go (inr k) = let p = r.shows.waiting.place o.0 k in record { at = p.0; known = p.1; item = p.3.item ∙ o.2 }

    of_present : {i : Item} → Present G rs i → In i (items_of (hs ++ r.state.waiting))
    of_present {i} p = go (is_handled (record_in rs p.at)) refl
      where
        go : (b : Bool) → is_handled (record_in rs p.at) ≡ b → In i (items_of (hs ++ r.state.waiting))
        go true h = let o = r.shows.handled.entry p.at p.known h in in_cast (sym p.item ∙ o.2.item) (in_items (in_left r.state.waiting o.1))
        go false h = let o = r.shows.waiting.entry p.at p.known h in in_cast (sym p.item ∙ o.2.item) (in_items (in_right hs o.1))

    to_rule : {e : Entry Item} → Made (closure G H) hs e → OneRule G H rs e.item
    to_rule (axiom_made x) = by_leaf x
    to_rule (unary_made m u) = by_one (to_handled (in_items m)) u
    to_rule (binary_made m k b) = by_two (to_handled (in_items m)) (to_handled (in_items k)) b

    of_rule : {i : Item} → OneRule G H rs i → (e : Entry Item) × Made (closure G H) hs e × (e.item ≡ i)
    of_rule {i} (by_leaf x) = (record { item = i; count = 0; how = given i }, axiom_made x, refl)
    of_rule {i} (by_one {a = a} {k = k} h u) =
        let o = of_handled h in
        (record { item = i; count = o.0.count + k; how = from i o.0.how }, unary_made o.1 (subst (λ (z : Item). UnaryRule G H z k i) (sym o.2) u), refl)
    of_rule {i} (by_two {a = a} {b = b} g h x) =
        let o = of_handled g in
        let p = of_handled h in (
          record { item = i; count = o.0.count + p.0.count; how = from₂ i o.0.how p.0.how },
          binary_made o.1 p.1 (subst₂ (λ (y z : Item). BinaryRule G H y z i) (sym o.2) (sym p.2) x),
          refl,
        )

    reached_correct : ChartCorrect G H n rs
    reached_correct =
        record {
          fewest = λ j l h. let o = r.shows.handled.entry j l h in rw (o.2.item, o.2.count) (correct.fewest o.0 o.1);
          replaced = λ j l h. let o = r.shows.handled.entry j l h in rw (o.2.item, o.2.count) (handled_by_replacement G H ok hok r.starts r.run o.0 o.1);
          order = λ j l h i k t out. let o = r.shows.handled.entry j l h in rw o.2.count (correct.order o.0 o.1 i k t (λ m. out (to_handled m)));
          distinct = one_place G H rs r.shows.formed r.shows.differ;
          steps = λ is c. r.shows.steps ∙ correct.steps is c;
          present = λ i. (
            λ p. let o = (correct.present i).0 (of_present p) in subst (λ (z : Item). OneRule G H rs z) o.2 (to_rule o.1),
            λ q. to_present ((correct.present i).1 (of_rule q)),
          );
        }

    -- while one waits, the closure has more items than steps were given
    reached_more : (j : ℕ) → j < length rs → is_handled (record_in rs j) ≡ false → n < closure_size G H ok hok
    reached_more j l w = go (dec_le (closure_size G H ok hok) n)
      where
        go : Dec (closure_size G H ok hok ≤ n) → n < closure_size G H ok hok
        go (yes h) =
            let o = r.shows.waiting.entry j l w in
            absurd (in_nil (subst (λ (ws : List (Entry Item)). In o.0 ws) (run_finishes G H ok hok r.starts r.run h) o.1))
        go (no g) = omega arith

    -- once as many steps are given as there are places, none waits
    reached_full : cap ≤ n → (j : ℕ) → j < length rs → is_handled (record_in rs j) ≡ false → ⊥
    reached_full c j l w =
        let z = closure_finite G H ok hok in
        omega (arith, reached_more j l w, reached_correct.steps z.0 z.1, closure_size_is G H ok hok z.0 z.1, unhandled_less rs j l w, r.held)

    -- ---- what partners spell
    entry_spelt : (k : ℕ) (e : Entry Item) → In e (hs ++ r.state.waiting) → EntryOf G H rs (record_in rs k) e → Spelt G H rs k
    entry_spelt k e m o =
        let u = run_uses_once G H ok r.starts r.run in
        let c = run_every counted_kept r.run (start_every counted_kept r.starts) e m in
        record { how = e.how; spells = o.how; concludes = u.concludes e m ∙ sym o.item; once = u.once e m; count = sym c ∙ sym o.count }

    reached_spell : (k : ℕ) → k < length rs → Spelt G H rs k
    reached_spell k l = go (is_handled (record_in rs k)) refl
      where
        go : (b : Bool) → is_handled (record_in rs k) ≡ b → Spelt G H rs k
        go true h = let o = r.shows.handled.entry k l h in entry_spelt k o.0 (in_left r.state.waiting o.1) o.2
        go false h = let o = r.shows.waiting.entry k l h in entry_spelt k o.0 (in_right hs o.1) o.2

    reached_count : (k : ℕ) → k < length rs → is_handled (record_in rs k) ≡ true → (record_in rs k).item.count ≤ handled_count rs
    reached_count k l h =
        let o = r.shows.handled.entry k l h in
        omega (arith, (bounded G H ok r.starts r.run).count.handled o.0 o.1, within_le (edges_of_item o.0.item) hs, o.2.count, r.shows.steps)

  -- ---- the theorems
  module _ (cap : ℕ) (most : cap ≤ 4096) (ks : List ℕ) (c : Chart) (is : c ≡ runs_chart G H cap ks (start_chart G cap)) where
    fate : Fate G H cap (sum_of ks) c
    fate = subst (λ (d : Chart). Fate G H cap (sum_of ks) d) (sym is) (runs_fate G H ok most ks)

    -- while the chart is not found too small, it stands for a run of the agenda over the closure
    pub runs_reached : c.mark ≡ 0 → Reached G H cap (sum_of ks) c.records
    runs_reached m = go fate
      where
        go : Fate G H cap (sum_of ks) c → Reached G H cap (sum_of ks) c.records
        go (fits e r) = r
        go (over n f) = absurd (n m)

    pub runs_correct : c.mark ≡ 0 → ChartCorrect G H (sum_of ks) c.records
    runs_correct m = reached_correct (runs_reached m)

    -- found too small only if the closure has more items than the chart holds
    pub marked_small : c.mark ≢ 0 → (is : List Item) → Closure (closure G H) is → cap < length is
    marked_small m = go fate
      where
        go : Fate G H cap (sum_of ks) c → (is : List Item) → Closure (closure G H) is → cap < length is
        go (fits e r) = absurd (m e)
        go (over n f) = f

    -- an untouched chart of k items never gives 10 once k steps are done
    pub full_run : cap ≤ sum_of ks → c.mark ≡ 0 → least_waiting c.records (length c.records) ≡ None
    full_run l m = go (least_waiting c.records (length c.records)) (chosen c.records (length c.records))
      where
        go : (f : Option ℕ) → Chosen c.records (length c.records) f → f ≡ None
        go None (nothing h) = refl
        go (Some j) (waits i w h) = absurd (reached_full (runs_reached m) l j i w)

    -- while something waits, the closure has more items than steps were given
    pub waiting_more : c.mark ≡ 0 → least_waiting c.records (length c.records) ≢ None → (is : List Item) → Closure (closure G H) is → sum_of ks < length is
    waiting_more m x is d = go (least_waiting c.records (length c.records)) (chosen c.records (length c.records)) x
      where
        go : (f : Option ℕ) → Chosen c.records (length c.records) f → f ≢ None → sum_of ks < length is
        go None (nothing h) q = absurd (q refl)
        go (Some j) (waits l w h) q = omega (arith, reached_more (runs_reached m) j l w, closure_size_is G H ok hok is d)

    -- where nothing waits, every record is handled
    pub all_handled : least_waiting c.records (length c.records) ≡ None → (k : ℕ) → k < length c.records → is_handled (record_in c.records k) ≡ true
    all_handled e = go (least_waiting c.records (length c.records)) (chosen c.records (length c.records)) e
      where
        go : (f : Option ℕ) → Chosen c.records (length c.records) f → f ≡ None → (k : ℕ) → k < length c.records → is_handled (record_in c.records k) ≡ true
        go None (nothing h) q = h
        go (Some j) (waits i w h) q = let z : ◌≡◌ {A = ℕ} 0 1 = cc in absurd (omega arith)

    -- then the steps done are the closure's size, and every item of the closure is handled
    module _ (m : c.mark ≡ 0) (e : least_waiting c.records (length c.records) ≡ None) where
      waits_not : (r : Reached G H cap (sum_of ks) c.records) → r.state.waiting ≡ []
      waits_not r = nothing_waits G H ok most r (all_handled e)

      pub done_size : (is : List Item) → Closure (closure G H) is → handled_count c.records ≡ length is
      done_size is d =
          let r = runs_reached m in
          r.shows.steps ∙ sym (length-map r.state.handled (λ (z : Entry Item). z.item)) ∙ closure_unique ((correct r).done (waits_not r)) d

      pub done_handled : (i : Item) (n : ℕ) → Reachable (closure G H) i n → Handled G c.records i
      done_handled i n x = let r = runs_reached m in to_handled r (((correct r).done (waits_not r)).present i n x)

    -- never more records than the chart holds
    pub records_held : length c.records ≤ cap
    records_held = rw is (runs_held G H cap ks (start_chart G cap) (start_held G H cap))

    -- the steps done are at most those given, also where the chart was found too small
    pub steps_most : handled_count c.records ≤ sum_of ks
    steps_most = rw is (omega (arith, runs_steps_most G H cap ks (start_chart G cap), start_none G H cap))

    -- the partners of every record spell a derivation of its item from handled records
    pub records_spell : c.mark ≡ 0 → (k : ℕ) → k < length c.records → Spelt G H c.records k
    records_spell m k l = reached_spell (runs_reached m) k l

    -- a handled record's count, the passive items of what it spells, is at most the steps done
    pub count_most : c.mark ≡ 0 → (k : ℕ) → k < length c.records → is_handled (record_in c.records k) ≡ true → (record_in c.records k).item.count ≤ handled_count c.records
    count_most m k l h = reached_count (runs_reached m) k l h

  -- on a fresh chart something waits: a leaf item
  module _ (cap : ℕ) (most : cap ≤ 4096) (m : (start_chart G cap).mark ≡ 0) where
    abbrev fresh : List Record
    fresh = (start_chart G cap).records

    leaf_present : (i : Item) × Present G fresh i
    unfolding runs_chart sum_of
    leaf_present = let o = some_leaf G ok in (o.0, ((runs_correct cap most [] (start_chart G cap) refl m).present o.0).1 (by_leaf o.1))

    pub start_waits : (j : ℕ) × (least_waiting fresh (length fresh) ≡ Some j)
    start_waits = go (least_waiting fresh (length fresh)) (chosen fresh (length fresh))
      where
        go : (f : Option ℕ) → Chosen fresh (length fresh) f → (j : ℕ) × (f ≡ Some j)
        go (Some j) (waits l w h) = (j, refl)
        go None (nothing h) = let p = leaf_present.1 in absurd (omega (arith, handled_some fresh p.at p.known (h p.at p.known), start_none G H cap))
