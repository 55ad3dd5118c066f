-- The run on words: each turn is a step of the model, and where none is left the rest changes nothing.
use Rattle.std.specs.Prelude.{Option, Some, None}
use Prim.Native.Nat.{ℕ, zero, suc, ◌+◌, ◌-◌, ◌≤◌, ◌<◌}
use mathlib.Core.Path.{◌≡◌, refl, sym, ap, ◌∙◌, subst}
use mathlib.Core.Bool.{Bool, true, false, not, cond}
use mathlib.Core.List.{List, [], ◌∷◌}
use native.Mathlib.Omega.{arith}
use lib.Dec.{eqb}
use lib.ListN.{length, get_or, set, length-set}
use borrow.Author.Tests.{eq-eqb, ne_eqb, eqb-false}
use Rattle.hrg.specs.Grammars.{Graph, Grammar}
use Rattle.hrg.specs.WellFormed.{GrammarOk, GraphOk}
use Rattle.agenda.specs.Consequences.{record_in, consequences, leaf_records}
use Rattle.agenda.specs.Steps.{Chart, added_all, least_waiting, handled_now, handled_at, step_with, step_chart, run_chart, start_chart}
use Rattle.agenda.proofs.Adding.{cond_by}
use Rattle.agenda.proofs.Runs.{again, run_none, run_more, run_split, marked_run, idle_run}
use Rattle.records.specs.Words.{Fits, capacity, item_count, chart_of, all_words, written, marked_at, grown_by}
use Rattle.records.proofs.WordLaws.{length_records, Below, none, one, least_below}
use Rattle.records.proofs.Written.{Holds, chart_written, chart_of_written, capacity_written, fits_written, written_over}
use Rattle.records.proofs.Rewritten.{Grown, handled_in, grown_handled}
use Rattle.records.proofs.Grown.{holds_own, grown_all}
use Rattle.steps.specs.Runs.{next_in, is_some, marked_by}
use Rattle.validity.proofs.KnownCharts.{AllKnown}
use Rattle.validity.proofs.Own.{handled_known, run_known}
use Rattle.validity.proofs.Made.{consequences_sound, sound_whole}
use Rattle.steps.proofs.LeafLoops.{leaves_whole}

-- ---- the record that a step takes
module _ (w : List ℕ) (m : ℕ) (is : m ≡ get_or w 1 0) where
  pub next_marked : (m ≡ 0 → ⊥) → None ≡ next_in (chart_of w)
  unfolding next_in chart_of
  next_marked h = rw (ne_eqb (get_or w 1 0) 0 (λ q. h (is ∙ q))) refl

  pub next_taken : (t f : Option ℕ) → m ≡ 0 → t ≡ f → t ≡ least_waiting (chart_of w).records (length (chart_of w).records) → f ≡ next_in (chart_of w)
  unfolding next_in chart_of
  next_taken t f z e p = rw (eq-eqb (get_or w 1 0) 0 (sym is ∙ z)) (sym e ∙ p)

below_at : {n j : ℕ} → Below n (Some j) → j < n
below_at (one h) = h

next_below : (c : Chart) → Below (length c.records) (next_in c)
unfolding next_in
next_below c = cond_by (Below (length c.records)) (eqb c.mark 0) (λ t. least_below c.records (length c.records)) (λ t. none)

pub next_known : (w : List ℕ) (j : ℕ) (f : Option ℕ) → f ≡ Some j → f ≡ next_in (chart_of w) → j < item_count w
unfolding chart_of
next_known w j f t q = let l = below_at (subst (Below (length (chart_of w).records)) (sym q ∙ t) (next_below (chart_of w))) in omega (arith, length_records w (item_count w))

nowhere : (f : Option ℕ) → not (is_some f) ≡ true → f ≡ None
nowhere None e = refl
nowhere (Some j) e = absurd (let z : ◌≡◌ {A = ℕ} 0 1 = cc in omega arith)

-- ---- the record that was taken
pub step_marked : (w v : List ℕ) (t : Option ℕ) (j : ℕ) → t ≡ Some j → v ≡ marked_by w t → v ≡ marked_at w j
step_marked w v t j e p = p ∙ ap (marked_by w) e

-- a step, with the record it takes or with none
module _ (G : Grammar) (H : Graph) (w v : List ℕ) (t : Option ℕ) (q : t ≡ next_in (chart_of w)) where
  abbrev Stepped : Bool → Type 0
  Stepped b = (b ≡ is_some (next_in (chart_of w))) × (v ≡ written w (step_with G H (capacity w) (chart_of w) (next_in (chart_of w))))

  stepped_by : (f : Option ℕ) → t ≡ f → v ≡ written w (step_with G H (capacity w) (chart_of w) f) → Stepped (is_some f)
  stepped_by f e p = let n = sym e ∙ q in (ap is_some n, p ∙ ap (λ (o : Option ℕ). written w (step_with G H (capacity w) (chart_of w) o)) n)

  pub step_some : (j : ℕ) → t ≡ Some j → v ≡ written w (handled_at G H (capacity w) j (chart_of w)) → Stepped true
  step_some j = stepped_by (Some j)

  pub step_none : Fits w → t ≡ None → v ≡ marked_by w t → Stepped false
  step_none o e p = stepped_by None e (p ∙ ap (marked_by w) e ∙ chart_written w o)

-- with none it leaves the words as they are, and the next step takes none either
pub step_idle : (G : Grammar) (H : Graph) (w v : List ℕ) → Fits w → (b : Bool) → not b ≡ true → b ≡ is_some (next_in (chart_of w))
    → v ≡ written w (step_with G H (capacity w) (chart_of w) (next_in (chart_of w))) → next_in (chart_of v) ≡ None
step_idle G H w v o b e p made =
    let n : next_in (chart_of w) ≡ None = nowhere (next_in (chart_of w)) (ap not (sym p) ∙ e) in
    let same : v ≡ w = made ∙ ap (λ (f : Option ℕ). written w (step_with G H (capacity w) (chart_of w) f)) n ∙ sym (chart_written w o) in
    ap (λ (u : List ℕ). next_in (chart_of u)) same ∙ n

-- ---- start
abbrev empty_chart : Chart
empty_chart = record { mark = 0; records = [] }

header_words_lem : (w : List ℕ) → 2 ≤ length w → set (set w 0 0) 1 0 ≡ written w empty_chart
unfolding written all_words
header_words_lem [] h = absurd (omega arith)
header_words_lem (a ∷ []) h = absurd (omega arith)
header_words_lem (a ∷ b ∷ w) h = refl

empty_holds : (w : List ℕ) → 2 ≤ length w → Holds w empty_chart
empty_holds w h = record { header = h; number = omega arith; compact = λ k l. absurd (omega arith) }

module _ (w : List ℕ) (h : 2 ≤ length w) where
  pub start_fits : (v : List ℕ) → v ≡ set (set w 0 0) 1 0 → Fits v
  start_fits v q = subst Fits (sym (q ∙ header_words_lem w h)) (fits_written w empty_chart (empty_holds w h))

  start_by_is : (G : Grammar) (v : List ℕ) → v ≡ written w empty_chart → grown_by v (leaf_records G) ≡ written w (start_chart G (capacity w))
  unfolding grown_by start_chart
  start_by_is G v q =
      let o = empty_holds w h in
      ap (λ (u : List ℕ). written u (added_all (capacity u) (leaf_records G) (chart_of u))) q
      ∙ ap (λ n. written (written w empty_chart) (added_all n (leaf_records G) (chart_of (written w empty_chart)))) (capacity_written w empty_chart o)
      ∙ ap (λ (c : Chart). written (written w empty_chart) (added_all (capacity w) (leaf_records G) c)) (chart_of_written w empty_chart o)
      ∙ written_over w empty_chart o (added_all (capacity w) (leaf_records G) empty_chart) (omega arith)

  pub start_holds : (G : Grammar) → GrammarOk G → Holds w (start_chart G (capacity w))
  unfolding start_chart
  start_holds G ok = (grown_all w (leaf_records G) empty_chart (empty_holds w h) (leaves_whole G ok)).holds

  pub started : (G : Grammar) (v u : List ℕ) → v ≡ set (set w 0 0) 1 0 → u ≡ grown_by v (leaf_records G) → u ≡ written w (start_chart G (capacity w))
  started G v u q p = p ∙ start_by_is G v (q ∙ header_words_lem w h)

-- ---- steps
module _ (G : Grammar) (H : Graph) where
  next_again : (cap : ℕ) (d : Chart) → again G H cap d ≡ step_with G H cap d (next_in d)
  unfolding next_in step_chart
  next_again cap d = go (eqb d.mark 0) (least_waiting d.records (length d.records))
    where
      go : (b : Bool) (f : Option ℕ) → cond b (step_with G H cap d f) d ≡ step_with G H cap d (cond b f None)
      go true f = refl
      go false f = refl

  next_none : (cap k : ℕ) (d : Chart) → None ≡ next_in d → run_chart G H cap k d ≡ d
  unfolding next_in
  next_none cap k d q = go (eqb d.mark 0) refl q
    where
      go : (b : Bool) → eqb d.mark 0 ≡ b → None ≡ cond b (least_waiting d.records (length d.records)) None → run_chart G H cap k d ≡ d
      go true m e = idle_run G H cap k d (sym e)
      go false m e = marked_run G H cap k d (eqb-false d.mark 0 m)

  -- a run on known records that keeps to the words' capacity stays within the words, and loses no record
  module _ (ok : GrammarOk G) (good : GraphOk G H) (w : List ℕ) (small : capacity w ≤ 4096) where
    handled_grown : (d : Chart) (j : ℕ) → Holds w d → AllKnown G H d.records → j < length d.records → Grown w d (handled_at G H (capacity w) j d)
    unfolding handled_at
    handled_grown d j o all l =
        let one = grown_handled w d o j in
        let rs = (handled_in j d).records in
        let size : length rs ≡ length d.records = length-set d.records j (handled_now (record_in d.records j)) in
        let whole = consequences_sound G H ok good (length rs) (omega (arith, o.number)) rs (handled_known G H d.records j l all) refl j (omega arith) in
        let rest = grown_all w (consequences G H rs j) (handled_in j d) one.holds (sound_whole whole) in
        record { holds = rest.holds; longer = omega (arith, one.longer, rest.longer) }

    pub step_grown : (d : Chart) → Holds w d → AllKnown G H d.records → (f : Option ℕ) → Below (length d.records) f → Grown w d (step_with G H (capacity w) d f)
    step_grown d o all None b = record { holds = o; longer = omega arith }
    step_grown d o all (Some j) b = handled_grown d j o all (below_at b)

    again_grown : (d : Chart) → Holds w d → AllKnown G H d.records → Grown w d (again G H (capacity w) d)
    unfolding step_chart
    again_grown d o all =
        cond_by (Grown w d) (eqb d.mark 0) {x = step_chart G H (capacity w) d} {y = d}
        (λ t. step_grown d o all (least_waiting d.records (length d.records)) (least_below d.records (length d.records)))
        (λ t. record { holds = o; longer = omega arith })

    pub run_grown : (c : Chart) → Holds w c → AllKnown G H c.records → (k : ℕ) → Grown w c (run_chart G H (capacity w) k c)
    run_grown c o all zero = subst (Grown w c) (sym (run_none G H (capacity w) c)) (record { holds = o; longer = omega arith })
    run_grown c o all (suc k) =
        let one = run_grown c o all k in
        let rest = again_grown (run_chart G H (capacity w) k c) one.holds (run_known G H ok good (capacity w) k c all) in
        subst (Grown w c) (sym (run_more G H (capacity w) k c)) (record { holds = rest.holds; longer = omega (arith, one.longer, rest.longer) })

  -- v are the words w after k steps
  pub record Ran (w : List ℕ) (k : ℕ) (v : List ℕ) : Type 0 where
    pub is : v ≡ written w (run_chart G H (capacity w) k (chart_of w))
    pub holds : Holds w (run_chart G H (capacity w) k (chart_of w))

  module _ (w : List ℕ) where
    pub ran_none : Fits w → Ran w 0 w
    ran_none o =
        let e = run_none G H (capacity w) (chart_of w) in
        record { is = chart_written w o ∙ ap (written w) (sym e); holds = subst (Holds w) (sym e) (holds_own w o) }

    module _ (k : ℕ) (v : List ℕ) (r : Ran w k v) where
      abbrev d : Chart
      d = run_chart G H (capacity w) k (chart_of w)

      pub ran_fits : Fits v
      ran_fits = subst Fits (sym r.is) (fits_written w d r.holds)

      chart_is : chart_of v ≡ d
      chart_is = ap chart_of r.is ∙ chart_of_written w d r.holds

      capacity_is : capacity v ≡ capacity w
      capacity_is = ap capacity r.is ∙ capacity_written w d r.holds

      pub ran_step : GrammarOk G → GraphOk G H → capacity w ≤ 4096 → AllKnown G H (chart_of v).records → (m : ℕ) (u : List ℕ) → m ≡ suc k → u ≡ written v (step_with G H (capacity v) (chart_of v) (next_in (chart_of v))) → Ran w m u
      ran_step ok good small all m u q p =
          let e : run_chart G H (capacity w) m (chart_of w) ≡ step_with G H (capacity w) d (next_in d) =
          ap (λ n. run_chart G H (capacity w) n (chart_of w)) q ∙ run_more G H (capacity w) k (chart_of w) ∙ next_again (capacity w) d in
          let g = step_grown ok good w small d r.holds (subst (λ (c : Chart). AllKnown G H c.records) chart_is all) (next_in d) (next_below d) in
          record {
            is =
                p ∙ ap (λ n. written v (step_with G H n (chart_of v) (next_in (chart_of v)))) capacity_is ∙ ap (λ (c : Chart). written v (step_with G H (capacity w) c (next_in c))) chart_is
                ∙ ap (λ (t : List ℕ). written t (step_with G H (capacity w) d (next_in d))) r.is ∙ written_over w d r.holds (step_with G H (capacity w) d (next_in d)) g.longer
                ∙ ap (written w) (sym e);
            holds = subst (Holds w) (sym e) g.holds;
          }

      pub ran_idle : (n : ℕ) (t : Bool) (u : List ℕ) → k ≤ n → not t ≡ true → t ≡ is_some (next_in (chart_of v)) → u ≡ written v (step_with G H (capacity v) (chart_of v) (next_in (chart_of v)))
          → u ≡ written w (run_chart G H (capacity w) n (chart_of w))
      ran_idle n t u l e a p =
          let none = nowhere (next_in (chart_of v)) (ap not (sym a) ∙ e) in
          let q : n ≡ k + (n - k) = omega arith in
          p ∙ ap (λ (f : Option ℕ). written v (step_with G H (capacity v) (chart_of v) f)) none ∙ sym (chart_written v ran_fits) ∙ r.is
          ∙ ap (written w) (sym (ap (λ i. run_chart G H (capacity w) i (chart_of w)) q ∙ run_split G H (capacity w) k (n - k) (chart_of w) ∙ next_none (capacity w) (n - k) d (sym none ∙ ap next_in chart_is)))

      pub ran_all : (n : ℕ) → k ≡ n → v ≡ written w (run_chart G H (capacity w) n (chart_of w))
      ran_all n q = r.is ∙ ap (λ i. written w (run_chart G H (capacity w) i (chart_of w))) q
