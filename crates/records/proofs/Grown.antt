-- Words with records added one after another: what callers of `add` know of them.
use Prim.Native.Nat.{ℕ, zero, suc, ◌≤◌, ◌<◌}
use mathlib.Core.Path.{◌≡◌, refl, sym, ap, ◌∙◌, subst}
use mathlib.Core.List.Memᴰ.{head as here}
use mathlib.Core.List.Memᴰ.{not-nil as in_nil}
use mathlib.Core.List.Memᴰ.{tail as there}
use mathlib.Core.List.{List, [], ◌∷◌, ◌++◌, Memᴰ as In, map}
use mathlib.Core.Bool.{Bool, true, false}
use native.Mathlib.Omega.{arith}
use lib.ListN.{length}
use Rattle.agenda.specs.declared.Record.{Record}
use Rattle.hrg.specs.ClosureRun.{guard, each_to}
use Rattle.agenda.specs.Records.{is_handled}
use Rattle.agenda.specs.Consequences.{gather, record_in}
use Rattle.agenda.specs.Steps.{Chart, added, added_all}
use Rattle.agenda.proofs.Growth.{Grew, all_grown}
use Rattle.agenda.proofs.Adding.{all_append}
use Rattle.records.specs.Words.{Compact, Fits, capacity, item_count, record_at, chart_of, written, added_to, grown_by}
use Rattle.records.proofs.Packing.{record_compact}
use Rattle.records.proofs.WordLaws.{length_records, record_in_lem, count_fits}
use Rattle.records.proofs.Written.{Holds, chart_written, add_written, capacity_written, fits_written, chart_of_written, written_over}
use Rattle.records.proofs.Rewritten.{Grown, grown_added}

-- each record of a list can be read again from its words
abbrev pub Whole : List Record → Type 0
Whole xs = (x : Record) → In x xs → Compact x

pub whole_none : Whole []
whole_none x m = absurd (in_nil m)

pub whole_one : {x : Record} → Compact x → Whole (x ∷ [])
whole_one e y (here q) = rw q e
whole_one e y (there m) = absurd (in_nil m)

pub whole_guard : (b : Bool) (xs : List Record) → (b ≡ true → Whole xs) → Whole (guard b xs)
whole_guard true xs e x m = e refl x m
whole_guard false xs e x m = absurd (in_nil m)

pub whole_append : (xs ys : List Record) → Whole xs → Whole ys → Whole (xs ++ ys)
whole_append [] ys e f y m = f y m
whole_append (x ∷ xs) ys e f y (here q) = e y (here q)
whole_append (x ∷ xs) ys e f y (there m) = whole_append xs ys (λ z n. e z (there n)) f y m

pub whole_map : {A : Type 0} (f : A → Record) (l : List A) → ((a : A) → In a l → Compact (f a)) → Whole (map f l)
whole_map f [] e x m = absurd (in_nil m)
whole_map f (a ∷ l) e x (here q) = rw q (e a (here refl))
whole_map f (a ∷ l) e x (there m) = whole_map f l (λ b n. e b (there n)) x m

pub whole_each : (n : ℕ) (f : ℕ → List Record) → ((k : ℕ) → k < n → Whole (f k)) → Whole (each_to n f)
whole_each zero f e x m = absurd (in_nil m)
whole_each (suc n) f e x m = whole_append (f n) (each_to n f) (e n (omega arith)) (whole_each n f (λ k l. e k (omega arith))) x m

pub whole_gather : (n : ℕ) (f : ℕ → List Record) → ((k : ℕ) → k < n → Whole (f k)) → Whole (gather n f)
unfolding gather
whole_gather zero f e x m = absurd (in_nil m)
whole_gather (suc n) f e x m = whole_append (gather n f) (f n) (whole_gather n f (λ k l. e k (omega arith))) (e n (omega arith)) x m

-- words that hold the chart that they stand for
pub holds_own : (w : List ℕ) → Fits w → Holds w (chart_of w)
unfolding chart_of
holds_own w f = record {
  header = f.header;
  number = omega (arith, count_fits w, length_records w (item_count w));
  compact = λ k l. subst Compact (sym (record_in_lem w (item_count w) k (omega (arith, length_records w (item_count w))))) (record_compact w k);
}

-- ---- several records more
pub grown_all : (w : List ℕ) (xs : List Record) (c : Chart) → Holds w c → Whole xs → Grown w c (added_all (capacity w) xs c)
unfolding added_all
grown_all w [] c o e = record { holds = o; longer = omega arith }
grown_all w (x ∷ xs) c o e =
    let one = grown_added w c o x (e x (here refl)) in
    let rest = grown_all w xs (added (capacity w) x c) one.holds (λ y m. e y (there m)) in
    record { holds = rest.holds; longer = omega (arith, one.longer, rest.longer) }

module _ (w : List ℕ) (f : Fits w) where
  pub grown_none : grown_by w [] ≡ w
  unfolding grown_by added_all
  grown_none = sym (chart_written w f)

  pub grown_one : (x : Record) → Compact x → added_to w x ≡ grown_by w (x ∷ [])
  unfolding grown_by added_all
  grown_one x e = add_written w x f e

  module _ (xs : List Record) (e : Whole xs) where
    whole : Grown w (chart_of w) (added_all (capacity w) xs (chart_of w))
    whole = grown_all w xs (chart_of w) (holds_own w f) e

    pub grown_fits : Fits (grown_by w xs)
    unfolding grown_by
    grown_fits = fits_written w _ whole.holds

    pub grown_capacity : capacity (grown_by w xs) ≡ capacity w
    unfolding grown_by
    grown_capacity = capacity_written w _ whole.holds

    pub grown_chart : chart_of (grown_by w xs) ≡ added_all (capacity w) xs (chart_of w)
    unfolding grown_by
    grown_chart = chart_of_written w _ whole.holds

    grown_is : grown_by w xs ≡ written w (added_all (capacity w) xs (chart_of w))
    unfolding grown_by
    grown_is = refl

    more_by : (ys : List Record) → Whole ys → (v : List ℕ) → capacity v ≡ capacity w → chart_of v ≡ added_all (capacity w) xs (chart_of w)
        → v ≡ written w (added_all (capacity w) xs (chart_of w)) → grown_by v ys ≡ grown_by w (xs ++ ys)
    unfolding grown_by
    more_by ys e' v p q r =
        let c = added_all (capacity w) xs (chart_of w) in
        let d = added_all (capacity w) ys c in
        let g : Grown w c d = grown_all w ys c whole.holds e' in
        ap (λ n. written v (added_all n ys (chart_of v))) p
        ∙ ap (λ (b : Chart). written v (added_all (capacity w) ys b)) q
        ∙ ap (λ (u : List ℕ). written u d) r
        ∙ written_over w c whole.holds d g.longer
        ∙ ap (written w) (sym (all_append (capacity w) xs ys (chart_of w)))

    -- further records
    pub grown_more : (ys : List Record) → Whole ys → grown_by (grown_by w xs) ys ≡ grown_by w (xs ++ ys)
    grown_more ys e' = more_by ys e' (grown_by w xs) grown_capacity grown_chart grown_is

    -- records that stay where they are
    grew : Grew (chart_of w).records (chart_of (grown_by w xs)).records
    grew = subst (λ (c : Chart). Grew (chart_of w).records c.records) (sym grown_chart) (all_grown (capacity w) xs (chart_of w))

    counted : (v : List ℕ) → length (chart_of v).records ≡ item_count v
    unfolding chart_of
    counted v = length_records v (item_count v)

    at : (v : List ℕ) (k : ℕ) → k < item_count v → record_in (chart_of v).records k ≡ record_at v k
    unfolding chart_of
    at v k l = record_in_lem v (item_count v) k l

    pub grown_longer : item_count w ≤ item_count (grown_by w xs)
    grown_longer = omega (arith, grew.longer, counted w, counted (grown_by w xs))

    pub grown_flag : (k : ℕ) → k < item_count w → is_handled (record_at (grown_by w xs) k) ≡ is_handled (record_at w k)
    grown_flag k l =
        sym (ap is_handled (at (grown_by w xs) k (omega (arith, grown_longer)))) ∙ grew.mark k (omega (arith, counted w)) ∙ ap is_handled (at w k l)

    pub grown_record : (k : ℕ) → k < item_count w → is_handled (record_at w k) ≡ true → record_at (grown_by w xs) k ≡ record_at w k
    grown_record k l h =
        sym (at (grown_by w xs) k (omega (arith, grown_longer))) ∙ grew.stays k (omega (arith, counted w)) (ap is_handled (at w k l) ∙ h) ∙ at w k l
