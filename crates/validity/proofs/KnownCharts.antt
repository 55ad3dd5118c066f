-- What a chart that passes question 8 is to its callers.
use mathlib.Core.Path.{◌≡◌, sym, ap, ◌∙◌, subst}
use mathlib.Core.Bool.{true}
use mathlib.Core.List.{List}
use Prim.Native.Nat.{ℕ, ◌≤◌, ◌<◌}
use native.Mathlib.Omega.{arith}
use lib.ListN.{length}
use lib.Dec.{leb}
use borrow.Author.Tests.{leb-true}
use Rattle.hrg.specs.Grammars.{Graph, Grammar}
use Rattle.hrg.proofs.ClosureRun.{of_and}
use Rattle.hrg.proofs.Degrees.{test_T}
use Rattle.agenda.specs.Consequences.{record_in}
use Rattle.agenda.specs.Steps.{Chart}
use Rattle.agenda.specs.declared.Record.{Record}
use Rattle.records.specs.Numbers.{number_in}
use Rattle.records.specs.Words.{capacity, item_count, record_at, records_at, chart_of, written, Fits}
use Rattle.records.proofs.WordLaws.{length_records, record_in_lem}
use Rattle.records.proofs.Written.{Holds, count_is, fits_written, chart_of_written}
use Rattle.validity.specs.Checking.{holds, known_record, known_chart}
use Rattle.validity.specs.Existing.{ExistingChart}
use Rattle.validity.proofs.ExistingTest.{T_test, known_image, known_existing, existing_known, chart_decides}

-- ---- a chart that holds an item has a header, and one that is known no more items than it holds
pub holds_header : (w : List ℕ) → holds w ≡ true → 2 ≤ length w
unfolding holds capacity
holds_header w e = let l = leb-true 1 (capacity w) (T_test _ (of_and (leb 1 (capacity w)) _ (test_T (holds w) e)).0) in omega arith

pub holds_most : (w : List ℕ) → holds w ≡ true → capacity w ≤ 4096
unfolding holds
holds_most w e = leb-true (capacity w) 4096 (T_test _ (of_and (leb 1 (capacity w)) _ (test_T (holds w) e)).1)

module _ (G : Grammar) (H : Graph) where
  known_chart_is : (w : List ℕ) → known_chart G H w ≡ true → ExistingChart G H w
  known_chart_is w e = (chart_decides G H w).sound (test_T (known_chart G H w) e)

  -- each of its items is known
  pub known_each : (w : List ℕ) → known_chart G H w ≡ true → (k : ℕ) → k < item_count w → known_record G H (number_in w) (record_at w k) ≡ true
  unfolding item_count
  known_each w e k l =
      let c = known_chart_is w e in
      existing_known G H (number_in w) (record_at w k) (c.image k (omega arith)) (c.each k (omega arith))

  pub known_fits : (w : List ℕ) → 2 ≤ length w → known_chart G H w ≡ true → Fits w
  known_fits w l e = record { header = l; number = (known_chart_is w e).number }

  -- ---- the chart that words stand for
  -- every record is known among them all
  abbrev pub AllKnown : List Record → Type 0
  AllKnown rs = (k : ℕ) → k < length rs → known_record G H (length rs) (record_in rs k) ≡ true

  module _ (w : List ℕ) (f : Fits w) where
    size_is : length (records_at w (item_count w)) ≡ number_in w
    size_is = length_records w (item_count w) ∙ count_is w f

    pub known_records : known_chart G H w ≡ true → AllKnown (chart_of w).records
    unfolding chart_of
    known_records e k l =
        let b : k < item_count w = omega (arith, length_records w (item_count w)) in
        ap (λ n. known_record G H n (record_in (records_at w (item_count w)) k)) size_is
        ∙ ap (known_record G H (number_in w)) (record_in_lem w (item_count w) k b)
        ∙ existing_known G H (number_in w) (record_at w k) ((known_chart_is w e).image k (omega (arith, count_is w f))) ((known_chart_is w e).each k (omega (arith, count_is w f)))

    pub records_known : AllKnown (chart_of w).records → known_chart G H w ≡ true
    unfolding chart_of
    records_known all =
        T_test (known_chart G H w)
        ((chart_decides G H w).complete
        (record {
          number = f.number;
          image = λ j l. known_image G H (number_in w) (record_at w j) (known j l);
          each = λ j l. known_existing G H (number_in w) (record_at w j) (known j l);
        }))
      where
        known : (j : ℕ) → j < number_in w → known_record G H (number_in w) (record_at w j) ≡ true
        known j l =
            let b : j < item_count w = omega (arith, count_is w f) in
            ap (known_record G H (number_in w)) (sym (record_in_lem w (item_count w) j b))
            ∙ ap (λ n. known_record G H n (record_in (records_at w (item_count w)) j)) (sym size_is)
            ∙ all j (omega (arith, length_records w (item_count w)))

  -- a chart of known records passes where it is written
  pub written_known : (w : List ℕ) (c : Chart) → Holds w c → AllKnown c.records → known_chart G H (written w c) ≡ true
  written_known w c o all =
      records_known (written w c) (fits_written w c o) (subst (λ (d : Chart). AllKnown d.records) (sym (chart_of_written w c o)) all)
