-- The line that is due, judged where it stands in a table.
use Prim.Native.Nat.{ℕ, ◌-◌, ◌≤◌, ◌<◌}
use native.Mathlib.Omega.{arith}
use mathlib.Core.Path.{◌≡◌, refl, sym, ap, ap₂, ◌∙◌, subst}
use mathlib.Core.Bool.{Bool, true, false, ◌&&◌, false≢true}
use mathlib.Core.List.{List}
use lib.ListN.{length, get_or, take, drop}
use lib.Seq.{get_or-take, ext_get_or, length-take-le}
use lib.Dec.{eqb}
use borrow.Author.Tests.{eqb-true, eqb-false}
use Rattle.hrg.specs.Counts.{tabulate}
use Rattle.hrg.proofs.Sums.{length_tabulate}
use Rattle.questions.specs.declared.Due.{Due}
use Rattle.questions.specs.declared.Refusal.{Refusal}
use Rattle.questions.specs.Refusing.{number_of, number_in}
use Rattle.questions.proofs.Refusals.{number_some}
use Rattle.questions.specs.Layout.{place_of, line_field}
use Rattle.questions.specs.Questions.{judge}
use Rattle.questions.specs.Checking.{fields_due, stored_fields}
use Rattle.questions.proofs.StoredLaws.{get_d_tabulate}
use Rattle.std.specs.Prelude.{⊤, Result, Ok, Err, is_ok}
use Rattle.tables.specs.Concluding.{behind, Judged, Stands}

-- ---- whether a line's word ends with its fields
module _ (t : List ℕ) (p n : ℕ) (z : Bool) (e : z ≡ eqb (behind t p n) 0) where
  pub ends_yes : z ≡ true → behind t p n ≡ 0
  ends_yes y = eqb-true (behind t p n) 0 (sym e ∙ y)

  pub ends_no : z ≡ false → behind t p n ≡ 0 → ⊥
  ends_no y = eqb-false (behind t p n) 0 (sym e ∙ y)

-- at the place that is called so
pub ends_at : (t : List ℕ) (p q n : ℕ) (z : Bool) → p ≡ q → z ≡ eqb (behind t p n) 0 → z ≡ eqb (behind t q n) 0
ends_at t p q n z same e = e ∙ ap (λ i. eqb (behind t i n) 0) same

-- ---- its fields, put into f one by one
abbrev pub Copied : List ℕ → ℕ → List ℕ → ℕ → Type 0
Copied t p f k = (j : ℕ) → j < k → get_or f j 0 ≡ line_field t p j

module _ (t : List ℕ) (p : ℕ) (f : List ℕ) (k : ℕ) (C : Copied t p f k) where
  pub copied_done : (n : ℕ) → n ≤ k → n ≤ length f → take n f ≡ tabulate n (λ j. line_field t p j)
  copied_done n b l =
      let long = length_tabulate n (λ j. line_field t p j) in
      ext_get_or 0 (take n f) (tabulate n (λ j. line_field t p j)) (length-take-le n f l ∙ sym long)
      λ j d.
      get_or-take n f j 0 (omega (arith, length-take-le n f l)) ∙ C j (omega (arith, length-take-le n f l))
      ∙ sym (get_d_tabulate n (λ j. line_field t p j) j 0 (omega (arith, length-take-le n f l)))

-- ---- and judged
-- the line at place p is the one that is due
module _ (g t : List ℕ) (due : Due) (p n : ℕ) (place : p ≡ place_of due) (count : n ≡ fields_due g t t due) where
  fields : tabulate n (λ j. line_field t p j) ≡ stored_fields g t t due
  unfolding stored_fields
  fields = ap₂ (λ m q. tabulate m (λ j. line_field t q j)) count place

  there : behind t p n ≡ behind t (place_of due) (fields_due g t t due)
  there = ap₂ (behind t) place count

  module _ (k : ℕ) (judged : k ≡ judge g t due (stored_fields g t t due)) where
    stands_no : (k ≡ 0 → ⊥) → Stands g t due false
    stands_no h = record { yes = λ y. absurd (false≢true y); no = λ y s. h (judged ∙ s.passed) }

    stands_rest : k ≡ 0 → (b : Bool) → b ≡ eqb (behind t p n) 0 → Stands g t due b
    stands_rest h b z = record {
      yes = λ y. record { passed = sym judged ∙ h; rest = sym there ∙ ends_yes t p n b z y };
      no = λ y s. ends_no t p n b z y (there ∙ s.rest);
    }

  -- its fields are the first n of f, and k is their number
  module _ (f : List ℕ) (own : take n f ≡ tabulate n (λ j. line_field t p j)) (k : ℕ) (e : k ≡ judge g t due (take (n - 0) (drop 0 f))) where
    part : take (n - 0) (drop 0 f) ≡ tabulate n (λ j. line_field t p j)
    part = ap (λ m. take m f) (let s : n - 0 ≡ n = omega arith in s) ∙ own

    pub part_no : (k ≡ 0 → ⊥) → Stands g t due false
    part_no = stands_no k (e ∙ ap (judge g t due) (part ∙ fields))

    pub part_rest : k ≡ 0 → (b : Bool) → b ≡ eqb (behind t p n) 0 → Stands g t due b
    part_rest = stands_rest k (e ∙ ap (judge g t due) (part ∙ fields))

  -- J says what the questions of its kind answer
  module _ (J : List ℕ → Result ⊤ Refusal → Type 0) (own : (fs : List ℕ) (k : Result ⊤ Refusal) → J fs k → number_in k ≡ judge g t due fs) where
    answered : (k : Result ⊤ Refusal) → J (tabulate n (λ j. line_field t p j)) k → number_in k ≡ judge g t due (stored_fields g t t due)
    answered k a = own _ k a ∙ ap (judge g t due) fields

    verdict : (k : Result ⊤ Refusal) → J (tabulate n (λ j. line_field t p j)) k → (b : Bool) → b ≡ (is_ok k && eqb (behind t p n) 0) → Stands g t due b
    verdict (Ok x) a b z = stands_rest 0 (answered (Ok x) a) refl b z
    verdict (Err r) a b z = subst (Stands g t due) (sym z) (stands_no (number_of r) (answered (Err r) a) (number_some r))

    pub stands_by : (b : Bool) → Judged J t p n b → Stands g t due b
    stands_by b j = verdict j.answer j.asked b j.so
