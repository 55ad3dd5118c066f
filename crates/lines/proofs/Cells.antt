-- The texts of numbers below 100.
use mathlib.Core.Path.{◌≡◌, refl, sym, ap, ◌∙◌}
use mathlib.Core.Bool.{Bool}
use mathlib.Core.List.{List, [], ◌∷◌}
use lib.ListN.{length, get_or}
use lib.Dec.{eqb}
use lib.Pointwise.{pointwise}
use Prim.Native.Nat.{ℕ, ◌+◌, ◌-◌, ◌*◌, ◌≤◌}
use native.Mathlib.Omega.{arith}
use Rattle.format.specs.Fields.{digit_of, field_text, value_from, value_of, cell_of, none, more}
use Rattle.format.specs.Tests.{same_bytes}
use Rattle.format.proofs.FieldLaws.{digit_in, value_four, cell_yes, cell_no}
use Rattle.format.proofs.TestLaws.{same_pointwise}
use Rattle.format.proofs.DecimalLaws.{decimal_reads}
use Rattle.format.specs.declared.Cell.TheVariants.{Number}

pub one_digit : (c d n : ℕ) → 48 ≤ d → d ≤ 57 → c ≡ 32 → n ≡ d - 48 → Number n ≡ cell_of (32 ∷ 32 ∷ c ∷ d ∷ [])
unfolding value_of value_from
one_digit c d n l h e q =
    sym (ap (λ x. cell_of (32 ∷ 32 ∷ x ∷ d ∷ [])) e
    ∙ decimal_reads (32 ∷ 32 ∷ 32 ∷ d ∷ []) n (omega arith)
    (record {
      blanks = 3;
      digits = d ∷ [];
      columns = refl;
      four = refl;
      numeral = more l h none;
      some = omega arith;
      lead = λ z. refl;
      value = omega (arith, digit_in d l h);
    }))

pub two_digits : (c d n : ℕ) → 48 ≤ d → d ≤ 57 → 49 ≤ c → c ≤ 57 → n ≡ (c - 48) * 10 + (d - 48) → Number n ≡ cell_of (32 ∷ 32 ∷ c ∷ d ∷ [])
unfolding value_of value_from
two_digits c d n l h k m q =
    let tens : 48 ≤ c = omega arith in
    sym (decimal_reads (32 ∷ 32 ∷ c ∷ d ∷ []) n (omega arith)
    (record {
      blanks = 2;
      digits = c ∷ d ∷ [];
      columns = refl;
      four = refl;
      numeral = more tens m (more l h none);
      some = omega arith;
      lead = λ z. absurd (omega arith);
      value = omega (arith, digit_in c tens m, digit_in d l h);
    }))

-- ---- four bytes
pub four_bytes : (l : List ℕ) → length l ≡ 4 → l ≡ get_or l 0 0 ∷ get_or l 1 0 ∷ get_or l 2 0 ∷ get_or l 3 0 ∷ []
four_bytes [] h = absurd (omega arith)
four_bytes (a ∷ []) h = absurd (omega arith)
four_bytes (a ∷ b ∷ []) h = absurd (omega arith)
four_bytes (a ∷ b ∷ c ∷ []) h = absurd (omega arith)
four_bytes (a ∷ b ∷ c ∷ d ∷ []) h = refl
four_bytes (a ∷ b ∷ c ∷ d ∷ e ∷ l) h = absurd (omega arith)

pub value_cell : (l : List ℕ) → length l ≡ 4
    → value_of l ≡ ((digit_of (get_or l 0 0) * 10 + digit_of (get_or l 1 0)) * 10 + digit_of (get_or l 2 0)) * 10 + digit_of (get_or l 3 0)
value_cell l h = ap value_of (four_bytes l h) ∙ value_four (get_or l 0 0) (get_or l 1 0) (get_or l 2 0) (get_or l 3 0)

-- bytes compared with the text of a number
pub compared : (bs text : List ℕ) (n : ℕ) (b : Bool) → text ≡ field_text n → b ≡ pointwise eqb bs text → b ≡ same_bytes bs (field_text n)
compared bs text n b p e = e ∙ rw p (same_pointwise bs (field_text n))

pub ruleset comparing = (cell_yes, cell_no, compared)
