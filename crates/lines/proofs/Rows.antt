-- Laws of the loop that fills a row with the fields of a line.
use mathlib.Core.Path.{◌≡◌, ap, ◌∙◌}
use mathlib.Core.List.{List}
use Prim.Native.Nat.{ℕ, ◌+◌, ◌≤◌, ◌<◌}
use native.Mathlib.Omega.{arith}
use native.Mathlib.Numerals.{add-one}
use lib.ListN.{length, take, set}
use lib.Seq.{take-suc, take-suc-set, take_all}
use Rattle.format.specs.Fields.{field_count, fields_of, number_of}
use Rattle.format.proofs.FieldLaws.{fields_length, fields_in_lem}

pub row_more : (line row : List ℕ) (k x : ℕ) → k < field_count line → k < length row → x ≡ number_of line k → take k row ≡ take k (fields_of line)
    → take (k + 1) (set row k x) ≡ take (k + 1) (fields_of line)
row_more line row k x h l e p =
    let within : k < length (fields_of line) = omega (arith, fields_length line) in
    rw (add-one, take-suc-set row k x l, take-suc (fields_of line) k 0 within, fields_in_lem line k 0 h, p, e)

pub row_done : (line row : List ℕ) (k count : ℕ) → count ≡ field_count line → k ≤ count → count ≤ k → take k row ≡ take k (fields_of line)
    → take count row ≡ fields_of line
row_done line row k count e l m p =
    let end : count ≡ k = omega arith in
    ap (λ (n : ℕ). take n row) end ∙ p ∙ take_all k (fields_of line) (omega (arith, fields_length line))
