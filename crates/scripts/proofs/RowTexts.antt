-- The text of rows: its length, rows behind rows, and a row at its place.
use Prim.Native.Nat.{ℕ, zero, suc, ◌+◌, ◌<◌}
use mathlib.Core.Path.{◌≡◌, refl, sym, ◌∙◌}
use mathlib.Core.List.{List, [], ◌∷◌, ◌++◌, append_assoc}
use lib.ListN.{length, get_or, length-append}
use native.Mathlib.Omega.{arith}
use Rattle.format.specs.Fields.{column, field_text}
use Rattle.format.specs.Writing.{fields_text, line_body, line_text, Writable}
use Rattle.format.proofs.WritingLaws.{line_text_length}
use Rattle.scripts.specs.Scripts.{row_lines, rows_text, row_bytes, WritableLines, none, more}

-- ---- lengths
lines_length : (rs : List (List ℕ)) → length (row_lines rs) ≡ row_bytes rs
unfolding row_lines row_bytes
lines_length [] = refl
lines_length (r ∷ rs) = length-append (line_text 65 r) (row_lines rs) ∙ omega (arith, line_text_length 65 r, lines_length rs)

pub text_length : (rs : List (List ℕ)) → length (rows_text rs) ≡ 6 + row_bytes rs
unfolding rows_text
text_length rs =
    length-append (line_text 68 (length rs ∷ [])) (row_lines rs) ∙ omega (arith, line_text_length 68 (length rs ∷ []), lines_length rs)

-- K2's derivation (01, 'Graphs K1 to K10')
abbrev pub k2_rows : List (List ℕ)
k2_rows = (0 ∷ 1 ∷ 0 ∷ 2 ∷ 1 ∷ 0 ∷ 1 ∷ []) ∷ (1 ∷ 0 ∷ 1 ∷ 2 ∷ 1 ∷ []) ∷ []

pub k2_bytes : length (rows_text k2_rows) ≡ 58
unfolding row_bytes
k2_bytes = text_length k2_rows

-- and its text: the three lines of 01, byte by byte
pub k2_text_lem : rows_text k2_rows
    ≡ 68 ∷ 32 ∷ 32 ∷ 32 ∷ 50 ∷ 10 ∷
    65 ∷ 32 ∷ 32 ∷ 32 ∷ 48 ∷ 32 ∷ 32 ∷ 32 ∷ 49 ∷ 32 ∷ 32 ∷ 32 ∷ 48 ∷ 32 ∷ 32 ∷ 32 ∷ 50 ∷ 32 ∷ 32 ∷ 32 ∷ 49 ∷ 32 ∷ 32 ∷ 32 ∷ 48 ∷ 32 ∷ 32 ∷ 32 ∷ 49 ∷ 10 ∷
    65 ∷ 32 ∷ 32 ∷ 32 ∷ 49 ∷ 32 ∷ 32 ∷ 32 ∷ 48 ∷ 32 ∷ 32 ∷ 32 ∷ 49 ∷ 32 ∷ 32 ∷ 32 ∷ 50 ∷ 32 ∷ 32 ∷ 32 ∷ 49 ∷ 10 ∷ []
unfolding rows_text row_lines line_text line_body fields_text field_text column
k2_text_lem = refl

-- ---- rows behind rows
pub lines_append : (rs qs : List (List ℕ)) → row_lines (rs ++ qs) ≡ row_lines rs ++ row_lines qs
unfolding row_lines
lines_append [] qs = refl
lines_append (r ∷ rs) qs = rw (lines_append rs qs) (sym (append_assoc (line_text 65 r) (row_lines rs) (row_lines qs)))

pub bytes_append : (rs qs : List (List ℕ)) → row_bytes (rs ++ qs) ≡ row_bytes rs + row_bytes qs
unfolding row_bytes
bytes_append [] qs = omega arith
bytes_append (r ∷ rs) qs = omega (arith, bytes_append rs qs)

pub writable_append : (rs qs : List (List ℕ)) → WritableLines rs → WritableLines qs → WritableLines (rs ++ qs)
writable_append [] qs none v = v
writable_append (r ∷ rs) qs (more w ws) v = more w (writable_append rs qs ws v)

pub writable_at : (rs : List (List ℕ)) → WritableLines rs → (k : ℕ) → k < length rs → Writable 65 (get_or rs k [])
writable_at [] none k h = absurd (omega arith)
writable_at (r ∷ rs) (more w ws) zero h = w
writable_at (r ∷ rs) (more w ws) (suc k) h = writable_at rs ws k (omega arith)
