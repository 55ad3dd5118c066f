-- The derivation file as rows of numbers (01, 'Lines and columns'): a row is the list of the fields of one `A` line.
use Rattle.std.specs.Prelude.{ℕ, zero, suc, ◌+◌, ◌*◌, ◌≤◌, Bool, cond, ◌&&◌, List, [], ◌∷◌, ◌++◌, length, eqb, leb}
use Rattle.format.specs.Lines.{Line, lines_of}
use Rattle.format.specs.Fields.{field_count, number_of, fields_of}
use Rattle.format.specs.Shape.{letter_of, shape_of}
use Rattle.format.specs.Writing.{line_text, Writable}

-- ---- the text of rows
-- a line `A` for each row
unfoldable pub row_lines : List (List ℕ) → List ℕ
row_lines [] = []
row_lines (r ∷ rs) = line_text 65 r ++ row_lines rs

-- the line `D` with the number of rows, then the rows
unfoldable pub rows_text : List (List ℕ) → List ℕ
unfolding row_lines
rows_text rs = line_text 68 (length rs ∷ []) ++ row_lines rs

-- the bytes that the lines of rows take up
unfoldable pub row_bytes : List (List ℕ) → ℕ
row_bytes [] = 0
row_bytes (r ∷ rs) = (2 + 4 * length r) + row_bytes rs

-- each row has a line
pub data WritableLines : List (List ℕ) → Type 0 where
  none : WritableLines []
  more : {r : List ℕ} {rs : List (List ℕ)} → Writable 65 r → WritableLines rs → WritableLines (r ∷ rs)

-- the rows that have a text
pub record WritableRows (rs : List (List ℕ)) : Type 0 where
  pub some : 1 ≤ length rs
  pub few : length rs ≤ 4096
  pub each : WritableLines rs

-- ---- the rows of a text
pub data Script : Type 0 where
  bad : Script
  rows : List (List ℕ) → Script

abbrev pub with_row : List ℕ → Script → Script
with_row r bad = bad
with_row r (rows rs) = rows (r ∷ rs)

-- an ended line of the shape, with this letter
unfoldable pub has_letter : ℕ → Line → Bool
has_letter letter l = l.ended && (shape_of l.bytes && eqb (letter_of l.bytes) letter)

-- a line that may open the file: `D` and a number from 1 to 4,096
unfoldable pub opens : Line → Bool
opens l =
    has_letter 68 l
    && (eqb (field_count l.bytes) 1
    && (leb 1 (number_of l.bytes 0)
    && leb (number_of l.bytes 0) 4096))

-- n rows, one line after another, and nothing behind them
unfoldable pub rows_from : ℕ → List Line → Script
rows_from zero [] = rows []
rows_from zero (l ∷ ls) = bad
rows_from (suc n) [] = bad
rows_from (suc n) (l ∷ ls) =
    let rest = rows_from n ls in
    cond (has_letter 65 l) (with_row (fields_of l.bytes) rest) bad

-- the first line says how many rows follow
unfoldable pub script_of : List Line → Script
unfolding rows_from
script_of [] = bad
script_of (l ∷ ls) = cond (opens l) (rows_from (number_of l.bytes 0) ls) bad

-- A derivation file has no lines that do not count: its lines are those of the text.
unfoldable pub rows_in : List ℕ → Script
unfolding script_of
rows_in text = script_of (lines_of text)
