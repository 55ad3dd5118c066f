-- How rows are read, one law for each way that a line goes, by lines and by places in a text.
use Prim.Native.Nat.{ℕ, suc, ◌≤◌, ◌<◌}
use mathlib.Core.Path.{◌≡◌, refl, ap, ◌∙◌}
use mathlib.Core.Bool.{true, false}
use mathlib.Core.List.{List, [], ◌∷◌}
use lib.ListN.{length, drop}
use Rattle.format.specs.Lines.{Line, lines_of, line_of, is_ended, after_line}
use Rattle.format.proofs.LineLaws.{lines_at, lines_end}
use Rattle.format.specs.Fields.{number_of, fields_of}
use Rattle.scripts.specs.Scripts.{bad, rows, with_row, has_letter, opens, rows_from, script_of, rows_in}

-- ---- by lines
pub row_read : (n : ℕ) (l : Line) (ls : List Line) → has_letter 65 l ≡ true → rows_from (suc n) (l ∷ ls) ≡ with_row (fields_of l.bytes) (rows_from n ls)
unfolding rows_from
row_read n l ls h = rw h

pub row_refused : (n : ℕ) (l : Line) (ls : List Line) → has_letter 65 l ≡ false → rows_from (suc n) (l ∷ ls) ≡ bad
unfolding rows_from
row_refused n l ls h = rw h

pub row_missing : (n : ℕ) → rows_from (suc n) [] ≡ bad
unfolding rows_from
row_missing n = refl

pub rows_read : rows_from 0 [] ≡ rows []
unfolding rows_from
rows_read = refl

pub line_behind_lem : (l : Line) (ls : List Line) → rows_from 0 (l ∷ ls) ≡ bad
unfolding rows_from
line_behind_lem l ls = refl

pub script_opened : (l : Line) (ls : List Line) → opens l ≡ true → script_of (l ∷ ls) ≡ rows_from (number_of l.bytes 0) ls
unfolding script_of
script_opened l ls h = rw h

pub script_refused : (l : Line) (ls : List Line) → opens l ≡ false → script_of (l ∷ ls) ≡ bad
unfolding script_of
script_refused l ls h = rw h

pub script_missing : script_of [] ≡ bad
unfolding script_of
script_missing = refl

-- ---- by places in a text
-- the line at a place
abbrev pub line_at : List ℕ → ℕ → Line
line_at text from = record { bytes = line_of (drop from text); ended = is_ended text from }

module _ (text : List ℕ) (from : ℕ) where
  pub row_at_is : (n : ℕ) → from < length text → has_letter 65 (line_at text from) ≡ true
      → rows_from (suc n) (lines_of (drop from text)) ≡ with_row (fields_of (line_of (drop from text))) (rows_from n (lines_of (drop (after_line text from) text)))
  row_at_is n b h = ap (rows_from (suc n)) (lines_at text from b) ∙ row_read n (line_at text from) (lines_of (drop (after_line text from) text)) h

  pub row_refused_at : (n : ℕ) → from < length text → has_letter 65 (line_at text from) ≡ false → rows_from (suc n) (lines_of (drop from text)) ≡ bad
  row_refused_at n b h = ap (rows_from (suc n)) (lines_at text from b) ∙ row_refused n (line_at text from) (lines_of (drop (after_line text from) text)) h

  pub row_missing_at : (n : ℕ) → length text ≤ from → rows_from (suc n) (lines_of (drop from text)) ≡ bad
  row_missing_at n b = ap (rows_from (suc n)) (lines_end text from b) ∙ row_missing n

  pub rows_read_at : length text ≤ from → rows_from 0 (lines_of (drop from text)) ≡ rows []
  rows_read_at b = ap (rows_from 0) (lines_end text from b) ∙ rows_read

  pub line_behind_at : from < length text → rows_from 0 (lines_of (drop from text)) ≡ bad
  line_behind_at b = ap (rows_from 0) (lines_at text from b) ∙ line_behind_lem (line_at text from) (lines_of (drop (after_line text from) text))

-- the first line stands at place 0
pub script_opened_at : (text : List ℕ) → 0 < length text → opens (line_at text 0) ≡ true
    → rows_in text ≡ rows_from (number_of (line_of text) 0) (lines_of (drop (after_line text 0) text))
unfolding rows_in
script_opened_at text b h = ap script_of (lines_at text 0 b) ∙ script_opened (line_at text 0) (lines_of (drop (after_line text 0) text)) h

pub script_refused_at : (text : List ℕ) → 0 < length text → opens (line_at text 0) ≡ false → rows_in text ≡ bad
unfolding rows_in
script_refused_at text b h = ap script_of (lines_at text 0 b) ∙ script_refused (line_at text 0) (lines_of (drop (after_line text 0) text)) h

pub script_missing_at : (text : List ℕ) → length text ≤ 0 → rows_in text ≡ bad
unfolding rows_in
script_missing_at text b = ap script_of (lines_end text 0 b) ∙ script_missing
