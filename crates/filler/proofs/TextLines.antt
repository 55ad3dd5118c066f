-- The lines of a written text that lies at the front of a longer one, by their places.
use mathlib.Core.Path.{◌≡◌, sym, ap, ◌∙◌}
use mathlib.Core.Bool.{true}
use mathlib.Core.List.{List, [], ◌∷◌, ◌++◌, append_assoc}
use Prim.Native.Nat.{ℕ, zero, suc, ◌*◌, ◌≤◌, ◌<◌}
use native.Mathlib.Omega.{arith}
use lib.ListN.{length, drop, get_or, length-append, length-drop}
use lib.Seq.{drop_at, drop-cons}
use Rattle.format.specs.Lines.{Line, lines_of, text_of, line_of, is_ended, after_line}
use Rattle.format.proofs.LineLaws.{lines_at, text_of_lines}
use Rattle.format.specs.Fields.{number_of, fields_of}
use Rattle.format.specs.Writing.{line_body, line_text}
use Rattle.format.proofs.WritingLaws.{line_text_length}
use Rattle.format.proofs.RoundTrip.{written_line, written_fields, written_number}
use Rattle.scripts.specs.Scripts.{row_lines, rows_text, row_bytes, WritableLines, none, more, WritableRows}
use Rattle.scripts.proofs.RowTexts.{text_length, writable_at}
use Rattle.filler.specs.Rows.{offset_of}

-- ---- one line
first_bytes : {x y : Line} {xs ys : List Line} → x ∷ xs ≡ y ∷ ys → x.bytes ≡ y.bytes
first_bytes e = cc

later_lines : {x y : Line} {xs ys : List Line} → x ∷ xs ≡ y ∷ ys → xs ≡ ys
later_lines e = cc

module _ (text : List ℕ) (at letter : ℕ) (ns tail : List ℕ) (capital : letter ≡ 10 → ⊥) (here : drop at text ≡ line_text letter ns ++ tail) where
  inside : at < length text
  inside = omega (arith, ap length here, length-drop at text, length-append (line_text letter ns) tail, line_text_length letter ns)

  both_ways : record { bytes = line_of (drop at text); ended = is_ended text at } ∷ lines_of (drop (after_line text at) text)
      ≡ record { bytes = line_body letter ns; ended = true } ∷ lines_of tail
  both_ways = sym (lines_at text at inside) ∙ ap lines_of here ∙ written_line letter ns tail capital

  -- the line that is written there is read
  pub line_here : line_of (drop at text) ≡ line_body letter ns
  line_here = first_bytes both_ways

  -- and leads to what is written behind it
  pub line_leads : drop (after_line text at) text ≡ tail
  line_leads = sym (text_of_lines (drop (after_line text at) text)) ∙ ap text_of (later_lines both_ways) ∙ text_of_lines tail

-- ---- the rows of a text
module _ (rs : List (List ℕ)) (text rest : List ℕ) (front : text ≡ rows_text rs ++ rest) where
  from_first : drop 0 text ≡ line_text 68 (length rs ∷ []) ++ (row_lines rs ++ rest)
  unfolding rows_text
  from_first = front ∙ append_assoc (line_text 68 (length rs ∷ [])) (row_lines rs) rest

  -- the number of rows in the first line
  pub count_said : length rs ≤ 4096 → number_of (line_of (drop 0 text)) 0 ≡ length rs
  count_said few =
      ap (λ (l : List ℕ). number_of l 0) (line_here text 0 68 (length rs ∷ []) (row_lines rs ++ rest) (λ e. omega arith) from_first)
      ∙ written_number 68 (length rs ∷ []) 0 (omega arith) (omega arith)

  row_first : (k : ℕ) → k < length rs → row_lines (drop k rs) ++ rest ≡ line_text 65 (get_or rs k []) ++ (row_lines (drop (suc k) rs) ++ rest)
  unfolding row_lines
  row_first k h =
      ap (λ (l : List (List ℕ)). row_lines l ++ rest) (drop-cons rs k [] h) ∙ append_assoc (line_text 65 (get_or rs k [])) (row_lines (drop (suc k) rs)) rest

  -- the rows from row k on
  rows_from_is : (k : ℕ) → k ≤ length rs → drop (offset_of text k) text ≡ row_lines (drop k rs) ++ rest
  unfolding offset_of
  rows_from_is zero h = ap (drop 6) from_first ∙ drop_at (line_text 68 (length rs ∷ [])) (row_lines rs ++ rest) 6 (line_text_length 68 (length rs ∷ []))
  rows_from_is (suc k) h =
      line_leads text (offset_of text k) 65 (get_or rs k []) (row_lines (drop (suc k) rs) ++ rest) (λ e. omega arith) (rows_from_is k (omega arith) ∙ row_first k h)

  -- the fields of the line of row k
  pub row_fields : WritableLines rs → (k : ℕ) → k < length rs → fields_of (line_of (drop (offset_of text k) text)) ≡ get_or rs k []
  row_fields each k h =
      ap fields_of (line_here text (offset_of text k) 65 (get_or rs k []) (row_lines (drop (suc k) rs) ++ rest) (λ e. omega arith) (rows_from_is k (omega arith) ∙ row_first k h))
      ∙ written_fields 65 (get_or rs k []) (writable_at rs each k h).small

-- ---- the longest text
bytes_most : (rs : List (List ℕ)) → WritableLines rs → row_bytes rs ≤ 74 * length rs
unfolding row_bytes
bytes_most [] none = omega arith
bytes_most (r ∷ rs) (more w ws) = omega (arith, w.few, bytes_most rs ws)

pub text_most : (rs : List (List ℕ)) → WritableRows rs → length (rows_text rs) ≤ 303110
text_most rs w = omega (arith, text_length rs, bytes_most rs w.each, w.few)
