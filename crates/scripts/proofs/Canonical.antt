-- What is written is read back, and a text that reads is the one that is written for its rows.
use Prim.Native.Nat.{ℕ, zero, suc, ◌≤◌, ◌<◌}
use mathlib.Core.Path.{◌≡◌, refl, sym, ap, ◌∙◌}
use mathlib.Core.Bool.{Bool, true, false, cond, true≢false}
use mathlib.Core.List.{List, [], ◌∷◌}
use lib.ListN.{length, get_or}
use lib.Seq.{ext_get_or}
use native.Mathlib.Omega.{arith}
use Rattle.format.specs.Lines.{Line, lines_of, text_of}
use Rattle.format.proofs.LineLaws.{text_of_lines, lines_end}
use Rattle.format.specs.Fields.{field_count, number_of, fields_of}
use Rattle.format.proofs.FieldLaws.{fields_length, fields_in_lem}
use Rattle.format.specs.Writing.{line_body, Writable}
use Rattle.format.proofs.RoundTrip.{written_letter, written_count, written_number, written_fields, written_shape, written_line, shape_written, shape_writable}
use Rattle.scripts.specs.Scripts.{row_lines, rows_text, WritableLines, none, more, WritableRows, Script, bad, rows, with_row, has_letter, opens, rows_from, script_of, rows_in}
use Rattle.scripts.proofs.ScriptTests.{Lettered, has_lettered, lettered_has, opens_opening, opening_opens}

-- ---- rows that are read
abbrev is_bad : Script → Bool
is_bad bad = true
is_bad (rows rs) = false

abbrev rows_of : Script → List (List ℕ)
rows_of bad = []
rows_of (rows rs) = rs

pub bad_no_rows : {rs : List (List ℕ)} → bad ≡ rows rs → ⊥
bad_no_rows h = true≢false (ap is_bad h)

pub rows_same : {rs qs : List (List ℕ)} → rows rs ≡ rows qs → rs ≡ qs
rows_same h = ap rows_of h

-- rows come only of a line that passes
passed_rows : (x : Bool) (s : Script) (rs : List (List ℕ)) → cond x s bad ≡ rows rs → (x ≡ true) × (s ≡ rows rs)
passed_rows true s rs h = (refl, h)
passed_rows false s rs h = absurd (bad_no_rows h)

-- ---- one written line
written : ℕ → List ℕ → Line
written letter ns = record { bytes = line_body letter ns; ended = true }

written_lettered : (letter : ℕ) (ns : List ℕ) → Writable letter ns → Lettered letter (written letter ns)
unfolding written
written_lettered letter ns w = record { closed = refl; shape = written_shape letter ns w; first = written_letter letter ns }

-- a line that passes is the one that is written for its letter and fields
lettered_written : (letter : ℕ) (l : Line) → Lettered letter l → l ≡ written letter (fields_of l.bytes)
unfolding written
lettered_written letter l h =
    let bytes_are : l.bytes ≡ line_body letter (fields_of l.bytes) =
    shape_written l.bytes h.shape ∙ ap (λ (x : ℕ). line_body x (fields_of l.bytes)) h.first
    in
    made l.bytes (line_body letter (fields_of l.bytes)) l.ended bytes_are h.closed
  where
    made : (bs cs : List ℕ) (e : Bool) → bs ≡ cs → e ≡ true → ◌≡◌ {A = Line} (record { bytes = bs; ended = e }) (record { bytes = cs; ended = true })
    made bs cs e p q = rw (p, q)

lettered_writable : (letter : ℕ) (l : Line) → Lettered letter l → Writable letter (fields_of l.bytes)
lettered_writable letter l h = rw h.first at (shape_writable l.bytes h.shape)

-- ---- the count
count_small : (n k : ℕ) → n ≤ 4096 → get_or (n ∷ []) k 0 ≤ 9999
count_small n zero h = omega arith
count_small n (suc k) h = omega arith

count_writable : (n : ℕ) → n ≤ 4096 → Writable 68 (n ∷ [])
count_writable n h = record { capital = (omega arith, omega arith); some = omega arith; few = omega arith; small = λ k. count_small n k h }

count_number : (n : ℕ) → n ≤ 4096 → number_of (line_body 68 (n ∷ [])) 0 ≡ n
count_number n h = written_number 68 (n ∷ []) 0 (omega arith) (omega arith)

count_opens : (n : ℕ) → 1 ≤ n → n ≤ 4096 → opens (written 68 (n ∷ [])) ≡ true
unfolding written
count_opens n l h =
    opening_opens (written 68 (n ∷ []))
    (record {
      lettered = written_lettered 68 (n ∷ []) (count_writable n h);
      single = written_count 68 (n ∷ []);
      some = rw (count_number n h) l;
      few = rw (count_number n h) h;
    })

-- the fields of a line with one
single_field : (line : List ℕ) → field_count line ≡ 1 → fields_of line ≡ number_of line 0 ∷ []
single_field line h =
    ext_get_or 0 (fields_of line) (number_of line 0 ∷ []) (fields_length line ∙ h) (λ k b. at_first k (omega (arith, fields_length line)))
  where
    at_first : (k : ℕ) → k < 1 → get_or (fields_of line) k 0 ≡ get_or (number_of line 0 ∷ []) k 0
    at_first zero b = fields_in_lem line 0 0 (omega arith)
    at_first (suc k) b = absurd (omega arith)

-- ---- what is written is read back
lines_read : (rs : List (List ℕ)) → WritableLines rs → rows_from (length rs) (lines_of (row_lines rs)) ≡ rows rs
unfolding rows_from row_lines written
lines_read [] none = ap (rows_from 0) (lines_end [] 0 (omega arith))
lines_read (r ∷ rs) (more w ws) =
    ap (rows_from (suc (length rs))) (written_line 65 r (row_lines rs) (λ e. omega arith))
    ∙ rw (lettered_has 65 (written 65 r) (written_lettered 65 r w), written_fields 65 r w.small, lines_read rs ws)

pub text_rows_lem : (rs : List (List ℕ)) → WritableRows rs → rows_in (rows_text rs) ≡ rows rs
unfolding rows_in script_of rows_text written
text_rows_lem rs w =
    let n = length rs in
    ap script_of (written_line 68 (n ∷ []) (row_lines rs) (λ e. omega arith))
    ∙ rw (count_opens n w.some w.few, count_number n w.few) (lines_read rs w.each)

-- ---- a text that reads is the one that is written
-- what lines that read as n rows are
record Written (n : ℕ) (ls : List Line) (rs : List (List ℕ)) : Type 0 where
  lines : ls ≡ lines_of (row_lines rs)
  count : length rs ≡ n
  each : WritableLines rs

first_written : (n : ℕ) (l : Line) (ls : List Line) (s : Script) (rs : List (List ℕ)) → Lettered 65 l → with_row (fields_of l.bytes) s ≡ rows rs
    → ((qs : List (List ℕ)) → s ≡ rows qs → Written n ls qs) → Written (suc n) (l ∷ ls) rs
unfolding row_lines written
first_written n l ls bad rs h e later = absurd (bad_no_rows e)
first_written n l ls (rows qs) rs h e later =
    let r = fields_of l.bytes in
    let rest = later qs refl in
    let same : r ∷ qs ≡ rs = rows_same e in
    let all : l ∷ ls ≡ lines_of (row_lines (r ∷ qs)) =
    rw rest.lines (ap (λ (x : Line). x ∷ lines_of (row_lines qs)) (lettered_written 65 l h)) ∙ sym (written_line 65 r (row_lines qs) (λ z. omega arith))
    in
    record {
      lines = all ∙ ap (λ (x : List (List ℕ)). lines_of (row_lines x)) same;
      count = sym (ap length same) ∙ ap suc rest.count;
      each = rw (← same) (more (lettered_writable 65 l h) rest.each);
    }

read_lines_lem : (n : ℕ) (ls : List Line) (rs : List (List ℕ)) → rows_from n ls ≡ rows rs → Written n ls rs
unfolding rows_from row_lines
read_lines_lem zero [] rs h =
    let same : [] ≡ rs = rows_same h in
    rw (← same) (record { lines = sym (lines_end [] 0 (omega arith)); count = refl; each = none })
read_lines_lem zero (l ∷ ls) rs h = absurd (bad_no_rows h)
read_lines_lem (suc n) [] rs h = absurd (bad_no_rows h)
read_lines_lem (suc n) (l ∷ ls) rs h =
    let two = passed_rows (has_letter 65 l) _ rs h in
    first_written n l ls (rows_from n ls) rs (has_lettered 65 l two.0) two.1 (λ qs. read_lines_lem n ls qs)

read_script : (ls : List Line) (rs : List (List ℕ)) → script_of ls ≡ rows rs → (ls ≡ lines_of (rows_text rs)) × WritableRows rs
unfolding script_of rows_text written
read_script [] rs h = absurd (bad_no_rows h)
read_script (l ∷ ls) rs h =
    let two = passed_rows (opens l) _ rs h in
    let o = opens_opening l two.0 in
    let rest = read_lines_lem _ ls rs two.1 in
    let fields : fields_of l.bytes ≡ length rs ∷ [] =
    single_field l.bytes o.single ∙ ap (λ (x : ℕ). x ∷ []) (sym rest.count)
    in
    let head : l ≡ written 68 (length rs ∷ []) = lettered_written 68 l o.lettered ∙ ap (written 68) fields in (
      rw rest.lines (ap (λ (x : Line). x ∷ lines_of (row_lines rs)) head) ∙ sym (written_line 68 (length rs ∷ []) (row_lines rs) (λ z. omega arith)),
      record { some = rw rest.count o.some; few = rw rest.count o.few; each = rest.each },
    )

pub rows_text_lem : (text : List ℕ) (rs : List (List ℕ)) → rows_in text ≡ rows rs → (text ≡ rows_text rs) × WritableRows rs
unfolding rows_in
rows_text_lem text rs h =
    let both = read_script (lines_of text) rs h in
    (sym (text_of_lines text) ∙ ap text_of both.0 ∙ text_of_lines (rows_text rs), both.1)
