-- A written line is read back, and a line of the shape is the one that is written for its letter and fields.
use Rattle.std.specs.Prelude.{ℕ, zero, suc, ◌+◌, ◌*◌, ◌%◌, ◌≤◌, ◌<◌, ◌≡◌, refl, true, List, [], ◌∷◌, ◌++◌, length, get_or, take, drop}
use Rattle.std.proofs.Common.{ap, ◌∙◌, append_assoc, drop_of_length-le, drop-cons, ext_get_or, arith, add-suc}
use Rattle.std.proofs.Math.ListN.{get_or-eq_default}
use Rattle.std.proofs.Math.Decide.{dec_lt}
use Rattle.format.specs.Lines.{lines_of, NoFeed, none, more}
use Rattle.format.proofs.LineLaws.{lines_of_line}
use Rattle.format.specs.Fields.{column, field_text, field_count, field_bytes, field_of, number_of, numbers_from, fields_of}
use Rattle.format.proofs.FieldLaws.{column_blank, column_digit, text_field, field_text_lem, field_missing, number_field, number_reads, fields_length, fields_in_lem}
use Rattle.format.specs.Shape.{letter_of, shape_of}
use Rattle.format.proofs.ShapeLaws.{shape_shaped, shaped_shape}
use Rattle.format.specs.Writing.{fields_text, line_body, line_text, Writable, line_fits}
use Rattle.format.proofs.WritingLaws.{line_body_length, fits_line}
use Rattle.format.specs.declared.Cell.TheVariants.{Number, Missing}

-- ---- a written line is read back
pub written_letter : (letter : ℕ) (ns : List ℕ) → letter_of (line_body letter ns) ≡ letter
unfolding letter_of line_body
written_letter letter ns = refl

pub written_count : (letter : ℕ) (ns : List ℕ) → field_count (line_body letter ns) ≡ length ns
unfolding field_count
written_count letter ns = omega (arith, line_body_length letter ns)

-- column j of field k among the fields
column_at : (ns : List ℕ) (k j : ℕ) → k < length ns → j < 4 → get_or (fields_text ns) (4 * k + j) 0 ≡ get_or (field_text (get_or ns k 0)) j 0
unfolding fields_text field_text
column_at [] k j h l = absurd (omega arith)
column_at (n ∷ ns) zero j h l = go j l
  where
    go : (j : ℕ) → j < 4 → get_or (column 1000 n ∷ column 100 n ∷ column 10 n ∷ (48 + n % 10) ∷ fields_text ns) (4 * zero + j) 0 ≡ get_or (column 1000 n ∷ column 100 n ∷ column 10 n ∷ (48 + n % 10) ∷ []) j 0
    go zero l = refl
    go (suc zero) l = refl
    go (suc (suc zero)) l = refl
    go (suc (suc (suc zero))) l = refl
    go (suc (suc (suc (suc j)))) l = absurd (omega arith)
column_at (n ∷ ns) (suc k) j h l =
    let e : 4 * suc k + j ≡ suc (suc (suc (suc (4 * k + j)))) = omega arith in
    rw e (column_at ns k j (omega arith) l)

byte_at : (letter : ℕ) (ns : List ℕ) (k j : ℕ) → k < length ns → j < 4 → get_or (letter ∷ fields_text ns) (4 * k + suc j) 0 ≡ get_or (field_text (get_or ns k 0)) j 0
byte_at letter ns k j h l = rw (add-suc (4 * k) j) (column_at ns k j h l)

pub written_bytes_lem : (letter : ℕ) (ns : List ℕ) (k : ℕ) → k < length ns → field_bytes (line_body letter ns) k ≡ field_text (get_or ns k 0)
unfolding field_bytes line_body field_text
written_bytes_lem letter ns k h =
    rw (
      byte_at letter ns k 0 h (omega arith),
      byte_at letter ns k 1 h (omega arith),
      byte_at letter ns k 2 h (omega arith),
      byte_at letter ns k 3 h (omega arith),
    )

pub written_field : (letter : ℕ) (ns : List ℕ) (k : ℕ) → k < length ns → get_or ns k 0 ≤ 9999 → field_of (line_body letter ns) k ≡ Number (get_or ns k 0)
written_field letter ns k h l =
    text_field (line_body letter ns) k (get_or ns k 0) (rw (written_count letter ns) h) l (written_bytes_lem letter ns k h)

pub written_missing : (letter : ℕ) (ns : List ℕ) (k : ℕ) → length ns ≤ k → field_of (line_body letter ns) k ≡ Missing
written_missing letter ns k h = field_missing (line_body letter ns) k (rw (written_count letter ns) h)

pub written_number : (letter : ℕ) (ns : List ℕ) (k : ℕ) → k < length ns → get_or ns k 0 ≤ 9999 → number_of (line_body letter ns) k ≡ get_or ns k 0
written_number letter ns k h l = number_field (line_body letter ns) k (get_or ns k 0) (written_field letter ns k h l)

pub written_fields : (letter : ℕ) (ns : List ℕ) → ((k : ℕ) → get_or ns k 0 ≤ 9999) → fields_of (line_body letter ns) ≡ ns
written_fields letter ns small =
    let size : length (fields_of (line_body letter ns)) ≡ length ns =
    fields_length (line_body letter ns) ∙ written_count letter ns
    in
    ext_get_or 0 (fields_of (line_body letter ns)) ns size
    (λ k h. fields_in_lem (line_body letter ns) k 0 (omega (arith, fields_length (line_body letter ns))) ∙ written_number letter ns k (omega arith) (small k))

pub written_shape : (letter : ℕ) (ns : List ℕ) → Writable letter ns → shape_of (line_body letter ns) ≡ true
unfolding letter_of line_body
written_shape letter ns w =
    let count = written_count letter ns in
    shaped_shape (line_body letter ns)
    (record {
      capital = w.capital;
      some = rw count w.some;
      few = rw count w.few;
      whole = rw count (line_body_length letter ns);
      numbers = λ k h. rw (written_number letter ns k (omega arith) (w.small k)) (w.small k);
    })

-- what is put into a buffer is of the shape
pub put_shape : (out : List ℕ) (at letter : ℕ) (fields : List ℕ) (count : ℕ) → line_fits out at letter fields count ≡ true
    → shape_of (line_body letter (take count fields)) ≡ true
put_shape out at letter fields count h = written_shape letter (take count fields) (fits_line out at letter fields count h).0

-- ---- a line of the shape is the one that is written
drop_field : (line : List ℕ) (k : ℕ) → 4 * k + 5 ≤ length line → drop (4 * k + 1) line ≡ field_bytes line k ++ drop (4 * (k + 1) + 1) line
unfolding field_bytes
drop_field line k h =
    let p = 4 * k in
    let last : 4 * (k + 1) + 1 ≡ suc (p + 4) = omega arith in
    drop-cons line (p + 1) 0 (omega arith)
    ∙ rw (next 1, drop-cons line (p + 2) 0 (omega arith), next 2, drop-cons line (p + 3) 0 (omega arith), next 3, drop-cons line (p + 4) 0 (omega arith), last)
  where
    next : (j : ℕ) → suc (4 * k + j) ≡ 4 * k + suc j
    next j = omega arith

fields_written : (line : List ℕ) (k n : ℕ) → length line ≡ 4 * (k + n) + 1 → ((i : ℕ) → i < k + n → number_of line i ≤ 9999)
    → drop (4 * k + 1) line ≡ fields_text (numbers_from line k n)
unfolding fields_text numbers_from
fields_written line k zero e small = drop_of_length-le line {i = 4 * k + 1} (omega arith)
fields_written line k (suc n) e small =
    let read = number_reads line k (small k (omega arith)) in
    drop_field line k (omega arith)
    ∙ rw ((field_text_lem line k (number_of line k) read).text, fields_written line (k + 1) n (omega arith) (λ i h. small i (omega arith)))

pub shape_written : (line : List ℕ) → shape_of line ≡ true → line ≡ line_body (letter_of line) (fields_of line)
unfolding line_body letter_of fields_of
shape_written line h =
    let s = shape_shaped line h in
    drop-cons line 0 0 (omega arith)
    ∙ ap (λ (l : List ℕ). get_or line 0 0 ∷ l) (fields_written line 0 (field_count line) (omega arith) (λ i l. s.numbers i (omega arith)))

pub shape_writable : (line : List ℕ) → shape_of line ≡ true → Writable (letter_of line) (fields_of line)
shape_writable line h =
    let s = shape_shaped line h in
    let size = fields_length line in
    record {
      capital = s.capital;
      some = rw size s.some;
      few = rw size s.few;
      small = λ k. go s.numbers k (dec_lt k (field_count line));
    }
  where
    go : ((k : ℕ) → k < field_count line → number_of line k ≤ 9999) → (k : ℕ) → Dec (k < field_count line) → get_or (fields_of line) k 0 ≤ 9999
    go small k (yes l) = rw (fields_in_lem line k 0 l) (small k l)
    go small k (no l) = rw (get_or-eq_default (fields_of line) 0 {n = k} (omega (arith, fields_length line))) (omega arith)

-- ---- a written line among lines
column_feed : (p n : ℕ) → column p n ≡ 10 → ⊥
column_feed p n e = go (dec_lt n p)
  where
    go : Dec (n < p) → ⊥
    go (yes h) = omega (arith, column_blank p n h)
    go (no h) = omega (arith, column_digit p n (omega arith))

fields_no_feed : (ns : List ℕ) → NoFeed (fields_text ns)
unfolding fields_text field_text
fields_no_feed [] = none
fields_no_feed (n ∷ ns) =
    more (column_feed 1000 n) (more (column_feed 100 n) (more (column_feed 10 n) (more {b = 48 + n % 10} (λ e. omega arith) (fields_no_feed ns))))

pub body_no_feed : (letter : ℕ) (ns : List ℕ) → (letter ≡ 10 → ⊥) → NoFeed (line_body letter ns)
unfolding line_body
body_no_feed letter ns h = more h (fields_no_feed ns)

pub written_line : (letter : ℕ) (ns rest : List ℕ) → (letter ≡ 10 → ⊥)
    → lines_of (line_text letter ns ++ rest) ≡ record { bytes = line_body letter ns; ended = true } ∷ lines_of rest
unfolding line_text
written_line letter ns rest h =
    rw (append_assoc (line_body letter ns) (10 ∷ []) rest) (lines_of_line (line_body letter ns) rest (body_no_feed letter ns h))
