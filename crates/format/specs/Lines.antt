-- A text as its lines. A line feed is byte 10; places in a text are numbered from 0.
use Rattle.std.specs.Prelude.{ℕ, suc, ◌+◌, min, Bool, true, false, cond, List, [], ◌∷◌, ◌++◌, ◌≡◌, length, take, drop, eqb, ltb}
use Rattle.std.specs.Borrow.{Bor}

-- a line: its bytes without the line feed, and whether a line feed ends it
pub record Line : Type 0 where
  pub bytes : List ℕ
  pub ended : Bool

-- one byte more in front of the first line
unfoldable pub with_byte : ℕ → List Line → List Line
with_byte b [] = record { bytes = b ∷ []; ended = false } ∷ []
with_byte b (l ∷ ls) = record { bytes = b ∷ l.bytes; ended = l.ended } ∷ ls

-- The lines of a text: bytes after the last line feed are a line that is not ended, the empty text has none.
unfoldable pub lines_of : List ℕ → List Line
lines_of [] = []
lines_of (b ∷ bs) =
    let rest = lines_of bs in
    cond (eqb b 10) (record { bytes = []; ended = true } ∷ rest) (with_byte b rest)

-- the bytes that a line takes up in a text
unfoldable pub line_bytes : Line → List ℕ
line_bytes l = cond l.ended (l.bytes ++ 10 ∷ []) l.bytes

-- the text that has the given lines
unfoldable pub text_of : List Line → List ℕ
text_of [] = []
text_of (l ∷ ls) = line_bytes l ++ text_of ls

-- no byte is a line feed
pub data NoFeed : List ℕ → Type 0 where
  none : NoFeed []
  more : {b : ℕ} {bs : List ℕ} → (b ≡ 10 → ⊥) → NoFeed bs → NoFeed (b ∷ bs)

-- how many bytes stand before the first line feed, or before the end where there is none
unfoldable pub line_len : List ℕ → ℕ
line_len [] = 0
line_len (b ∷ bs) =
    let rest = line_len bs in
    cond (eqb b 10) 0 (suc rest)

-- the line that a text starts with
unfoldable pub line_of : List ℕ → List ℕ
line_of text = take (line_len text) text

-- where the line that starts at `from` starts: a place past the end is the end
unfoldable pub line_start : List ℕ → ℕ → ℕ
line_start text from = min from (length text)

-- where it ends: the place of its line feed, or the end of the text
unfoldable pub line_end : List ℕ → ℕ → ℕ
line_end text from = line_start text from + line_len (drop from text)

-- whether a line feed ends it
unfoldable pub is_ended : List ℕ → ℕ → Bool
is_ended text from = ltb (line_end text from) (length text)

-- the place behind its line feed, or the end of the text
unfoldable pub after_line : List ℕ → ℕ → ℕ
after_line text from = cond (is_ended text from) (line_end text from + 1) (length text)

-- where the next line that counts starts. Every line counts today: a text with remarks changes this definition alone.
unfoldable pub counting_start : List ℕ → ℕ → ℕ
counting_start text from = line_start text from

-- the lines of a text that count
abbrev pub counting_lines : List ℕ → List Line
counting_lines text = lines_of text

-- the next line that counts
unfoldable pub counting_of : List ℕ → ℕ → List ℕ
counting_of text from = line_of (drop (counting_start text from) text)

-- r is the part of the lent text that holds the given bytes from `start` on
pub record PartOf (text : Bor (List ℕ)) (start : ℕ) (bytes : List ℕ) (r : Bor (List ℕ)) : Type 0 where
  pub contents : r.now ≡ bytes
  pub part : bytes ≡ take (length bytes) (drop start text.now)
  pub block : r.ref_ptr.0 ≡ text.ref_ptr.0
  pub place : r.ref_ptr.1 ≡ text.ref_ptr.1 + start
