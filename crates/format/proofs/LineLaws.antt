-- Laws of lines: a loop over a text by places is a loop over its lines, and a text is what its lines make up.
use Rattle.std.specs.Prelude.{ℕ, suc, ◌+◌, ◌-◌, ◌≤◌, ◌<◌, min, ◌≡◌, refl, Bool, true, false, cond, List, [], ◌∷◌, ◌++◌, length, get_or, take, drop, eqb, ltb}
use Rattle.std.proofs.Common.{sym, ◌∙◌, length-drop, drop_of_length-le, drop-cons, drop-drop, length-take-le, arith, add-one, eq-eqb, ne_eqb, eqb-true, lt-ltb, le-ltb, ltb-true, ltb-false}
use Rattle.std.proofs.Math.Seq.{drop-length}
use Rattle.std.proofs.Math.Dec.{leb-suc-suc}
use Rattle.std.proofs.Math.Decide.{dec_lt}
use Rattle.std.proofs.lemmas.Bool.{eqb-false}
use Rattle.format.specs.Lines.{Line, with_byte, lines_of, line_bytes, text_of, NoFeed, none, more, line_len, line_of, line_start, line_end, is_ended, after_line, counting_start, counting_of, counting_lines}

-- ---- a text is what its lines make up
text_more : (b : ℕ) (ls : List Line) → text_of (with_byte b ls) ≡ b ∷ text_of ls
unfolding text_of with_byte line_bytes
text_more b [] = refl
text_more b (l ∷ ls) = go l.ended
  where
    go : (x : Bool) → cond x ((b ∷ l.bytes) ++ 10 ∷ []) (b ∷ l.bytes) ++ text_of ls ≡ b ∷ (cond x (l.bytes ++ 10 ∷ []) l.bytes ++ text_of ls)
    go true = refl
    go false = refl

pub text_of_lines : (text : List ℕ) → text_of (lines_of text) ≡ text
unfolding text_of lines_of line_bytes
text_of_lines [] = refl
text_of_lines (b ∷ bs) = go (eqb b 10) refl (text_of_lines bs)
  where
    go : (x : Bool) → eqb b 10 ≡ x → text_of (lines_of bs) ≡ bs → text_of (cond x (record { bytes = []; ended = true } ∷ lines_of bs) (with_byte b (lines_of bs))) ≡ b ∷ bs
    go true e h = rw (h, eqb-true b 10 e)
    go false e h = rw (text_more b (lines_of bs), h)

-- no line has a line feed in it
pub line_no_feed : (text : List ℕ) → NoFeed (line_of text)
unfolding line_of line_len
line_no_feed [] = none
line_no_feed (b ∷ bs) = go (eqb b 10) refl (line_no_feed bs)
  where
    go : (x : Bool) → eqb b 10 ≡ x → NoFeed (take (line_len bs) bs) → NoFeed (take (cond x 0 (suc (line_len bs))) (b ∷ bs))
    go true e h = none
    go false e h = more (eqb-false b 10 e) h

-- ---- the lines of a text that is put together
pub lines_of_line : (l rest : List ℕ) → NoFeed l → lines_of (l ++ 10 ∷ rest) ≡ record { bytes = l; ended = true } ∷ lines_of rest
unfolding lines_of with_byte
lines_of_line [] rest none = refl
lines_of_line (b ∷ bs) rest (more n h) = rw (ne_eqb b 10 n, lines_of_line bs rest h)

-- what stands behind the last line feed is a line that is not ended
pub lines_of_rest : (b : ℕ) (bs : List ℕ) → NoFeed (b ∷ bs) → lines_of (b ∷ bs) ≡ record { bytes = b ∷ bs; ended = false } ∷ []
unfolding lines_of with_byte
lines_of_rest b [] (more n h) = rw (ne_eqb b 10 n)
lines_of_rest b (d ∷ ds) (more n h) = rw (ne_eqb b 10 n, lines_of_rest d ds h)

-- ---- places
pub line_len_le : (text : List ℕ) → line_len text ≤ length text
unfolding line_len
line_len_le [] = omega arith
line_len_le (b ∷ bs) = go (eqb b 10) (line_len_le bs)
  where
    go : (x : Bool) → line_len bs ≤ length bs → cond x 0 (suc (line_len bs)) ≤ suc (length bs)
    go true h = omega arith
    go false h = omega arith

pub line_of_length : (text : List ℕ) → length (line_of text) ≡ line_len text
unfolding line_of
line_of_length text = length-take-le (line_len text) text (line_len_le text)

pub start_in : (text : List ℕ) (from : ℕ) → from ≤ length text → line_start text from ≡ from
unfolding line_start
start_in text from h = omega arith

pub start_le : (text : List ℕ) (from : ℕ) → line_start text from ≤ length text
unfolding line_start
start_le text from = omega arith

pub drop_start : (text : List ℕ) (from : ℕ) → drop (line_start text from) text ≡ drop from text
unfolding line_start
drop_start text from = go (dec_lt from (length text))
  where
    go : Dec (from < length text) → drop (min from (length text)) text ≡ drop from text
    go (yes h) =
        let e : min from (length text) ≡ from = omega arith in
        rw e
    go (no h) =
        let e : min from (length text) ≡ length text = omega arith in
        rw e (drop-length text ∙ sym (drop_of_length-le text {i = from} (omega arith)))

pub end_le : (text : List ℕ) (from : ℕ) → line_end text from ≤ length text
unfolding line_end line_start
end_le text from = omega (arith, line_len_le (drop from text), length-drop from text)

pub start_le_end : (text : List ℕ) (from : ℕ) → line_start text from ≤ line_end text from
unfolding line_end
start_le_end text from = omega arith

pub end_in : (text : List ℕ) (from : ℕ) → from ≤ length text → line_end text from ≡ from + line_len (drop from text)
unfolding line_end
end_in text from h = rw (start_in text from h)

-- ---- the search for the end of a line: where it begins, and each way that a turn goes
pub scan_start : (text : List ℕ) (from : ℕ) → line_start text from + line_len (drop (line_start text from) text) ≡ line_end text from
unfolding line_end
scan_start text from = rw (drop_start text from)

pub scan_end : (text : List ℕ) (i : ℕ) → length text ≤ i → line_len (drop i text) ≡ 0
unfolding line_len
scan_end text i h = rw (drop_of_length-le text {i = i} h)

pub scan_feed : (text : List ℕ) (i : ℕ) → i < length text → get_or text i 0 ≡ 10 → line_len (drop i text) ≡ 0
unfolding line_len
scan_feed text i h e = rw (drop-cons text i 0 h, eq-eqb (get_or text i 0) 10 e)

pub scan_more : (text : List ℕ) (i : ℕ) → i < length text → (get_or text i 0 ≡ 10 → ⊥) → line_len (drop i text) ≡ suc (line_len (drop (i + 1) text))
unfolding line_len
scan_more text i h e = rw (drop-cons text i 0 h, ne_eqb (get_or text i 0) 10 e, add-one)

-- ---- the line at a place is a part of the text
pub line_part : (text : List ℕ) (from : ℕ) → take (line_end text from - line_start text from) (drop (line_start text from) text) ≡ line_of (drop from text)
unfolding line_of line_end
line_part text from =
    let e : line_start text from + line_len (drop from text) - line_start text from ≡ line_len (drop from text) = omega arith in
    rw (e, drop_start text from)

pub part_line : (text : List ℕ) (from : ℕ) → line_of (drop from text) ≡ take (length (line_of (drop from text))) (drop (line_start text from) text)
unfolding line_of
part_line text from = rw (drop_start text from, length-take-le (line_len (drop from text)) (drop from text) (line_len_le (drop from text)))

-- ---- the lines from a place on
-- one byte in front of a text whose first line is known
first_more : (b : ℕ) (t : List ℕ) (x : Bool) → lines_of t ≡ record { bytes = take (line_len t) t; ended = ltb (line_len t) (length t) } ∷ lines_of (drop (line_len t + 1) t)
    → cond x (record { bytes = []; ended = true } ∷ lines_of t) (with_byte b (lines_of t))
    ≡ record { bytes = take (cond x 0 (suc (line_len t))) (b ∷ t); ended = ltb (cond x 0 (suc (line_len t))) (suc (length t)) }
    ∷ lines_of (drop (cond x 0 (suc (line_len t)) + 1) (b ∷ t))
unfolding with_byte
first_more b t true h = rw (lt-ltb 0 (suc (length t)) (omega arith))
first_more b t false h = rw (h, add-one (line_len t), add-one (suc (line_len t)), leb-suc-suc (suc (line_len t)) (length t))

lines_first : (t : List ℕ) → 0 < length t → lines_of t ≡ record { bytes = take (line_len t) t; ended = ltb (line_len t) (length t) } ∷ lines_of (drop (line_len t + 1) t)
unfolding lines_of line_len with_byte
lines_first [] h = absurd (omega arith)
lines_first (b ∷ []) h = go (eqb b 10)
  where
    go : (x : Bool) → cond x (record { bytes = []; ended = true } ∷ []) (record { bytes = b ∷ []; ended = false } ∷ [])
        ≡ record { bytes = take (cond x 0 1) (b ∷ []); ended = ltb (cond x 0 1) 1 } ∷ lines_of (drop (cond x 0 1 + 1) (b ∷ []))
    go true = refl
    go false = refl
lines_first (b ∷ d ∷ ds) h = first_more b (d ∷ ds) (eqb b 10) (lines_first (d ∷ ds) (omega arith))

ended_first : (text : List ℕ) (from : ℕ) → from < length text → ltb (line_len (drop from text)) (length (drop from text)) ≡ is_ended text from
unfolding is_ended
ended_first text from h = go (is_ended text from) refl
  where
    go : (x : Bool) → ltb (line_end text from) (length text) ≡ x → ltb (line_len (drop from text)) (length (drop from text)) ≡ x
    go true e =
        lt-ltb (line_len (drop from text)) (length (drop from text)) (omega (arith, end_in text from (omega arith), length-drop from text, ltb-true (line_end text from) (length text) e))
    go false e =
        le-ltb (line_len (drop from text)) (length (drop from text)) (omega (arith, end_in text from (omega arith), length-drop from text, ltb-false (line_end text from) (length text) e))

rest_first : (text : List ℕ) (from : ℕ) → from < length text → drop (line_len (drop from text) + 1) (drop from text) ≡ drop (after_line text from) text
unfolding after_line is_ended
rest_first text from h = drop-drop (line_len (drop from text) + 1) from text ∙ go (ltb (line_end text from) (length text)) refl
  where
    go : (x : Bool) → ltb (line_end text from) (length text) ≡ x → drop (from + (line_len (drop from text) + 1)) text ≡ drop (cond x (line_end text from + 1) (length text)) text
    go true e =
        let same : from + (line_len (drop from text) + 1) ≡ line_end text from + 1 = omega (arith, end_in text from (omega arith)) in
        rw same
    go false e =
        let past : length text ≤ from + (line_len (drop from text) + 1) =
        omega (arith, end_in text from (omega arith), ltb-false (line_end text from) (length text) e)
        in
        drop_of_length-le text past ∙ sym (drop-length text)

-- The lines from a place on are the line there, then the lines from the place behind it on.
pub lines_at : (text : List ℕ) (from : ℕ) → from < length text
    → lines_of (drop from text) ≡ record { bytes = line_of (drop from text); ended = is_ended text from } ∷ lines_of (drop (after_line text from) text)
unfolding line_of
lines_at text from h =
    lines_first (drop from text) (rw length-drop (omega arith))
    ∙ rw (ended_first text from h, rest_first text from h)

pub lines_end : (text : List ℕ) (from : ℕ) → length text ≤ from → lines_of (drop from text) ≡ []
unfolding lines_of
lines_end text from h = rw (drop_of_length-le text {i = from} h)

-- each turn of such a loop goes forward, and stays within the text
pub after_forward : (text : List ℕ) (from : ℕ) → from < length text → from < after_line text from
unfolding after_line
after_forward text from h = go (is_ended text from)
  where
    go : (x : Bool) → from < cond x (line_end text from + 1) (length text)
    go true = omega (arith, end_in text from (omega arith))
    go false = h

pub after_le : (text : List ℕ) (from : ℕ) → after_line text from ≤ length text
unfolding after_line is_ended
after_le text from = go (ltb (line_end text from) (length text)) refl
  where
    go : (x : Bool) → ltb (line_end text from) (length text) ≡ x → cond x (line_end text from + 1) (length text) ≤ length text
    go true e = omega (arith, ltb-true (line_end text from) (length text) e)
    go false e = omega arith

pub after_feed : (text : List ℕ) (from : ℕ) → line_end text from < length text → after_line text from ≡ line_end text from + 1
unfolding after_line is_ended
after_feed text from h = rw (lt-ltb (line_end text from) (length text) h)

pub after_last : (text : List ℕ) (from : ℕ) → length text ≤ line_end text from → after_line text from ≡ length text
unfolding after_line is_ended
after_last text from h = rw (le-ltb (line_end text from) (length text) h)

-- ---- the next line that counts
pub counting_in : (text : List ℕ) (from : ℕ) → from ≤ length text → counting_start text from ≡ from
unfolding counting_start
counting_in text from h = start_in text from h

pub counting_le : (text : List ℕ) (from : ℕ) → counting_start text from ≤ length text
unfolding counting_start
counting_le text from = start_le text from

pub counting_line : (text : List ℕ) (from : ℕ) → counting_of text from ≡ line_of (drop from text)
unfolding counting_of counting_start
counting_line text from = rw (drop_start text from)

-- the lines that count from a place on: the next one, and those behind it
pub counting_lines_at : (text : List ℕ) (from : ℕ) → from < length text
    → counting_lines (drop from text)
    ≡ record { bytes = counting_of text from; ended = is_ended text (counting_start text from) } ∷ counting_lines (drop (after_line text (counting_start text from)) text)
counting_lines_at text from h = let l : from ≤ length text = omega arith in rw (counting_line text from, counting_in text from l) (lines_at text from h)

pub counting_part : (text : List ℕ) (from : ℕ) → counting_of text from ≡ take (length (counting_of text from)) (drop (counting_start text from) text)
unfolding counting_of
counting_part text from =
    let s = counting_start text from in
    part_line text s ∙ rw (start_in text s (counting_le text from))

-- ---- for code that searches a line's end, and for code that cuts a line out
pub ruleset scanning = (start_le, scan_start, scan_end, scan_feed, scan_more)

pub ruleset parts = (end_le, start_le_end, line_part, part_line)

pub ruleset counting = (start_in, counting_le, counting_part)
