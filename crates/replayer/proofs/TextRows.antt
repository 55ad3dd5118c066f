-- The lines of a derivation file by places: the first line, each row, and what stands behind them.
use mathlib.Core.Path.{◌≡◌, refl, sym, ap, ◌∙◌}
use mathlib.Core.Bool.{Bool, true, false, ◌&&◌}
use mathlib.Core.List.{List, ◌∷◌}
use Prim.Native.Nat.{ℕ, suc, ◌+◌, ◌-◌, ◌≤◌, ◌<◌}
use native.Mathlib.Omega.{arith}
use native.Mathlib.Decide.{dec_lt}
use lib.ListN.{length, drop}
use borrow.Author.Tests.{eq-eqb, ne_eqb, le-leb, lt-leb, ltb-true}
use denote.Enum.Declared.{tag_of}
use Rattle.std.specs.Prelude.{Option, Some, None}
use Rattle.std.proofs.lemmas.Option.{none-some, same_Some}
use Rattle.format.proofs.TestLaws.{both}
use Rattle.format.specs.declared.Letter.{Letter}
use Rattle.format.specs.declared.Letter.TheVariants.{D, A, Other}
use Rattle.format.specs.contracts.Letter.{the_type}
use Rattle.format.specs.Lines.{Line, lines_of, line_of, is_ended, after_line, line_end}
use Rattle.format.proofs.LineLaws.{end_in, after_le}
use Rattle.format.specs.Fields.{field_count, number_of, fields_of}
use Rattle.format.specs.Shape.{letter_of, letter_kind, kind_letter, shape_of}
use Rattle.format.proofs.ShapeLaws.{letter_kind_lem, kind_letter_lem}
use Rattle.scripts.specs.Scripts.{Script, bad, rows, with_row, has_letter, opens, rows_from, rows_in}
use Rattle.scripts.proofs.ScriptTests.{has_lettered, lettered_has, opens_opening}
use Rattle.scripts.proofs.ScriptReading.{row_at_is, row_refused_at, row_missing_at, rows_read_at, line_behind_at, script_opened_at, script_refused_at, script_missing_at}
use Rattle.replayer.specs.Fitting.{count_in}
use Rattle.replayer.specs.RowParts.{line_from, letter_in, said_count}

-- ---- the letter of a line
module _ (text : List ℕ) (from : ℕ) (ended : Bool) (feed : ended ≡ is_ended text from) where
  pub letter_open : ended ≡ false → Other ≡ letter_in (line_from text from)
  unfolding letter_in
  letter_open h = rw (← feed, h)

  module _ (closed : ended ≡ true) (line : List ℕ) (part : line ≡ line_of (drop from text)) (s : Bool) (shaped : s ≡ shape_of line) where
    pub letter_shape : s ≡ false → Other ≡ letter_in (line_from text from)
    unfolding letter_in
    letter_shape h = rw (← feed, closed, ← part, ← shaped, h)

    pub letter_kept : s ≡ true → (x : Letter) → x ≡ letter_kind (letter_of line)
        → x ≡ letter_in (line_from text from)
    unfolding letter_in
    letter_kept h x e = rw (← feed, closed, ← part, ← shaped, h, ← e)

-- a line has the letter that is found in it, and no other of the three files
letter_has : (l : Line) (x : Letter) → letter_in l ≡ x → (x ≡ Other → ⊥) → has_letter (kind_letter x) l ≡ true
unfolding letter_in
letter_has l x e known = go (l.ended && shape_of l.bytes) refl
  where
    go : (b : Bool) → (l.ended && shape_of l.bytes) ≡ b → has_letter (kind_letter x) l ≡ true
    go true h =
        let t = both l.ended (shape_of l.bytes) h in
        let same = kind_letter_lem (letter_of l.bytes) x (rw h at e) known in
        lettered_has (kind_letter x) l (record { closed = t.0; shape = t.1; first = same })
    go false h = absurd (known (sym (rw h at e)))

has_letter_lem : (l : Line) (x : Letter) → has_letter (kind_letter x) l ≡ true → letter_in l ≡ x
unfolding letter_in
has_letter_lem l x h =
    let t = has_lettered (kind_letter x) l h in
    rw (t.closed, t.shape, t.first) (letter_kind_lem x)

letter_has_not : (l : Line) (x : Letter) → (letter_in l ≡ x → ⊥) → false ≡ has_letter (kind_letter x) l
letter_has_not l x n = go (has_letter (kind_letter x) l) refl
  where
    go : (b : Bool) → has_letter (kind_letter x) l ≡ b → false ≡ b
    go true h = absurd (n (has_letter_lem l x h))
    go false h = refl

-- what the match on the letter found says of `D` and `A`
module _ (l : Line) (x : Letter) (e : x ≡ letter_in l) where
  found : (y : Letter) → tag_of the_type y < 8 → x ≡ y → true ≡ has_letter (kind_letter y) l
  found y known is = sym (letter_has l y (sym e ∙ is) not_other)
    where
      not_other : y ≡ Other → ⊥
      not_other o =
          let last : tag_of the_type y ≡ 8 = ap (tag_of the_type) o in
          omega arith

  pub count_line_is : x ≡ D → true ≡ has_letter 68 l
  unfolding kind_letter
  count_line_is = found D (omega arith)

  pub no_count_line : (x ≡ D → ⊥) → false ≡ has_letter 68 l
  unfolding kind_letter
  no_count_line n = letter_has_not l D (λ is. n (e ∙ is))

  pub row_line : x ≡ A → true ≡ has_letter 65 l
  unfolding kind_letter
  row_line = found A (omega arith)

  pub no_row_line : (x ≡ A → ⊥) → false ≡ has_letter 65 l
  unfolding kind_letter
  no_row_line n = letter_has_not l A (λ is. n (e ∙ is))

-- a line feed ends no line at the end of the text
ended_inside : (text : List ℕ) (from : ℕ) → from ≤ length text → is_ended text from ≡ true → from < length text
unfolding is_ended
ended_inside text from h e = omega (arith, ltb-true (line_end text from) (length text) e, end_in text from h)

letter_inside : (text : List ℕ) (from letter : ℕ) → from ≤ length text → has_letter letter (line_from text from) ≡ true → from < length text
letter_inside text from letter h e = ended_inside text from h (has_lettered letter (line_from text from) e).closed

-- ---- the first line
module _ (text : List ℕ) (b : Bool) (lettered : b ≡ has_letter 68 (line_from text 0)) where
  pub said_letter : b ≡ false → None ≡ said_count text
  unfolding said_count opens
  said_letter h = rw (← lettered, h)

  module _ (y : b ≡ true) (line : List ℕ) (part : line ≡ line_of (drop 0 text)) (f : ℕ) (fields : f ≡ field_count line) where
    pub said_fields : (f ≡ 1 → ⊥) → None ≡ said_count text
    unfolding said_count opens
    said_fields h = rw (← lettered, y, ← part, ← fields, ne_eqb f 1 h)

    module _ (one : f ≡ 1) (n : ℕ) (number : n ≡ number_of line 0) where
      pub said_few : n < 1 → None ≡ said_count text
      unfolding said_count opens
      said_few h = rw (← lettered, y, ← part, ← fields, eq-eqb f 1 one, ← number, lt-leb 1 n h)

      pub said_many : 1 ≤ n → 4096 < n → None ≡ said_count text
      unfolding said_count opens
      said_many l h = rw (← lettered, y, ← part, ← fields, eq-eqb f 1 one, ← number, le-leb 1 n l, lt-leb n 4096 h)

      pub said_all : 1 ≤ n → n ≤ 4096 → Some n ≡ said_count text
      unfolding said_count opens
      said_all l h = rw (← lettered, y, ← part, ← fields, eq-eqb f 1 one, ← number, le-leb 1 n l, le-leb n 4096 h)

-- ---- the rows
-- a count of rows, with k before them
abbrev counted : ℕ → Script → Option ℕ
counted k bad = None
counted k (rows rs) = Some (k + length rs)

counted_row : (k : ℕ) (r : List ℕ) (s : Script) → counted k (with_row r s) ≡ counted (k + 1) s
counted_row k r bad = refl
counted_row k r (rows rs) = let e : k + length (r ∷ rs) ≡ k + 1 + length rs = omega arith in ap Some e

counted_all : (s : Script) → counted 0 s ≡ count_in s
counted_all bad = refl
counted_all (rows rs) = let e : 0 + length rs ≡ length rs = omega arith in ap Some e

-- what the loop keeps: k of n rows are passed, and what is left from a place on makes the count of the text
pub record Counting (text : List ℕ) (n at k : ℕ) : Type 0 where
  pub passed : k ≤ n
  pub within : at ≤ length text
  pub rest : counted k (rows_from (n - k) (lines_of (drop at text))) ≡ count_in (rows_in text)

pub count_none : (text : List ℕ) → None ≡ said_count text → None ≡ count_in (rows_in text)
unfolding said_count
count_none text said = go (opens (line_from text 0)) refl (dec_lt 0 (length text))
  where
    go : (b : Bool) → opens (line_from text 0) ≡ b → Dec (0 < length text) → None ≡ count_in (rows_in text)
    go true e d = absurd (none-some (number_of (line_of text) 0) (said ∙ rw e))
    go false e (yes h) = rw (script_refused_at text h e)
    go false e (no h) = rw (script_missing_at text (omega arith))

pub count_first : (text : List ℕ) (n at : ℕ) → Some n ≡ said_count text → at ≡ after_line text 0 → Counting text n at 0
unfolding said_count
count_first text n at said e = go (opens (line_from text 0)) refl
  where
    go : (b : Bool) → opens (line_from text 0) ≡ b → Counting text n at 0
    go false d = absurd (none-some n (sym (said ∙ rw d)))
    go true d =
        let number : n ≡ number_of (line_of text) 0 = same_Some n (number_of (line_of text) 0) (said ∙ rw d) in
        let same : n - 0 ≡ number_of (line_of text) 0 = omega arith in
        let inside = letter_inside text 0 68 (omega arith) (opens_letter d) in
        let whole : rows_from (n - 0) (lines_of (drop at text)) ≡ rows_in text = rw (same, e) (sym (script_opened_at text inside d)) in
        record {
          passed = omega arith;
          within = omega (arith, e, after_le text 0);
          rest = counted_all (rows_from (n - 0) (lines_of (drop at text))) ∙ ap count_in whole;
        }
      where
        opens_letter : opens (line_from text 0) ≡ true → has_letter 68 (line_from text 0) ≡ true
        opens_letter d = lettered_has 68 (line_from text 0) (opens_opening (line_from text 0) d).lettered

module _ (text : List ℕ) (n at k : ℕ) (here : Counting text n at k) where
  module _ (more : k < n) (b : Bool) (lettered : b ≡ has_letter 65 (line_from text at)) where
    left : n - k ≡ suc (n - (k + 1))
    left = omega arith

    pub count_refused : b ≡ false → None ≡ count_in (rows_in text)
    count_refused h =
        ap (counted k) (sym (ap (λ m. rows_from m (lines_of (drop at text))) left ∙ go (dec_lt at (length text)))) ∙ here.rest
      where
        go : Dec (at < length text) → rows_from (suc (n - (k + 1))) (lines_of (drop at text)) ≡ bad
        go (yes d) = row_refused_at text at (n - (k + 1)) d (sym lettered ∙ h)
        go (no d) = row_missing_at text at (n - (k + 1)) (omega arith)

    pub count_next : b ≡ true → (at' : ℕ) → at' ≡ after_line text at → Counting text n at' (k + 1)
    count_next h at' e =
        let y : has_letter 65 (line_from text at) ≡ true = sym lettered ∙ h in
        let inside = letter_inside text at 65 here.within y in
        let rest = rows_from (n - (k + 1)) (lines_of (drop (after_line text at) text)) in
        let passed_row : counted k (rows_from (n - k) (lines_of (drop at text))) ≡ counted (k + 1) rest =
        ap (λ m. counted k (rows_from m (lines_of (drop at text)))) left ∙ ap (counted k) (row_at_is text at (n - (k + 1)) inside y) ∙ counted_row k (fields_of (line_of (drop at text))) rest
        in
        record {
          passed = omega arith;
          within = omega (arith, e, after_le text at);
          rest = rw e (sym passed_row ∙ here.rest);
        }

  module _ (all : n ≤ k) where
    none : n - k ≡ 0
    none = omega arith

    pub count_behind : at < length text → None ≡ count_in (rows_in text)
    count_behind h = ap (counted k) (sym (ap (λ m. rows_from m (lines_of (drop at text))) none ∙ line_behind_at text at h)) ∙ here.rest

    pub count_all : length text ≤ at → Some n ≡ count_in (rows_in text)
    count_all h =
        let all_passed : n ≡ k + 0 = omega (arith, here.passed) in
        ap Some all_passed ∙ ap (counted k) (sym (ap (λ m. rows_from m (lines_of (drop at text))) none ∙ rows_read_at text at h)) ∙ here.rest
