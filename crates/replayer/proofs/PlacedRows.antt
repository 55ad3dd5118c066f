-- Rows by their places in the text: whether one is left at a place, which it is, and where the next one stands.
use mathlib.Core.Path.{◌≡◌, refl, sym, ap, ◌∙◌}
use mathlib.Core.Bool.{Bool, true, false}
use mathlib.Core.List.{List, [], ◌∷◌}
use Prim.Native.Nat.{ℕ, zero, suc, ◌+◌, ◌-◌, ◌≤◌, ◌<◌}
use native.Mathlib.Omega.{arith}
use native.Mathlib.Numerals.{add-one}
use lib.ListN.{length, get_or, drop}
use lib.Seq.{drop-cons}
use Rattle.format.specs.Lines.{Line, lines_of, line_of, after_line}
use Rattle.format.specs.Fields.{fields_of, number_of}
use Rattle.format.specs.Shape.{shape_of}
use Rattle.scripts.specs.Scripts.{Script, bad, rows, with_row, has_letter, opens, rows_from, rows_in}
use Rattle.scripts.proofs.Canonical.{bad_no_rows, rows_same, rows_text_lem}
use Rattle.scripts.proofs.ScriptTests.{has_lettered}
use Rattle.scripts.proofs.ScriptReading.{line_at, row_at_is, row_refused_at, row_missing_at, line_behind_at, script_opened_at, script_refused_at, script_missing_at, row_read, row_refused}
use Rattle.std.specs.Prelude.{Some}
use Rattle.std.proofs.lemmas.Option.{none-some, same_Some}
use Rattle.replayer.specs.Fitting.{count_in}
use Rattle.replayer.specs.Following.{rows_of_script, text_rows, RowsAt}

-- ---- the rows of a text
pub text_count : (text : List ℕ) (n : ℕ) → Some n ≡ count_in (rows_in text) → (n ≡ length (text_rows text)) × (0 < n)
unfolding text_rows
text_count text n c = go (rows_in text) refl c
  where
    go : (s : Script) → rows_in text ≡ s → Some n ≡ count_in s → (n ≡ length (rows_of_script s)) × (0 < n)
    go bad e c = absurd (none-some n (sym c))
    go (rows rs) e c =
        let k : n ≡ length rs = same_Some n (length rs) c in
        (k, omega (arith, (rows_text_lem text rs e).1.some))

-- a text with a row is one of rows, at most 4,096 of them
pub text_some : (text : List ℕ) → 0 < length (text_rows text) → rows_in text ≡ rows (text_rows text)
unfolding text_rows
text_some text h = go (rows_in text) h
  where
    go : (s : Script) → 0 < length (rows_of_script s) → s ≡ rows (rows_of_script s)
    go bad h = absurd (omega arith)
    go (rows rs) h = refl

pub text_few : (text : List ℕ) → length (text_rows text) ≤ 4096
text_few text = go (length (text_rows text)) refl
  where
    go : (k : ℕ) → length (text_rows text) ≡ k → length (text_rows text) ≤ 4096
    go zero e = omega arith
    go (suc k) e = (rows_text_lem text (text_rows text) (text_some text (omega arith))).1.few

row_split : (r : List ℕ) (s : Script) (rs : List (List ℕ)) → with_row r s ≡ rows rs → (qs : List (List ℕ)) × (s ≡ rows qs) × (r ∷ qs ≡ rs)
row_split r bad rs e = absurd (bad_no_rows e)
row_split r (rows qs) rs e = (qs, refl, rows_same e)

-- so many rows as were asked for
from_length : (n : ℕ) (ls : List Line) (rs : List (List ℕ)) → rows_from n ls ≡ rows rs → length rs ≡ n
unfolding rows_from
from_length zero [] rs e = sym (ap length (rows_same e))
from_length zero (l ∷ ls) rs e = absurd (bad_no_rows e)
from_length (suc n) [] rs e = absurd (bad_no_rows e)
from_length (suc n) (l ∷ ls) rs e = go (has_letter 65 l) refl e (λ qs q. from_length n ls qs q)
  where
    go : (b : Bool) → has_letter 65 l ≡ b → rows_from (suc n) (l ∷ ls) ≡ rows rs → ((qs : List (List ℕ)) → rows_from n ls ≡ rows qs → length qs ≡ n) → length rs ≡ suc n
    go true h e r =
        let p = row_split (fields_of l.bytes) (rows_from n ls) rs (sym (row_read n l ls h) ∙ e) in
        sym (ap length p.2) ∙ ap suc (r p.0 p.1)
    go false h e r = absurd (bad_no_rows (sym (row_refused n l ls h) ∙ e))

-- ---- the rows from a place on
module _ (text : List ℕ) (n place : ℕ) (w : RowsAt text n place) where
  abbrev R : List (List ℕ)
  R = text_rows text

  counted : (k : ℕ) → length R - n ≡ k → rows_from k (lines_of (drop place text)) ≡ rows (drop n R)
  counted k e = ap (λ (j : ℕ). rows_from j (lines_of (drop place text))) (sym e) ∙ w.rest

  -- no line, no row
  pub place_none : length text ≤ place → length R ≤ n
  place_none h = go (length R - n) refl
    where
      go : (k : ℕ) → length R - n ≡ k → length R ≤ n
      go zero e = omega arith
      go (suc k) e = absurd (bad_no_rows (sym (row_missing_at text place k h) ∙ counted (suc k) e))

  -- a line is that of the next row
  pub record Row : Type 0 where
    pub known : n < length R
    pub shaped : shape_of (line_of (drop place text)) ≡ true
    pub fields : get_or R n [] ≡ fields_of (line_of (drop place text))
    pub onward : RowsAt text (n + 1) (after_line text place)

  pub place_row : place < length text → Row
  place_row h = go (length R - n) refl (has_letter 65 (line_at text place)) refl
    where
      go : (k : ℕ) → length R - n ≡ k → (b : Bool) → has_letter 65 (line_at text place) ≡ b → Row
      go zero e b q = absurd (bad_no_rows (sym (line_behind_at text place h) ∙ counted 0 e))
      go (suc k) e false q = absurd (bad_no_rows (sym (row_refused_at text place k h q) ∙ counted (suc k) e))
      go (suc k) e true q =
          let p =
          row_split (fields_of (line_of (drop place text))) (rows_from k (lines_of (drop (after_line text place) text))) (drop n R)
          (sym (row_at_is text place k h q) ∙ counted (suc k) e) in
          let known : n < length R = omega arith in
          let fewer : length R - (n + 1) ≡ k = omega arith in
          let split = p.2 ∙ drop-cons R n [] known in
          record {
            known = known;
            shaped = (has_lettered 65 (line_at text place) q).shape;
            fields = sym (ap (λ (l : List (List ℕ)). get_or l 0 []) split);
            onward = record {
              rest =
                  ap (λ (j : ℕ). rows_from j (lines_of (drop (after_line text place) text))) fewer ∙ p.1
                  ∙ ap (λ (l : List (List ℕ)). rows (drop 1 l)) split ∙ ap (λ (j : ℕ). rows (drop j R)) (sym (add-one n));
            };
          }

-- the first row stands behind the first line
pub place_start : (text : List ℕ) → 0 < length (text_rows text) → RowsAt text 0 (after_line text 0)
place_start text some = go (length text) refl (opens (line_at text 0)) refl
  where
    go : (k : ℕ) → length text ≡ k → (b : Bool) → opens (line_at text 0) ≡ b → RowsAt text 0 (after_line text 0)
    go zero e b q = absurd (bad_no_rows (sym (script_missing_at text (omega arith)) ∙ text_some text some))
    go (suc k) e false q = absurd (bad_no_rows (sym (script_refused_at text (omega arith) q) ∙ text_some text some))
    go (suc k) e true q =
        let first = sym (script_opened_at text (omega arith) q) ∙ text_some text some in
        let as_many : length (text_rows text) - 0 ≡ number_of (line_of text) 0 = omega (arith, from_length _ _ _ first) in
        record { rest = ap (λ (j : ℕ). rows_from j (lines_of (drop (after_line text 0) text))) as_many ∙ first }
