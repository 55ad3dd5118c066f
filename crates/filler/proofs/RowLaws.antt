-- A row that is filled line by line from the prepared text is the one that the writer's choice fills.
use Rattle.std.specs.Prelude.{Ok, Err}
use mathlib.Core.Path.{◌≡◌, refl, sym, ap, ◌∙◌, subst}
use mathlib.Core.Bool.{Bool, true, false}
use mathlib.Core.List.{List, [], ◌∷◌, ◌++◌, map, map-append}
use Prim.Native.Nat.{ℕ, zero, suc, ◌+◌, ◌≤◌, ◌<◌}
use native.Mathlib.Omega.{arith}
use native.Mathlib.Numerals.{add-one}
use lib.ListN.{length, length-set, length-map, take, drop, get_or, set, take-append-drop}
use lib.Seq.{take-suc, take-length, drop-cons, length-take-le, set_at, set-append_left, append_snoc}
use lib.Dec.{leb}
use borrow.Author.Tests.{leb-true, leb-false}
use Rattle.format.specs.Lines.{after_line}
use Rattle.scripts.specs.Scripts.{rows_text, WritableLines}
use Rattle.questions.specs.Abstract.{grammar_of}
use Rattle.writing.specs.Filling.{records_in, Choice, refuses, chooses, chosen_of, Filled, fill_of}
use Rattle.writing.specs.Demand.{FillChoices}
use Rattle.writing.specs.Writing.{Answer}
use Rattle.writing.specs.declared.WriteError.TheVariants.{NoRoom}
use Rattle.writing.specs.declared.Application.{Application}
use Rattle.writing.proofs.Filling.{records_held, records_short, fill_refuses, fill_chooses, refusal_number}
use Rattle.writing.proofs.Choices.{fill_choices}
use Rattle.filler.specs.Rows.{application_read, application_at, offset_of, filled_from, count_in, answer_by, Prepared, Filling}
use Rattle.filler.proofs.Answers.{refused_none}
use Rattle.filler.proofs.TextLines.{row_fields}
use Rattle.filler.proofs.ChosenRows.{chosen_rows}

-- ---- one turn of the loop
pub filled_length : (g text : List ℕ) (n : ℕ) (former : List Application) → length (filled_from g text n former) ≡ length former
unfolding filled_from
filled_length g text zero former = refl
filled_length g text (suc n) former = length-set (filled_from g text n former) n (application_at g text (offset_of text n)) ∙ filled_length g text n former

pub filled_next : (g text : List ℕ) (n : ℕ) (former : List Application) (x : Application) → x ≡ application_at g text (offset_of text n)
    → set (filled_from g text n former) n x ≡ filled_from g text (n + 1) former
unfolding filled_from
filled_next g text n former x e = rw (e, add-one)

-- the front of a row that is filled by itself
pub filled_front : (g text : List ℕ) (m n : ℕ) (former : List Application) → m ≤ n → n ≤ length former
    → filled_from g text m (take n former) ++ drop n former ≡ filled_from g text m former
unfolding filled_from
filled_front g text zero n former h few = take-append-drop n former
filled_front g text (suc m) n former h few =
    let before = filled_from g text m (take n former) in
    let size : length before ≡ n = filled_length g text m (take n former) ∙ length-take-le n former few in
    let x = application_at g text (offset_of text m) in
    sym (set-append_left before (drop n former) m x (omega arith))
    ∙ ap (λ rows. set rows m x) (filled_front g text m n former (omega arith) few)

pub offset_next : (text : List ℕ) (n r : ℕ) → r ≡ after_line text (offset_of text n) → r ≡ offset_of text (n + 1)
unfolding offset_of
offset_next text n r e = e ∙ sym (ap (offset_of text) (add-one n))

-- ---- the rows of a text that stands in front
module _ (g : List ℕ) (rs : List (List ℕ)) (text rest : List ℕ) (front : text ≡ rows_text rs ++ rest) (each : WritableLines rs) where
  row_read_at : (k : ℕ) → k < length rs → application_at g text (offset_of text k) ≡ application_read g (get_or rs k [])
  unfolding application_at
  row_read_at k h = ap (application_read g) (row_fields rs text rest front each k h)

  filled_rows : (former : List Application) → length rs ≤ length former → (n : ℕ) → n ≤ length rs
      → filled_from g text n former ≡ map (application_read g) (take n rs) ++ drop n former
  unfolding filled_from
  filled_rows former room zero h = refl
  filled_rows former room (suc n) h =
      let x = application_read g (get_or rs n []) in
      let before = map (application_read g) (take n rs) in
      let size : length before ≡ n = length-map (take n rs) (application_read g) ∙ length-take-le n rs (omega arith) in
      let next : map (application_read g) (take (suc n) rs) ≡ before ++ (x ∷ []) =
      ap (map (application_read g)) (take-suc rs n [] h) ∙ map-append (application_read g) (take n rs) (get_or rs n [] ∷ []) in
      ap (λ (a : Application). set (filled_from g text n former) n a) (row_read_at n h)
      ∙ ap (λ (l : List Application). set l n x) (filled_rows former room n (omega arith) ∙ ap (λ (l : List Application). before ++ l) (drop-cons former n x (omega arith)))
      ∙ set_at before (get_or former n x) (drop (suc n) former) x n size
      ∙ sym (append_snoc before x (drop (suc n) former))
      ∙ ap (λ (l : List Application). l ++ drop (suc n) former) (sym next)

  filled_whole : (former : List Application) → length rs ≤ length former → filled_from g text (length rs) former ≡ map (application_read g) rs ++ drop (length rs) former
  filled_whole former room =
      filled_rows former room (length rs) (omega arith)
      ∙ ap (λ (l : List (List ℕ)). map (application_read g) l ++ drop (length rs) former) (take-length rs)

-- ---- what is prepared, filled
module _ (g h w : List ℕ) (former now : List Application) (a : Answer) (text : List ℕ) (p : Prepared g h w (length former) a text) (q : now ≡ filled_from g text (count_in a) former) where
  abbrev Right : Filled → Type 0
  Right f = (a ≡ f.answer) × (now ≡ f.rows)

  answered : (c : Choice) → chosen_of g h w ≡ c → a ≡ answer_by (grammar_of g) c (length former)
  answered c e = p.answers ∙ ap (λ (c : Choice). answer_by (grammar_of g) c (length former)) e

  nothing_filled : count_in a ≡ 0 → now ≡ former
  unfolding filled_from
  nothing_filled e = q ∙ ap (λ (n : ℕ). filled_from g text n former) e

  module _ (t : List ℕ) (e : chosen_of g h w ≡ chooses t) where
    abbrev xs : List Application
    xs = records_in (grammar_of g) t

    all_filled : length xs ≤ length former → filled_from g text (length xs) former ≡ xs ++ drop (length xs) former
    all_filled room =
        let c = chosen_rows g h w t e in
        let rs = c.listed in
        let size : length xs ≡ length rs = ap length c.records ∙ length-map rs (application_read g) in
        let front : text ≡ rows_text rs ++ drop (length t) text =
        sym (take-append-drop (length t) text) ∙ ap (λ (l : List ℕ). l ++ drop (length t) text) (p.holds t e ∙ c.text) in
        ap (λ (n : ℕ). filled_from g text n former) size
        ∙ filled_whole g rs text (drop (length t) text) front c.writable.each former (omega arith)
        ∙ ap (λ (l : List Application). l ++ drop (length rs) former) (sym c.records)
        ∙ ap (λ (n : ℕ). xs ++ drop n former) (sym size)

    right_chosen : (b : Bool) → leb (length xs) (length former) ≡ b → Right (fill_of g h w former)
    right_chosen true l =
        let room = leb-true (length xs) (length former) l in
        let z : a ≡ Ok (length xs) = answered (chooses t) e ∙ rw l in
        subst Right (sym (fill_chooses g h w former t e ∙ records_held xs former room)) (z, q ∙ ap (λ (a : Answer). filled_from g text (count_in a) former) z ∙ all_filled room)
    right_chosen false l =
        let z : a ≡ (Err NoRoom) = answered (chooses t) e ∙ rw l in
        subst Right (sym (fill_chooses g h w former t e ∙ records_short xs former (omega (arith, leb-false (length xs) (length former) l)))) (z, nothing_filled (ap count_in z))

  right_refused : (b : Answer) → chosen_of g h w ≡ refuses b → Right (fill_of g h w former)
  right_refused b e =
      let z : a ≡ b = answered (refuses b) e in
      subst Right (sym (fill_refuses g h w former b e)) (z, nothing_filled (ap count_in z ∙ refused_none b (refusal_number g h w b e)))

  pub filled_right : (a ≡ (fill_of g h w former).answer) × (now ≡ (fill_of g h w former).rows)
  filled_right = go (chosen_of g h w) refl
    where
      go : (c : Choice) → chosen_of g h w ≡ c → Right (fill_of g h w former)
      go (refuses b) e = right_refused b e
      go (chooses t) e = right_chosen t e (leb (length (records_in (grammar_of g) t)) (length former)) refl

  -- So the row is filled as it should be.
  pub filling : Filling g h w former a now
  filling =
      record {
        answers = filled_right.0;
        leaves = filled_right.1;
        choices = subst (λ (b : Answer). FillChoices g h w former b now) (sym filled_right.0)
            (subst (λ (l : List Application). FillChoices g h w former (fill_of g h w former).answer l) (sym filled_right.1) (fill_choices g h w former));
      }
