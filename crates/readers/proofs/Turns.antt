-- Laws of the reading loop: what each way through a turn does to the reading of the lines that are left.
use mathlib.Core.Path.{◌≡◌, refl, sym, ap, ◌∙◌}
use mathlib.Core.Bool.{Bool, true, false, cond}
use mathlib.Core.List.{List}
use Prim.Native.Nat.{ℕ, zero, suc, ◌≤◌, ◌<◌}
use native.Mathlib.Omega.{arith}
use lib.ListN.{length, drop}
use lib.Dec.{eqb}
use Rattle.format.specs.Lines.{counting_lines, counting_of, counting_start, is_ended, after_line}
use Rattle.format.proofs.LineLaws.{counting_lines_at, counting_in, lines_end, after_le, after_forward}
use Rattle.format.specs.Shape.{shape_of, letter_of, kind_letter}
use Rattle.format.specs.Fields.{fields_of}
use Rattle.questions.specs.Layout.{place_of, letter_due, in_table, stored}
use Rattle.questions.specs.Questions.{judge}
use Rattle.questions.specs.Reading.{Verdict, refused, accepted, when_done, go_on, next, judge_line, read_lines}
use Rattle.questions.specs.Walk.{Room}
use Rattle.layout.specs.Storing.{store_at}
use Rattle.questions.specs.declared.Due.{Due}
use Rattle.questions.specs.declared.Due.TheVariants.{Grammar, Symbol, Rule, RuleEdge, PlanLine, Graph, GraphEdge, Nothing}
use Rattle.questions.proofs.WellFormedWalk.{room_in, room_next}
use Rattle.readers.specs.Readers.{line_with, missing, verdict_of}

-- ---- places
stored_there : (t fs : List ℕ) (due : Due) → Room (length t) due → store_at t due fs ≡ stored t (place_of due) fs
unfolding store_at
stored_there t fs due r = rw (room_in (length t) due r)

pub room_after : (t t' : List ℕ) (due d : Due) → Room (length t) due → length t' ≡ length t → d ≡ next t' due → Room (length t') d
room_after t t' due d r l e = rw (e, l) (room_next (length t) t' due r)

-- ---- one line: the questions in their order
module _ (g t : List ℕ) (due : Due) (line : List ℕ) (ended : Bool) where
  pub judged_open : ended ≡ false → 1 ≡ judge_line g t due (line_with line ended)
  unfolding judge_line
  judged_open h = rw h

  module _ (h : ended ≡ true) (b : Bool) (e : b ≡ shape_of line) where
    pub judged_shape : b ≡ false → 1 ≡ judge_line g t due (line_with line ended)
    unfolding judge_line
    judged_shape n = rw (h, ← e, n)

    module _ (y : b ≡ true) (due_here : Bool) (fits : due_here ≡ eqb (letter_of line) (kind_letter (letter_due due))) where
      pub judged_letter : due_here ≡ false → 2 ≡ judge_line g t due (line_with line ended)
      unfolding judge_line
      judged_letter n = rw (h, ← e, y, ← fits, n)

      pub judged_rest : due_here ≡ true → (k : ℕ) → k ≡ judge g t due (fields_of line) → k ≡ judge_line g t due (line_with line ended)
      unfolding judge_line
      judged_rest s k j = rw (h, ← e, y, ← fits, s) j

-- the fields of a line of the shape
module _ (t : List ℕ) (due : Due) (line fs : List ℕ) (room : Room (length t) due) (f : fs ≡ fields_of line) where
  pub judged_fields : (g : List ℕ) (k : ℕ) → k ≡ cond (in_table due) (judge g t due fs) 2 → k ≡ judge g t due (fields_of line)
  judged_fields g k e = e ∙ rw (room_in (length t) due room, f)

  pub stored_fields_is : (t' : List ℕ) → t' ≡ store_at t due fs → t' ≡ stored t (place_of due) (fields_of line)
  stored_fields_is t' e = e ∙ rw f (stored_there t (fields_of line) due room)

-- ---- the lines that are left
none_left : (t : List ℕ) (due : Due) → verdict_of (missing due) t ≡ when_done due (accepted t) (refused 2)
none_left t Nothing = refl
none_left t Grammar = refl
none_left t (Symbol s) = refl
none_left t (Rule r) = refl
none_left t (RuleEdge r i) = refl
none_left t (PlanLine r q) = refl
none_left t Graph = refl
none_left t (GraphEdge e) = refl

module _ (g t : List ℕ) (due : Due) (text : List ℕ) (at : ℕ) where
  pub reads_end : length text ≤ at → read_lines g t due (counting_lines (drop at text)) ≡ when_done due (accepted t) (refused 2)
  unfolding read_lines
  reads_end h = rw (lines_end text at h)

  pub reads_done : (k : ℕ) → length text ≤ at → k ≡ missing due → verdict_of k t ≡ read_lines g t due (counting_lines (drop at text))
  reads_done k h e = ap (λ n. verdict_of n t) e ∙ none_left t due ∙ sym (reads_end h)

  -- a line is there: it is refused, or stored and the next one is due
  module _ (h : at < length text) (k : ℕ) (e : k ≡ judge_line g t due (line_with (counting_of text at) (is_ended text (counting_start text at)))) where
    pub reads_no : (k ≡ 0 → ⊥) → (v : Verdict) → read_lines g t due (counting_lines (drop at text)) ≡ go_on k v
    unfolding read_lines
    reads_no n v = rw (counting_lines_at text at h, ← e) (stops k n _ _)
      where
        stops : (k : ℕ) → (k ≡ 0 → ⊥) → (a b : Verdict) → go_on k a ≡ go_on k b
        stops zero n a b = absurd (n refl)
        stops (suc k) n a b = refl

    pub reads_on : k ≡ 0 → (t' : List ℕ) (due' : Due) → t' ≡ stored t (place_of due) (fields_of (counting_of text at)) → due' ≡ next t' due
        → read_lines g t due (counting_lines (drop at text)) ≡ read_lines g t' due' (counting_lines (drop (after_line text (counting_start text at)) text))
    unfolding read_lines
    reads_on z t' due' p q = rw (counting_lines_at text at h, ← e, z, q, p)

-- ---- what the loop keeps: reading what is left into t gives what the whole text gives from the start
pub record Reading (g t₀ : List ℕ) (first : Due) (text t : List ℕ) (due : Due) (at : ℕ) : Type 0 where
  pub within : at ≤ length text
  pub size : length t ≡ length t₀
  pub room : Room (length t) due
  pub rest : read_lines g t due (counting_lines (drop at text)) ≡ read_lines g t₀ first (counting_lines text)

module _ (g t₀ : List ℕ) (first : Due) (text t : List ℕ) (due : Due) (at : ℕ) (inv : Reading g t₀ first text t due at) (h : at < length text) (line : List ℕ) (part : line ≡ counting_of text at) (start : ℕ) (from : start ≡ counting_start text at) (ended : Bool)
    (feed : ended ≡ is_ended text start) (k : ℕ) (judged : k ≡ judge_line g t due (line_with line ended)) where
  known : k ≡ judge_line g t due (line_with (counting_of text at) (is_ended text (counting_start text at)))
  known = judged ∙ rw (part, feed, from)

  pub turn_no : (k ≡ 0 → ⊥) → (t' : List ℕ) → verdict_of k t' ≡ read_lines g t₀ first (counting_lines text)
  turn_no n t' = sym (reads_no g t due text at h k known n (accepted t')) ∙ inv.rest

  pub turn_on : k ≡ 0 → (t' : List ℕ) (due' : Due) (at' : ℕ) → length t' ≡ length t → t' ≡ stored t (place_of due) (fields_of line) → due' ≡ cond (in_table due) (next t' due) Nothing → at' ≡ after_line text start
      → Reading g t₀ first text t' due' at'
  turn_on z t' due' at' l p follows a =
      let q : due' ≡ next t' due = follows ∙ ap (λ b. cond b (next t' due) Nothing) (room_in (length t) due inv.room) in
      record {
        within = omega (arith, a, after_le text start);
        size = l ∙ inv.size;
        room = room_after t t' due due' inv.room l q;
        rest = rw (a, from) (sym (reads_on g t due text at h k known z t' due' (p ∙ ap (λ bytes. stored t (place_of due) (fields_of bytes)) part) q) ∙ inv.rest);
      }

pub turn_less : (text : List ℕ) (at start at' : ℕ) → at < length text → start ≡ counting_start text at → at' ≡ after_line text start → at < at'
turn_less text at start at' h from a =
    let here : start ≡ at = from ∙ counting_in text at (omega arith) in
    omega (arith, a, here, ap (after_line text) here, after_forward text at h)
