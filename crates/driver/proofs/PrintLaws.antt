-- Laws of what is printed: lines of one field, behind a text.
use mathlib.Core.Path.{◌≡◌, refl, sym, ap, ◌∙◌}
use mathlib.Core.List.{List, [], ◌∷◌, ◌++◌, append-nil}
use Prim.Native.Nat.{ℕ, ◌+◌, ◌≤◌}
use native.Mathlib.Omega.{arith}
use lib.ListN.{length, take, drop, length-append, length-drop, drop_of_length-le}
use lib.Seq.{sets, sets-eq, take-append_seam, drop-append-add, drop-drop, length-take-le}
use Rattle.format.specs.Writing.{line_text, line_body, fields_text}
use Rattle.format.specs.Fields.{field_text}
use Rattle.programs.specs.Programs.{refusal_line, steps_line, Prints}

number_length : (letter n : ℕ) → length (line_text letter (n ∷ [])) ≡ 6
unfolding line_text line_body fields_text field_text
number_length letter n = refl

-- a text stands at the front, and six bytes are written behind it
prints_behind : (text former now line : List ℕ) (r : ℕ) → length line ≡ 6 → length text + 6 ≤ length former → r ≡ length text + 6
    → now ≡ sets (text ++ drop (length text) former) (length text) line → Prints (text ++ line) former now r
prints_behind text former now line r six room e p =
    let whole : length (text ++ drop (length text) former) ≡ length former =
    length-append text (drop (length text) former) ∙ rw (length-drop (length text) former) (omega arith)
    in
    let size : length (text ++ line) ≡ length text + length line = length-append text line in
    record {
      counts = omega arith;
      contents =
          p
          ∙ sets-eq line (text ++ drop (length text) former) (length text) (omega arith)
          ∙ rw (take-append_seam text (drop (length text) former), drop-append-add text (drop (length text) former) (length line), drop-drop (length line) (length text) former, size);
    }

pub prints_refusal : (former now : List ℕ) (k r : ℕ) → 6 ≤ length former → r ≡ 6 → now ≡ sets former 0 (line_text 78 (k ∷ [])) → Prints (refusal_line k) former now r
unfolding refusal_line
prints_refusal former now k r room e p = prints_behind [] former now (line_text 78 (k ∷ [])) r (number_length 78 k) room e p

pub prints_steps : (text former copied now : List ℕ) (steps r : ℕ) → length text ≤ 32768 → length former ≡ 32774 → copied ≡ text ++ drop (length text) former
    → r ≡ length text + 6 → now ≡ sets copied (length text) (line_text 67 (steps ∷ [])) → Prints (text ++ steps_line steps) former now r
unfolding steps_line
prints_steps text former copied now steps r h l q e p =
    prints_behind text former now (line_text 67 (steps ∷ [])) r (number_length 67 steps) (omega arith) e (p ∙ ap (λ out. sets out (length text) (line_text 67 (steps ∷ []))) q)

-- a line of its own, in six bytes
pub refusal_line_lem : (former now : List ℕ) (k : ℕ) → length former ≡ 6 → now ≡ sets former 0 (line_text 78 (k ∷ [])) → now ≡ refusal_line k
unfolding refusal_line
refusal_line_lem former now k l p =
    let printed = prints_refusal former now k 6 (omega arith) refl p in
    printed.contents ∙ ap (λ rest. refusal_line k ++ rest) (drop_of_length-le former {i = length (refusal_line k)} (omega (arith, number_length 78 k))) ∙ append-nil (refusal_line k)

-- what is printed is the front of the output
pub prints_front : (text former now : List ℕ) (r : ℕ) → Prints text former now r → (r ≤ length now) × (r ≡ length (take r now))
prints_front text former now r p =
    let size : length now ≡ length text + length (drop (length text) former) = ap length p.contents ∙ length-append text (drop (length text) former) in
    let within : r ≤ length now = omega (arith, p.counts) in (within, sym (length-take-le r now within))
