-- Question 1, the shape of a line: one capital letter, then 1 to 18 fields. What the letter says of the line.
use Rattle.std.specs.Prelude.{ℕ, ◌+◌, ◌*◌, ◌≤◌, ◌<◌, ◌≡◌, Bool, cond, ◌&&◌, List, length, get_or, eqb, leb}
use Rattle.format.specs.Tests.{all_below}
use Rattle.format.specs.Fields.{field_count, number_of}
use Rattle.format.specs.declared.Letter.{Letter}
use Rattle.format.specs.declared.Letter.TheVariants.{G, S, R, E, P, H, D, A, Other}

-- the first byte, 0 where there is none
unfoldable pub letter_of : List ℕ → ℕ
letter_of line = get_or line 0 0

-- the kind of line that a letter starts, by the letters of the three files
unfoldable pub letter_kind : ℕ → Letter
letter_kind b =
    cond (eqb b 71) G
    (cond (eqb b 83) S
    (cond (eqb b 82) R
    (cond (eqb b 69) E
    (cond (eqb b 80) P
    (cond (eqb b 72) H
    (cond (eqb b 68) D
    (cond (eqb b 65) A
    Other)))))))

-- the letter of a kind, 0 for every other
unfoldable pub kind_letter : Letter → ℕ
kind_letter G = 71
kind_letter S = 83
kind_letter R = 82
kind_letter E = 69
kind_letter P = 80
kind_letter H = 72
kind_letter D = 68
kind_letter A = 65
kind_letter Other = 0

unfoldable pub is_capital : ℕ → Bool
is_capital b = leb 65 b && leb b 90

-- question 1 for the bytes of an ended line
unfoldable pub shape_of : List ℕ → Bool
shape_of line =
    leb 1 (field_count line)
    && (leb (field_count line) 18
    && (eqb (length line) (4 * field_count line + 1)
    && (is_capital (letter_of line)
    && all_below (field_count line) (λ k. leb (number_of line k) 9999))))

-- what a line of the shape is
pub record Shaped (line : List ℕ) : Type 0 where
  pub capital : (65 ≤ letter_of line) × (letter_of line ≤ 90)
  pub some : 1 ≤ field_count line
  pub few : field_count line ≤ 18
  pub whole : length line ≡ 4 * field_count line + 1
  pub numbers : (k : ℕ) → k < field_count line → number_of line k ≤ 9999
