-- The text of a line, and what a lent buffer holds after it was written.
use Rattle.std.specs.Prelude.{ℕ, ◌+◌, ◌*◌, ◌≤◌, Bool, cond, ◌&&◌, List, [], ◌∷◌, ◌++◌, ◌≡◌, length, get_or, take, leb}
use Rattle.std.proofs.lemmas.List.Edits.{sets}
use Rattle.format.specs.Tests.{all_below}
use Rattle.format.specs.Fields.{field_text}
use Rattle.format.specs.Shape.{is_capital}

unfoldable pub fields_text : List ℕ → List ℕ
fields_text [] = []
fields_text (n ∷ ns) = field_text n ++ fields_text ns

-- a line without its line feed
unfoldable pub line_body : ℕ → List ℕ → List ℕ
line_body letter ns = letter ∷ fields_text ns

unfoldable pub line_text : ℕ → List ℕ → List ℕ
line_text letter ns = line_body letter ns ++ 10 ∷ []

-- the letter and numbers that have a line
pub record Writable (letter : ℕ) (ns : List ℕ) : Type 0 where
  pub capital : (65 ≤ letter) × (letter ≤ 90)
  pub some : 1 ≤ length ns
  pub few : length ns ≤ 18
  pub small : (k : ℕ) → get_or ns k 0 ≤ 9999

-- the same as a computed test
unfoldable pub writable : ℕ → List ℕ → Bool
writable letter ns =
    is_capital letter && (leb 1 (length ns) && (leb (length ns) 18 && all_below (length ns) (λ k. leb (get_or ns k 0) 9999)))

-- whether the text of n is written at `at`: the number has one, and the buffer has room for it
unfoldable pub field_fits : List ℕ → ℕ → ℕ → Bool
field_fits out at n = leb n 9999 && leb (at + 4) (length out)

-- whether the line of the first `count` numbers is written at `at`
unfoldable pub line_fits : List ℕ → ℕ → ℕ → List ℕ → ℕ → Bool
line_fits out at letter fields count =
    leb count 18 && (writable letter (take count fields) && leb (at + (4 * count + 2)) (length out))

-- a text is written at `at`, or nothing is, and the place answered is the next one, or `at`
pub record Put (fits : Bool) (out : List ℕ) (at : ℕ) (text : List ℕ) (now : List ℕ) (r : ℕ) : Type 0 where
  pub place : r ≡ cond fits (at + length text) at
  pub contents : now ≡ cond fits (sets out at text) out
