-- A field of four columns: a decimal number 0 to 9,999, right-justified, blanks before it, no leading zero.
use Rattle.std.specs.Prelude.{ℕ, zero, suc, ◌+◌, ◌-◌, ◌*◌, ◌/◌, ◌%◌, ◌≤◌, cond, ◌&&◌, List, [], ◌∷◌, ◌++◌, ◌≡◌, length, get_or, replicate, leb, ltb}
use Rattle.format.specs.Tests.{same_bytes}
use Rattle.format.specs.declared.Cell.{Cell}
use Rattle.format.specs.declared.Cell.TheVariants.{Number, Bad, Missing}

-- what stands in the column of p (1,000, 100, 10) for n: a blank where n is below p, else the digit
unfoldable pub column : ℕ → ℕ → ℕ
column p n = cond (ltb n p) 32 (48 + n / p % 10)

-- the text of n in four columns, for n up to 9,999
unfoldable pub field_text : ℕ → List ℕ
field_text n = column 1000 n ∷ column 100 n ∷ column 10 n ∷ (48 + n % 10) ∷ []

-- the digit that a byte is, 0 for every other byte
unfoldable pub digit_of : ℕ → ℕ
digit_of b = cond (leb 48 b && leb b 57) (b - 48) 0

-- the number that digits give, read from the left, with `n` before them
unfoldable pub value_from : ℕ → List ℕ → ℕ
value_from n [] = n
value_from n (b ∷ bs) = value_from (n * 10 + digit_of b) bs

unfoldable pub value_of : List ℕ → ℕ
value_of bs = value_from 0 bs

-- bytes read as the number whose digits they hold if they are the text written for it
unfoldable pub cell_of : List ℕ → Cell
cell_of bs = cond (same_bytes bs (field_text (value_of bs))) (Number (value_of bs)) Bad

-- how many whole fields a line has behind its letter
unfoldable pub field_count : List ℕ → ℕ
field_count line = (length line - 1) / 4

-- the four bytes of field k, counted from 0
unfoldable pub field_bytes : List ℕ → ℕ → List ℕ
field_bytes line k = get_or line (4 * k + 1) 0 ∷ get_or line (4 * k + 2) 0 ∷ get_or line (4 * k + 3) 0 ∷ get_or line (4 * k + 4) 0 ∷ []

unfoldable pub field_of : List ℕ → ℕ → Cell
field_of line k = cond (ltb k (field_count line)) (cell_of (field_bytes line k)) Missing

-- the number in a field, 10,000 where there is none
abbrev pub number_in : Cell → ℕ
number_in (Number n) = n
number_in Bad = 10000
number_in Missing = 10000

unfoldable pub number_of : List ℕ → ℕ → ℕ
number_of line k = number_in (field_of line k)

-- n numbers of fields from field k on
unfoldable pub numbers_from : List ℕ → ℕ → ℕ → List ℕ
numbers_from line k zero = []
numbers_from line k (suc n) = number_of line k ∷ numbers_from line (k + 1) n

-- the numbers of a line's fields
unfoldable pub fields_of : List ℕ → List ℕ
fields_of line = numbers_from line 0 (field_count line)

-- every byte is a digit
pub data Digits : List ℕ → Type 0 where
  none : Digits []
  more : {b : ℕ} {bs : List ℕ} → 48 ≤ b → b ≤ 57 → Digits bs → Digits (b ∷ bs)

-- The text of n in the words of the paper: digits behind blanks, four columns, no leading zero.
pub record Decimal (bs : List ℕ) (n : ℕ) : Type 0 where
  pub blanks : ℕ
  pub digits : List ℕ
  pub columns : bs ≡ replicate blanks 32 ++ digits
  pub four : length bs ≡ 4
  pub numeral : Digits digits
  pub some : 1 ≤ length digits
  pub lead : get_or digits 0 0 ≡ 48 → length digits ≡ 1
  pub value : value_of digits ≡ n
