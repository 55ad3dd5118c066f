-- Laws of a field: it reads as n exactly when its four bytes are the text of n.
use Rattle.std.specs.Prelude.{ℕ, zero, suc, ◌+◌, ◌-◌, ◌*◌, ◌/◌, ◌%◌, ◌≤◌, ◌<◌, ◌≡◌, refl, Bool, true, false, cond, ◌&&◌, List, [], ◌∷◌, length, get_or, leb}
use Rattle.std.proofs.Common.{sym, ap, ◌∙◌, arith, mod-eq_of_lt, add-zero, lt-ltb, le-ltb, le-leb, leb-true}
use Rattle.std.proofs.Math.Nat.{div-div-eq-div-mul}
use Rattle.std.proofs.Math.Decide.{dec_lt}
use Rattle.std.proofs.lemmas.Bool.{lt-leb}
use Rattle.format.specs.Tests.{same_bytes}
use Rattle.format.proofs.TestLaws.{both, same_refl, same_eq}
use Rattle.format.specs.Fields.{column, field_text, digit_of, value_from, value_of, cell_of, field_count, field_bytes, field_of, number_in, number_of, numbers_from, fields_of}
use Rattle.format.specs.declared.Cell.{Cell}
use Rattle.format.specs.declared.Cell.TheVariants.{Number, Bad, Missing}

-- ---- digits and columns
pub digit_le : (b : ℕ) → digit_of b ≤ 9
unfolding digit_of
digit_le b = go (leb 48 b && leb b 57) refl
  where
    go : (x : Bool) → (leb 48 b && leb b 57) ≡ x → cond x (b - 48) 0 ≤ 9
    go true e = omega (arith, leb-true b 57 (both (leb 48 b) (leb b 57) e).1)
    go false e = omega arith

pub digit_in : (b : ℕ) → 48 ≤ b → b ≤ 57 → digit_of b ≡ b - 48
unfolding digit_of
digit_in b h l = rw (le-leb 48 b h, le-leb b 57 l)

pub digit_below : (b : ℕ) → b < 48 → digit_of b ≡ 0
unfolding digit_of
digit_below b h = rw (lt-leb 48 b h)

pub digit_of_lem : (x : ℕ) → digit_of (48 + x % 10) ≡ x % 10
digit_of_lem x = digit_in (48 + x % 10) (omega arith) (omega arith) ∙ omega arith

pub column_blank : (p n : ℕ) → n < p → column p n ≡ 32
unfolding column
column_blank p n h = rw (lt-ltb n p h)

pub column_digit : (p n : ℕ) → p ≤ n → column p n ≡ 48 + n / p % 10
unfolding column
column_digit p n h = rw (le-ltb n p h)

digit_column : (p n : ℕ) → (n < p → n / p % 10 ≡ 0) → digit_of (column p n) ≡ n / p % 10
digit_column p n z = go (dec_lt n p)
  where
    go : Dec (n < p) → digit_of (column p n) ≡ n / p % 10
    go (yes h) = rw (column_blank p n h) (digit_below 32 (omega arith) ∙ sym (z h))
    go (no h) = rw (column_digit p n (omega arith)) (digit_of_lem (n / p))

-- ---- the value of four bytes
pub value_four : (a b c d : ℕ) → value_of (a ∷ b ∷ c ∷ d ∷ []) ≡ ((digit_of a * 10 + digit_of b) * 10 + digit_of c) * 10 + digit_of d
unfolding value_of value_from
value_four a b c d = omega arith

pub value_le : (a b c d : ℕ) → value_of (a ∷ b ∷ c ∷ d ∷ []) ≤ 9999
value_le a b c d = omega (arith, value_four a b c d, digit_le a, digit_le b, digit_le c, digit_le d)

-- a number below 10,000 is made of its four digits
decimal : (n x y z : ℕ) → n / 10 ≡ x → x / 10 ≡ y → y / 10 ≡ z → n < 10000 → ((z % 10 * 10 + y % 10) * 10 + x % 10) * 10 + n % 10 ≡ n
decimal n x y z p q r h =
    let tens : n ≡ 10 * x + n % 10 = omega arith in
    let hundreds : x ≡ 10 * y + x % 10 = omega arith in
    let thousands : y ≡ 10 * z + y % 10 = omega arith in
    let below : z < 10 = omega arith in
    sums n (n % 10) x (x % 10) y (y % 10) z (z % 10) tens hundreds thousands (mod-eq_of_lt below)
  where
    sums : (n n' x x' y y' z z' : ℕ) → n ≡ 10 * x + n' → x ≡ 10 * y + x' → y ≡ 10 * z + y' → z' ≡ z → ((z' * 10 + y') * 10 + x') * 10 + n' ≡ n
    sums n n' x x' y y' z z' a b c d = omega arith

pub digits_of : (n : ℕ) → n ≤ 9999 → ((n / 1000 % 10 * 10 + n / 100 % 10) * 10 + n / 10 % 10) * 10 + n % 10 ≡ n
digits_of n h =
    decimal n (n / 10) (n / 100) (n / 1000) refl (div-div-eq-div-mul n 10 10) (div-div-eq-div-mul n 100 10) (omega arith)

pub value_written : (n : ℕ) → n ≤ 9999 → value_of (field_text n) ≡ n
unfolding field_text
value_written n h =
    value_four (column 1000 n) (column 100 n) (column 10 n) (48 + n % 10)
    ∙ rw (digit_column 1000 n (λ l. omega arith), digit_column 100 n (λ l. omega arith), digit_column 10 n (λ l. omega arith), digit_of_lem n)
    (digits_of n h)

-- ---- what reads as a number is its text, and what is written is read again
pub cell_text : (bs : List ℕ) (n : ℕ) → cell_of bs ≡ Number n → (value_of bs ≡ n) × (bs ≡ field_text n)
unfolding cell_of
cell_text bs n = go (same_bytes bs (field_text (value_of bs))) refl
  where
    go : (x : Bool) → same_bytes bs (field_text (value_of bs)) ≡ x → cond x (Number (value_of bs)) Bad ≡ Number n → (value_of bs ≡ n) × (bs ≡ field_text n)
    go true p e =
        let same : value_of bs ≡ n = cc in
        (same, same_eq bs (field_text (value_of bs)) p ∙ ap field_text same)
    go false p e = absurd (let z : ◌≡◌ {A = ℕ} 0 1 = cc in omega arith)

pub cell_yes : (bs : List ℕ) (n : ℕ) → n ≡ value_of bs → same_bytes bs (field_text n) ≡ true → cell_of bs ≡ Number n
unfolding cell_of
cell_yes bs n e h = rw (← e, h)

pub cell_no : (bs : List ℕ) (n : ℕ) → n ≡ value_of bs → same_bytes bs (field_text n) ≡ false → cell_of bs ≡ Bad
unfolding cell_of
cell_no bs n e h = rw (← e, h)

pub cell_written : (n : ℕ) → n ≤ 9999 → cell_of (field_text n) ≡ Number n
cell_written n h = cell_yes (field_text n) n (sym (value_written n h)) (same_refl (field_text n))

pub cell_le : (a b c d n : ℕ) → cell_of (a ∷ b ∷ c ∷ d ∷ []) ≡ Number n → n ≤ 9999
cell_le a b c d n e = omega (arith, (cell_text (a ∷ b ∷ c ∷ d ∷ []) n e).0, value_le a b c d)

-- ---- the fields of a line
pub field_missing : (line : List ℕ) (k : ℕ) → field_count line ≤ k → field_of line k ≡ Missing
unfolding field_of
field_missing line k h = rw (le-ltb k (field_count line) h)

pub field_cell : (line : List ℕ) (k : ℕ) → k < field_count line → field_of line k ≡ cell_of (field_bytes line k)
unfolding field_of
field_cell line k h = rw (lt-ltb k (field_count line) h)

-- the same for code that reads the four bytes
pub field_read : (line : List ℕ) (k : ℕ) → k < field_count line
    → field_of line k ≡ cell_of (get_or line (4 * k + 1) 0 ∷ get_or line (4 * k + 2) 0 ∷ get_or line (4 * k + 3) 0 ∷ get_or line (4 * k + 4) 0 ∷ [])
unfolding field_bytes
field_read line k h = field_cell line k h

pub ruleset reading = (field_missing, field_read)

-- the text of n reads as n
pub text_field : (line : List ℕ) (k n : ℕ) → k < field_count line → n ≤ 9999 → field_bytes line k ≡ field_text n → field_of line k ≡ Number n
text_field line k n h l e = field_cell line k h ∙ ap cell_of e ∙ cell_written n l

-- what a field that reads as n shows
pub record Reads (line : List ℕ) (k n : ℕ) : Type 0 where
  pub within : k < field_count line
  pub small : n ≤ 9999
  pub text : field_bytes line k ≡ field_text n

-- only the text of n reads as n
pub field_text_lem : (line : List ℕ) (k n : ℕ) → field_of line k ≡ Number n → Reads line k n
unfolding field_bytes
field_text_lem line k n e = go (dec_lt k (field_count line))
  where
    go : Dec (k < field_count line) → Reads line k n
    go (yes h) =
        let cell = sym (field_cell line k h) ∙ e in
        record { within = h; small = cell_le _ _ _ _ n cell; text = (cell_text (field_bytes line k) n cell).1 }
    go (no h) =
        let gone = field_missing line k (omega arith) in
        absurd (let z : ◌≡◌ {A = ℕ} 0 1 = cc in omega arith)

-- ---- the numbers of fields
pub number_field : (line : List ℕ) (k n : ℕ) → field_of line k ≡ Number n → number_of line k ≡ n
unfolding number_of
number_field line k n e = rw e

pub number_out : (line : List ℕ) (k : ℕ) → field_count line ≤ k → number_of line k ≡ 10000
unfolding number_of
number_out line k h = rw (field_missing line k h)

-- a number up to 9,999 stands there; every other field gives 10,000
pub number_reads : (line : List ℕ) (k : ℕ) → number_of line k ≤ 9999 → field_of line k ≡ Number (number_of line k)
unfolding number_of
number_reads line k h = go (field_of line k) h
  where
    go : (c : Cell) → number_in c ≤ 9999 → c ≡ Number (number_in c)
    go (Number n) h = refl
    go Bad h = absurd (omega arith)
    go Missing h = absurd (omega arith)

pub number_le : (line : List ℕ) (k : ℕ) → number_of line k ≤ 10000
unfolding number_of
number_le line k = go (field_of line k) refl
  where
    go : (c : Cell) → field_of line k ≡ c → number_in c ≤ 10000
    go (Number n) e = omega (arith, (field_text_lem line k n e).small)
    go Bad e = omega arith
    go Missing e = omega arith

numbers_length : (line : List ℕ) (k n : ℕ) → length (numbers_from line k n) ≡ n
unfolding numbers_from
numbers_length line k zero = refl
numbers_length line k (suc n) = ap suc (numbers_length line (k + 1) n)

numbers_at : (line : List ℕ) (k n i d : ℕ) → i < n → get_or (numbers_from line k n) i d ≡ number_of line (k + i)
unfolding numbers_from
numbers_at line k zero i d h = absurd (omega arith)
numbers_at line k (suc n) zero d h = ap (number_of line) (sym (add-zero k))
numbers_at line k (suc n) (suc i) d h = numbers_at line (k + 1) n i d (omega arith) ∙ ap (number_of line) (omega arith)

numbers_out : (line : List ℕ) (k n i d : ℕ) → n ≤ i → get_or (numbers_from line k n) i d ≡ d
unfolding numbers_from
numbers_out line k zero i d h = refl
numbers_out line k (suc n) zero d h = absurd (omega arith)
numbers_out line k (suc n) (suc i) d h = numbers_out line (k + 1) n i d (omega arith)

pub fields_length : (line : List ℕ) → length (fields_of line) ≡ field_count line
unfolding fields_of
fields_length line = numbers_length line 0 (field_count line)

pub fields_in_lem : (line : List ℕ) (k d : ℕ) → k < field_count line → get_or (fields_of line) k d ≡ number_of line k
unfolding fields_of
fields_in_lem line k d h = numbers_at line 0 (field_count line) k d h ∙ ap (number_of line) (omega arith)

-- the number that is read at any place
pub fields_at : (line : List ℕ) (k : ℕ) → get_or (fields_of line) k 10000 ≡ number_of line k
unfolding fields_of
fields_at line k = go (dec_lt k (field_count line))
  where
    go : Dec (k < field_count line) → get_or (numbers_from line 0 (field_count line)) k 10000 ≡ number_of line k
    go (yes h) = numbers_at line 0 (field_count line) k 10000 h ∙ ap (number_of line) (omega arith)
    go (no h) = numbers_out line 0 (field_count line) k 10000 (omega arith) ∙ sym (number_out line k (omega arith))
