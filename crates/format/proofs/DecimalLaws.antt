-- The text of a field is the one that the paper describes, and no other.
use Rattle.std.specs.Prelude.{ℕ, ◌+◌, ◌*◌, ◌/◌, ◌%◌, ◌≤◌, ◌<◌, ◌≡◌, refl, List, [], ◌∷◌, ◌++◌, length, get_or, replicate}
use Rattle.std.proofs.Common.{sym, ap, ◌∙◌, length-append, arith}
use Rattle.std.proofs.lemmas.List.{length-replicate}
use Rattle.std.proofs.Math.Decide.{dec_lt}
use Rattle.format.specs.Fields.{column, field_text, digit_of, value_from, value_of, cell_of, Digits, none, more, Decimal}
use Rattle.format.proofs.FieldLaws.{digit_of_lem, digits_of, digit_in, digit_le, column_blank, column_digit, cell_written, cell_text}
use Rattle.format.specs.declared.Cell.TheVariants.{Number}

-- the digit of x in front of other digits
front : (x : ℕ) {bs : List ℕ} → Digits bs → Digits ((48 + x % 10) ∷ bs)
front x h = more {b = 48 + x % 10} (omega arith) (omega arith) h

one_digit : (n : ℕ) → n < 10 → Decimal (field_text n) n
unfolding field_text value_of value_from
one_digit n h = record {
  blanks = 3;
  digits = (48 + n % 10) ∷ [];
  columns = rw (column_blank 1000 n (omega arith), column_blank 100 n (omega arith), column_blank 10 n h);
  four = refl;
  numeral = front n none;
  some = omega arith;
  lead = λ z. refl;
  value = rw (digit_of_lem n) (omega arith);
}

two_digits : (n : ℕ) → 10 ≤ n → n < 100 → Decimal (field_text n) n
unfolding field_text value_of value_from
two_digits n l h = record {
  blanks = 2;
  digits = (48 + n / 10 % 10) ∷ (48 + n % 10) ∷ [];
  columns = rw (column_blank 1000 n (omega arith), column_blank 100 n h, column_digit 10 n l);
  four = refl;
  numeral = front (n / 10) (front n none);
  some = omega arith;
  lead = λ z. absurd (omega arith);
  value = rw (digit_of_lem n, digit_of_lem (n / 10)) (omega arith);
}

three_digits : (n : ℕ) → 100 ≤ n → n < 1000 → Decimal (field_text n) n
unfolding field_text value_of value_from
three_digits n l h = record {
  blanks = 1;
  digits = (48 + n / 100 % 10) ∷ (48 + n / 10 % 10) ∷ (48 + n % 10) ∷ [];
  columns = rw (column_blank 1000 n h, column_digit 100 n l, column_digit 10 n (omega arith));
  four = refl;
  numeral = front (n / 100) (front (n / 10) (front n none));
  some = omega arith;
  lead = λ z. absurd (omega arith);
  value = rw (digit_of_lem n, digit_of_lem (n / 10), digit_of_lem (n / 100)) (omega (arith, digits_of n (omega arith)));
}

four_digits : (n : ℕ) → 1000 ≤ n → n ≤ 9999 → Decimal (field_text n) n
unfolding field_text value_of value_from
four_digits n l h = record {
  blanks = 0;
  digits = (48 + n / 1000 % 10) ∷ (48 + n / 100 % 10) ∷ (48 + n / 10 % 10) ∷ (48 + n % 10) ∷ [];
  columns = rw (column_digit 1000 n l, column_digit 100 n (omega arith), column_digit 10 n (omega arith));
  four = refl;
  numeral = front (n / 1000) (front (n / 100) (front (n / 10) (front n none)));
  some = omega arith;
  lead = λ z. absurd (omega arith);
  value = rw (digit_of_lem n, digit_of_lem (n / 10), digit_of_lem (n / 100), digit_of_lem (n / 1000)) (omega (arith, digits_of n h));
}

pub text_decimal : (n : ℕ) → n ≤ 9999 → Decimal (field_text n) n
text_decimal n h = go (dec_lt n 10) (dec_lt n 100) (dec_lt n 1000)
  where
    go : Dec (n < 10) → Dec (n < 100) → Dec (n < 1000) → Decimal (field_text n) n
    go (yes a) b c = one_digit n a
    go (no a) (yes b) c = two_digits n (omega arith) b
    go (no a) (no b) (yes c) = three_digits n (omega arith) c
    go (no a) (no b) (no c) = four_digits n (omega arith) h

-- ---- no other text is one of n
-- the columns of the number that four digits make
module _ (a b c d : ℕ) (p : a ≤ 9) (q : b ≤ 9) (r : c ≤ 9) (s : d ≤ 9) (n : ℕ) (e : ((a * 10 + b) * 10 + c) * 10 + d ≡ n) where
  units_back : 48 + n % 10 ≡ 48 + d
  units_back = omega arith

  tens_back : 10 ≤ n → column 10 n ≡ 48 + c
  tens_back h = column_digit 10 n h ∙ omega arith

  hundreds_back : 100 ≤ n → column 100 n ≡ 48 + b
  hundreds_back h = column_digit 100 n h ∙ omega arith

  thousands_back : 1000 ≤ n → column 1000 n ≡ 48 + a
  thousands_back h = column_digit 1000 n h ∙ omega arith

one_back : (a n : ℕ) → a ≤ 9 → a ≡ n → 32 ∷ 32 ∷ 32 ∷ (48 + a) ∷ [] ≡ field_text n
unfolding field_text
one_back a n p e =
    rw (column_blank 1000 n (omega arith), column_blank 100 n (omega arith), column_blank 10 n (omega arith), units_back 0 0 0 a (omega arith) (omega arith) (omega arith) p n (omega arith))

two_back : (a b n : ℕ) → 1 ≤ a → a ≤ 9 → b ≤ 9 → a * 10 + b ≡ n → 32 ∷ 32 ∷ (48 + a) ∷ (48 + b) ∷ [] ≡ field_text n
unfolding field_text
two_back a b n l p q e =
    let sum : ((0 * 10 + 0) * 10 + a) * 10 + b ≡ n = omega arith in
    let zero_le : 0 ≤ 9 = omega arith in
    rw (column_blank 1000 n (omega arith), column_blank 100 n (omega arith), tens_back 0 0 a b zero_le zero_le p q n sum (omega arith), units_back 0 0 a b zero_le zero_le p q n sum)

three_back : (a b c n : ℕ) → 1 ≤ a → a ≤ 9 → b ≤ 9 → c ≤ 9 → (a * 10 + b) * 10 + c ≡ n → 32 ∷ (48 + a) ∷ (48 + b) ∷ (48 + c) ∷ [] ≡ field_text n
unfolding field_text
three_back a b c n l p q r e =
    let sum : ((0 * 10 + a) * 10 + b) * 10 + c ≡ n = omega arith in
    let zero_le : 0 ≤ 9 = omega arith in
    rw (column_blank 1000 n (omega arith), hundreds_back 0 a b c zero_le p q r n sum (omega arith), tens_back 0 a b c zero_le p q r n sum (omega arith), units_back 0 a b c zero_le p q r n sum)

four_back : (a b c d n : ℕ) → 1 ≤ a → a ≤ 9 → b ≤ 9 → c ≤ 9 → d ≤ 9 → ((a * 10 + b) * 10 + c) * 10 + d ≡ n → (48 + a) ∷ (48 + b) ∷ (48 + c) ∷ (48 + d) ∷ [] ≡ field_text n
unfolding field_text
four_back a b c d n l p q r s e =
    rw (thousands_back a b c d p q r s n e (omega arith), hundreds_back a b c d p q r s n e (omega arith), tens_back a b c d p q r s n e (omega arith), units_back a b c d p q r s n e)

-- a digit byte is 48 and its digit
byte : (b : ℕ) → 48 ≤ b → b ≤ 57 → b ≡ 48 + digit_of b
byte b l h = omega (arith, digit_in b l h)

-- so many blanks as the digits leave
text_back : (j : ℕ) (ds : List ℕ) (n : ℕ) → Digits ds → j + length ds ≡ 4 → 1 ≤ length ds → (get_or ds 0 0 ≡ 48 → length ds ≡ 1) → value_of ds ≡ n
    → replicate j 32 ++ ds ≡ field_text n
unfolding value_of value_from
text_back j [] n t e s z v = absurd (omega arith)
text_back j (a ∷ []) n (more l h t) e s z v =
    let k : j ≡ 3 = omega arith in
    rw (k, byte a l h) (one_back (digit_of a) n (digit_le a) (omega arith))
text_back j (a ∷ b ∷ []) n (more l h (more l₂ h₂ t)) e s z v =
    let k : j ≡ 2 = omega arith in
    let first : a ≡ 48 → ⊥ = λ q. let one = z q in omega arith in
    rw (k, byte a l h, byte b l₂ h₂) (two_back (digit_of a) (digit_of b) n (omega (arith, byte a l h)) (digit_le a) (digit_le b) (omega arith))
text_back j (a ∷ b ∷ c ∷ []) n (more l h (more l₂ h₂ (more l₃ h₃ t))) e s z v =
    let k : j ≡ 1 = omega arith in
    let first : a ≡ 48 → ⊥ = λ q. let one = z q in omega arith in
    rw (k, byte a l h, byte b l₂ h₂, byte c l₃ h₃)
    (three_back (digit_of a) (digit_of b) (digit_of c) n (omega (arith, byte a l h)) (digit_le a) (digit_le b) (digit_le c) (omega arith))
text_back j (a ∷ b ∷ c ∷ d ∷ []) n (more l h (more l₂ h₂ (more l₃ h₃ (more l₄ h₄ t)))) e s z v =
    let k : j ≡ 0 = omega arith in
    let first : a ≡ 48 → ⊥ = λ q. let one = z q in omega arith in
    rw (k, byte a l h, byte b l₂ h₂, byte c l₃ h₃, byte d l₄ h₄)
    (four_back (digit_of a) (digit_of b) (digit_of c) (digit_of d) n (omega (arith, byte a l h)) (digit_le a) (digit_le b) (digit_le c) (digit_le d) (omega arith))
text_back j (a ∷ b ∷ c ∷ d ∷ f ∷ ds) n t e s z v = absurd (omega arith)

pub decimal_text : (bs : List ℕ) (n : ℕ) → Decimal bs n → bs ≡ field_text n
decimal_text bs n h =
    let size : h.blanks + length h.digits ≡ 4 =
    sym (length-append (replicate h.blanks 32) h.digits ∙ rw length-replicate) ∙ sym (ap length h.columns) ∙ h.four
    in
    h.columns ∙ text_back h.blanks h.digits n h.numeral size h.some h.lead h.value

-- ---- so a field reads as n exactly when it holds n in the words of the paper
pub decimal_reads : (bs : List ℕ) (n : ℕ) → n ≤ 9999 → Decimal bs n → cell_of bs ≡ Number n
decimal_reads bs n h d = ap cell_of (decimal_text bs n d) ∙ cell_written n h

pub reads_decimal : (bs : List ℕ) (n : ℕ) → n ≤ 9999 → cell_of bs ≡ Number n → Decimal bs n
reads_decimal bs n h e = rw (cell_text bs n e).1 (text_decimal n h)
