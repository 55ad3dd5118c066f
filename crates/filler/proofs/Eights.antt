-- The record of a line's fields: eight places filled one by one, and the counts of nodes and parts.
use mathlib.Core.Path.{◌≡◌, refl, sym, ap, ◌∙◌}
use mathlib.Core.List.{List, [], ◌∷◌, ◌++◌, append_assoc}
use Prim.Native.Nat.{ℕ, suc, ◌+◌, ◌-◌, ◌≤◌, ◌<◌, min}
use native.Mathlib.Omega.{arith}
use native.Mathlib.Numerals.{add-one}
use native.Mathlib.Decide.{dec_le}
use lib.ListN.{length, take, drop, get_or, set, replicate, length-append, length-take, length-drop, length-replicate, replicate-append-replicate, drop_of_length-le}
use lib.Seq.{take_all, take-suc, take_at, take-append-le, set_at, append_snoc, length-take-le, get_or-take, get_or-drop, drop-drop}
use Rattle.format.specs.Lines.{line_of}
use Rattle.format.specs.Fields.{field_count, number_of, fields_of}
use Rattle.format.proofs.FieldLaws.{fields_length, fields_in_lem, fields_at}
use Rattle.questions.specs.Layout.{rule_nodes}
use Rattle.writing.specs.Filling.{eight, application_of}
use Rattle.writing.specs.declared.Application.{Application}
use Rattle.filler.specs.Rows.{application_read, application_at}

-- ---- eight places
-- behind the numbers, zeros
eight_short : (l : List ℕ) → length l ≤ 8 → eight l ≡ l ++ replicate (8 - length l) 0
unfolding eight
eight_short l h =
    let k = length l in
    let eighth : (8 - k) + k ≡ 8 = omega arith in
    let whole : replicate {A = ℕ} 8 0 ≡ replicate (8 - k) 0 ++ replicate k 0 =
    sym (replicate-append-replicate (8 - k) k 0 ∙ ap (λ (n : ℕ). replicate n 0) eighth) in
    let size : length (l ++ replicate (8 - k) 0) ≡ 8 = omega (arith, length-append l (replicate (8 - k) 0), length-replicate {A = ℕ} (8 - k) 0) in
    ap (λ (z : List ℕ). take 8 (l ++ z)) whole
    ∙ ap (λ (z : List ℕ). take 8 z) (sym (append_assoc l (replicate (8 - k) 0) (replicate k 0)))
    ∙ take_at (l ++ replicate (8 - k) 0) (replicate k 0) 8 size

-- no place is filled yet
pub eight_none : (l : List ℕ) → replicate 8 0 ≡ eight (take 0 l)
unfolding eight
eight_none l = refl

-- the next place
eight_next : (l : List ℕ) (i : ℕ) → i < length l → i < 8 → set (eight (take i l)) i (get_or l i 0) ≡ eight (take (i + 1) l)
eight_next l i h b =
    let p = take i l in
    let x = get_or l i 0 in
    let m = 8 - suc i in
    let size : length p ≡ i = length-take-le i l (omega arith) in
    let more : 8 - length p ≡ suc m = omega arith in
    let next : take (i + 1) l ≡ p ++ (x ∷ []) = ap (λ (n : ℕ). take n l) (add-one i) ∙ take-suc l i 0 h in
    let longer : length (p ++ (x ∷ [])) ≡ suc i = omega (arith, length-append p (x ∷ [])) in
    let rest : 8 - length (p ++ (x ∷ [])) ≡ m = omega arith in
    let before : eight p ≡ p ++ 0 ∷ replicate m 0 = eight_short p (omega arith) ∙ ap (λ (n : ℕ). p ++ replicate n 0) more in
    let after : eight (p ++ (x ∷ [])) ≡ p ++ x ∷ replicate m 0 =
    eight_short (p ++ (x ∷ [])) (omega arith) ∙ ap (λ (n : ℕ). (p ++ (x ∷ [])) ++ replicate n 0) rest ∙ append_snoc p x (replicate m 0) in
    ap (λ (z : List ℕ). set z i x) before ∙ set_at p 0 (replicate m 0) x i size ∙ sym after ∙ ap eight (sym next)

-- more than eight numbers
eight_all : (l : List ℕ) → eight (take 8 l) ≡ eight l
unfolding eight
eight_all l = go (dec_le (length l) 8)
  where
    go : Dec (length l ≤ 8) → take 8 (take 8 l ++ replicate 8 0) ≡ take 8 (l ++ replicate 8 0)
    go (yes h) = ap (λ (x : List ℕ). take 8 (x ++ replicate 8 0)) (take_all 8 l h)
    go (no h) =
        let size : length (take 8 l) ≡ 8 = length-take-le 8 l (omega arith) in
        take_at (take 8 l) (replicate 8 0) 8 size ∙ sym (take-append-le 8 l (replicate 8 0) (omega arith))

-- ---- the numbers of a line
abbrev pub numbers_of : List ℕ → ℕ → ℕ → List ℕ
numbers_of line from count = take count (drop from (fields_of line))

module _ (line : List ℕ) (from count : ℕ) (inside : count ≤ field_count line - from) where
  numbers_length : length (numbers_of line from count) ≡ count
  numbers_length = omega (arith, length-take count (drop from (fields_of line)), length-drop from (fields_of line), fields_length line)

  number_at : (i : ℕ) → i < count → get_or (numbers_of line from count) i 0 ≡ number_of line (from + i)
  number_at i h = get_or-take count (drop from (fields_of line)) i 0 h ∙ get_or-drop from (fields_of line) i 0 ∙ fields_in_lem line (from + i) 0 (omega arith)

  pub place_filled : (row : List ℕ) (i x : ℕ) → row ≡ eight (take i (numbers_of line from count)) → i < 8 → i < count → x ≡ number_of line (from + i)
      → set row i x ≡ eight (take (i + 1) (numbers_of line from count))
  place_filled row i x e b h n =
      let value : x ≡ get_or (numbers_of line from count) i 0 = n ∙ sym (number_at i h) in
      rw (e, value) (eight_next (numbers_of line from count) i (omega (arith, numbers_length)) b)

  pub places_done : (row : List ℕ) (i : ℕ) → row ≡ eight (take i (numbers_of line from count)) → i ≡ min count 8 → row ≡ eight (numbers_of line from count)
  places_done row i e l = e ∙ go (dec_le count 8)
    where
      go : Dec (count ≤ 8) → eight (take i (numbers_of line from count)) ≡ eight (numbers_of line from count)
      go (yes h) = ap eight (take_all i (numbers_of line from count) (omega (arith, numbers_length)))
      go (no h) =
          let end : i ≡ 8 = omega arith in
          ap (λ (n : ℕ). eight (take n (numbers_of line from count))) end ∙ eight_all (numbers_of line from count)

-- ---- behind the number and the rule
module _ (line : List ℕ) where
  pub rest_is : (rest : ℕ) → rest ≡ field_count line - 2 → rest ≡ length (drop 2 (fields_of line))
  rest_is rest e = omega (arith, length-drop 2 (fields_of line), fields_length line)

-- a line has fewer fields than bytes
pub fields_few : (line : List ℕ) → field_count line ≤ length line
unfolding field_count
fields_few line = omega arith

-- ---- the record
take_min : (k : ℕ) (l : List ℕ) → take (min k (length l)) l ≡ take k l
take_min k l = go (dec_le k (length l))
  where
    go : Dec (k ≤ length l) → take (min k (length l)) l ≡ take k l
    go (yes h) = let all : min k (length l) ≡ k = omega arith in ap (λ (n : ℕ). take n l) all
    go (no h) = let all : min k (length l) ≡ length l = omega arith in ap (λ (n : ℕ). take n l) all ∙ take_all (length l) l (omega arith) ∙ sym (take_all k l (omega arith))

drop_min : (k : ℕ) (l : List ℕ) → drop (min k (length l)) l ≡ drop k l
drop_min k l = go (dec_le k (length l))
  where
    go : Dec (k ≤ length l) → drop (min k (length l)) l ≡ drop k l
    go (yes h) = let all : min k (length l) ≡ k = omega arith in ap (λ (n : ℕ). drop n l) all
    go (no h) = let all : min k (length l) ≡ length l = omega arith in ap (λ (n : ℕ). drop n l) all ∙ none (length l) (omega arith) ∙ sym (none k (omega arith))
      where
        none : (n : ℕ) → length l ≤ n → drop n l ≡ []
        none n b = drop_of_length-le l {i = n} b

same_record : {r s n o m p : ℕ} {a b c d : List ℕ} → r ≡ s → n ≡ o → m ≡ p → a ≡ b → c ≡ d
    → ◌≡◌ {A = Application} (record { rule = r; node_count = n; part_count = m; nodes = a; parts = c }) (record { rule = s; node_count = o; part_count = p; nodes = b; parts = d })
same_record u v w x y = rw (u, v, w, x, y)

-- As many places as the rule has nodes, or as there are fields; the rest are parts.
pub record_read : (g line : List ℕ) (rule rest nodes placed : ℕ) (first second : List ℕ) → rule ≡ number_of line 1 → rest ≡ length (drop 2 (fields_of line)) → nodes ≡ rule_nodes g rule
    → placed ≡ min nodes rest → first ≡ eight (numbers_of line 2 placed) → second ≡ eight (numbers_of line (2 + placed) (rest - placed))
    → ◌≡◌ {A = Application} (record { rule = rule; node_count = placed; part_count = rest - placed; nodes = first; parts = second }) (application_read g (fields_of line))
unfolding application_read application_of
record_read g line rule rest nodes placed first second read is known p q s =
    let fields = drop 2 (fields_of line) in
    let r : rule ≡ get_or (fields_of line) 1 10000 = read ∙ sym (fields_at line 1) in
    let k = rule_nodes g (get_or (fields_of line) 1 10000) in
    let same : nodes ≡ k = known ∙ ap (rule_nodes g) r in
    let least : placed ≡ min k (length fields) = p ∙ ap (λ (n : ℕ). min n rest) same ∙ ap (min k) is in
    let front : take placed fields ≡ take k fields = ap (λ (n : ℕ). take n fields) least ∙ take_min k fields in
    let back : drop placed fields ≡ drop k fields = ap (λ (n : ℕ). drop n fields) least ∙ drop_min k fields in
    let count : placed ≡ length (take k fields) = least ∙ sym (length-take k fields) in
    let others : rest - placed ≡ length (drop k fields) = omega (arith, least, is, length-drop k fields) in
    let parts : numbers_of line (2 + placed) (rest - placed) ≡ drop k fields =
    ap (λ (l : List ℕ). take (rest - placed) l) (sym (drop-drop placed 2 (fields_of line)) ∙ back) ∙ take_all (rest - placed) (drop k fields) (omega (arith, others)) in
    same_record r count others (q ∙ ap eight front) (s ∙ ap eight parts)

-- the record of the line at a place
pub read_at : (g text line : List ℕ) (at : ℕ) (x : Application) → x ≡ application_read g (fields_of line) → line ≡ line_of (drop at text) → x ≡ application_at g text at
unfolding application_at
read_at g text line at x e l = e ∙ ap (λ (b : List ℕ). application_read g (fields_of b)) l
