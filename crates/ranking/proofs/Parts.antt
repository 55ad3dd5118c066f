-- A part of words that is lent and comes back: what it orders of the other parts.
use Prim.Native.Nat.{ℕ, ◌+◌, ◌-◌, ◌≤◌, ◌<◌}
use mathlib.Core.Path.{◌≡◌, sym, ap, ◌∙◌}
use mathlib.Core.List.{List, ◌++◌}
use native.Mathlib.Omega.{arith}
use native.Mathlib.Decide.{dec_lt}
use lib.ListN.{length, length-append, length-drop, get_or, set, take, drop, take-append-drop, get_or-eq_default}
use lib.Seq.{length-take-le, take_at, drop_at, take-append-le, drop-append-le, drop-drop, get_or-take, get_or-drop, take-set-le, drop-set-add}

-- the k words from a on
abbrev pub part : ℕ → ℕ → List ℕ → List ℕ
part a k xs = take k (drop a xs)

-- the words with ys in the place of the k from a on
abbrev pub put : ℕ → ℕ → List ℕ → List ℕ → List ℕ
put a k xs ys = take a xs ++ (ys ++ drop k (drop a xs))

pub length_part : (a k : ℕ) (xs : List ℕ) → a + k ≤ length xs → length (part a k xs) ≡ k
length_part a k xs h = length-take-le k (drop a xs) (omega (arith, length-drop a xs))

-- a part of zeros
pub part_zeros : (a k : ℕ) (xs : List ℕ) → a + k ≤ length xs → ((i : ℕ) → get_or xs i 0 ≡ 0) → (i : ℕ) → get_or (part a k xs) i 0 ≡ 0
part_zeros a k xs h z i = go (dec_lt i k)
  where
    go : Dec (i < k) → get_or (part a k xs) i 0 ≡ 0
    go (yes l) = get_or-take k (drop a xs) i 0 l ∙ get_or-drop a xs i 0 ∙ z (a + i)
    go (no l) = get_or-eq_default (part a k xs) 0 (omega (arith, length_part a k xs h))

-- a part in front of a word that is set
pub part_set : (b m i v : ℕ) (xs : List ℕ) → b + m ≤ i → part b m (set xs i v) ≡ part b m xs
part_set b m i v xs l =
    ap (λ n. part b m (set xs n v)) (let q : i ≡ b + (i - b) = omega arith in q)
    ∙ ap (take m) (drop-set-add b xs (i - b) v)
    ∙ take-set-le m (drop b xs) (i - b) v (omega arith)

-- a word is a part of one word
one_word : (i : ℕ) (xs : List ℕ) → get_or (part i 1 xs) 0 0 ≡ get_or xs i 0
one_word i xs = get_or-take 1 (drop i xs) 0 0 (omega arith) ∙ get_or-drop i xs 0 0 ∙ ap (λ n. get_or xs n 0) (let q : i + 0 ≡ i = omega arith in q)

module _ (a k : ℕ) (xs ys : List ℕ) (h : a + k ≤ length xs) (e : length ys ≡ k) where
  front : length (take a xs) ≡ a
  front = length-take-le a xs (omega arith)

  pub length_put : length (put a k xs ys) ≡ length xs
  length_put = simp (length-append, length-drop) (omega (arith, front))

  pub put_same : part a k (put a k xs ys) ≡ ys
  put_same = ap (take k) (drop_at (take a xs) (ys ++ drop k (drop a xs)) a front) ∙ take_at ys (drop k (drop a xs)) k e

  -- a part in front of it
  pub put_before : (b m : ℕ) → b + m ≤ a → part b m (put a k xs ys) ≡ part b m xs
  put_before b m l = within (ys ++ drop k (drop a xs)) ∙ sym (within (drop a xs)) ∙ ap (part b m) (take-append-drop a xs)
    where
      within : (zs : List ℕ) → part b m (take a xs ++ zs) ≡ part b m (take a xs)
      within zs = ap (take m) (drop-append-le b (take a xs) zs (omega (arith, front))) ∙ take-append-le m (drop b (take a xs)) zs (omega (arith, front, length-drop b (take a xs)))

  -- a part behind it
  pub put_behind : (b m : ℕ) → a + k ≤ b → part b m (put a k xs ys) ≡ part b m xs
  put_behind b m l = ap (take m) (past (put a k xs ys) ∙ ap (drop (b - (a + k))) ends ∙ sym (past xs))
    where
      past : (zs : List ℕ) → drop b zs ≡ drop (b - (a + k)) (drop k (drop a zs))
      past zs = ap (λ n. drop n zs) (let q : b ≡ a + k + (b - (a + k)) = omega arith in q) ∙ sym (drop-drop (b - (a + k)) (a + k) zs) ∙ ap (drop (b - (a + k))) (sym (drop-drop k a zs))

      ends : drop k (drop a (put a k xs ys)) ≡ drop k (drop a xs)
      ends = ap (drop k) (drop_at (take a xs) (ys ++ drop k (drop a xs)) a front) ∙ drop_at ys (drop k (drop a xs)) k e

  pub word_behind : (i : ℕ) → a + k ≤ i → get_or (put a k xs ys) i 0 ≡ get_or xs i 0
  word_behind i l = sym (one_word i (put a k xs ys)) ∙ ap (λ (zs : List ℕ). get_or zs 0 0) (put_behind i 1 l) ∙ one_word i xs

  pub word_before : (i : ℕ) → i < a → get_or (put a k xs ys) i 0 ≡ get_or xs i 0
  word_before i l = sym (one_word i (put a k xs ys)) ∙ ap (λ (zs : List ℕ). get_or zs 0 0) (put_before i 1 (omega arith)) ∙ one_word i xs
