-- How often a number stands in a list, and lists of numbers made from a function.
use Rattle.std.specs.Prelude.{Bool, true, false, List, [], ◌∷◌, ℕ, zero, suc, ◌+◌, eqb}

-- 1 for a test that passes
abbrev pub flag : Bool → ℕ
flag true = 1
flag false = 0

-- 1 where the two numbers are the same
unfoldable pub hit : ℕ → ℕ → ℕ
hit v w = flag (eqb v w)

-- how often v stands in a list: 0 is 'not a member', at most 1 everywhere is 'no number twice'
unfoldable pub occurs : ℕ → List ℕ → ℕ
occurs v [] = 0
occurs v (w ∷ ws) = hit v w + occurs v ws

-- the list f 0, f 1, .. of n numbers
unfoldable pub tabulate : ℕ → (ℕ → ℕ) → List ℕ
tabulate zero f = []
tabulate (suc n) f = f 0 ∷ tabulate n (λ i. f (suc i))

-- the numbers below n
unfoldable pub up_to : ℕ → List ℕ
unfolding tabulate
up_to n = tabulate n (λ i. i)

abbrev pub cons_if : Bool → ℕ → List ℕ → List ℕ
cons_if true x xs = x ∷ xs
cons_if false x xs = xs

-- the numbers of a list that pass a test
unfoldable pub select : (ℕ → Bool) → List ℕ → List ℕ
select t [] = []
select t (x ∷ xs) = cons_if (t x) x (select t xs)

-- Two lists have the same members, each as often, in some order.
pub data Reordered {A : Type 0} : List A → List A → Type 0 where
  none : Reordered [] []
  keep : {a : A} {xs ys : List A} → Reordered xs ys → Reordered (a ∷ xs) (a ∷ ys)
  swap : {a b : A} {xs : List A} → Reordered (a ∷ b ∷ xs) (b ∷ a ∷ xs)
  trans : {xs ys zs : List A} → Reordered xs ys → Reordered ys zs → Reordered xs zs
