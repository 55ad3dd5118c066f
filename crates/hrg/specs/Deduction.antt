-- Deduction systems with counts, over any type of items.
use Rattle.std.specs.Prelude.{ℕ, ◌+◌}

-- Axioms have count 0, a unary rule adds a constant, and the counts of a binary rule's premises add up.
pub record System (Item : Type 0) : Type 1 where
  pub Axiom : Item → Type 0
  -- premise, constant, conclusion
  pub Unary : Item → ℕ → Item → Type 0
  -- first premise, second premise, conclusion
  pub Binary : Item → Item → Item → Type 0

-- The least set under the rules: an item is reachable with a count.
pub data Reachable {Item : Type 0} (S : System Item) : Item → ℕ → Type 0 where
  by_axiom : {i : Item} → S.Axiom i → Reachable S i 0
  by_unary : {a i : Item} {n k : ℕ} → Reachable S a n → S.Unary a k i → Reachable S i (n + k)
  by_binary : {a b i : Item} {n k : ℕ} → Reachable S a n → Reachable S b k → S.Binary a b i → Reachable S i (n + k)
