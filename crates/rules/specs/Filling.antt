-- How the table of plan nodes is filled: parents tell their children, rule by rule.
use Rattle.std.specs.Prelude.{◌≡◌, List, ℕ, ◌+◌, ◌*◌, ◌≤◌, ◌<◌, length, get_or}
use Rattle.hrg.specs.Counts.{occurs}
use Rattle.hrg.specs.Grammars.{plan_of, plan_node}
use Rattle.hrg.specs.WellFormed.{children}
use Rattle.questions.specs.Abstract.{grammar_of}
use Rattle.joins.specs.Joins.{OpenAt}
use Rattle.rules.specs.Plans.{plan_table_words, join_word, PlacedAt}

-- p is a child of plan node q of rule r
abbrev pub ChildOf : List ℕ → ℕ → ℕ → ℕ → Type 0
ChildOf g r p q = 0 < occurs p (children (plan_node (plan_of (grammar_of g) r) q))

-- place a has the word w and the set o in u, and all else is as in t
pub record Placed (t u : List ℕ) (a w o : ℕ) : Type 0 where
  pub size : length u ≡ plan_table_words
  pub word : get_or u a 0 ≡ w
  pub opened : get_or u (1024 + a) 0 ≡ o
  pub other : (k : ℕ) → k < 1024 → (k ≡ a → ⊥) → (get_or u k 0 ≡ get_or t k 0) × (get_or u (1024 + k) 0 ≡ get_or t (1024 + k) 0)

-- the children of plan node q of rule r have the word of q and the set o in u, and all else is as in t
pub record Put (g : List ℕ) (r q o : ℕ) (t u : List ℕ) : Type 0 where
  pub size : length u ≡ plan_table_words
  pub told : (p : ℕ) → ChildOf g r p q → (get_or u (16 * r + p) 0 ≡ join_word g r p q) × (get_or u (1024 + (16 * r + p)) 0 ≡ o)
  pub kept : (k : ℕ) → k < 1024 → ((p : ℕ) → k ≡ 16 * r + p → ChildOf g r p q → ⊥) → (get_or u k 0 ≡ get_or t k 0) × (get_or u (1024 + k) 0 ≡ get_or t (1024 + k) 0)

-- the rules before r are in the table, and the children of rule r's plan nodes before q; the other words are as they
-- were made
pub record ToldTo (g t : List ℕ) (r q : ℕ) : Type 0 where
  pub size : length t ≡ plan_table_words
  pub rules : (r' p : ℕ) → r' < r → p < 16 → PlacedAt g t r' p
  pub told : (p q' : ℕ) → q' < q → ChildOf g r p q' → (get_or t (16 * r + p) 0 ≡ join_word g r p q') × OpenAt g r q' (get_or t (1024 + (16 * r + p)) 0)
  pub rest : (p : ℕ) → r < 64 → p < 16 → ((q' : ℕ) → q' < q → ChildOf g r p q' → ⊥) → get_or t (16 * r + p) 0 ≡ 0
  pub after : (k : ℕ) → 16 * (r + 1) ≤ k → k < 1024 → get_or t k 0 ≡ 0
