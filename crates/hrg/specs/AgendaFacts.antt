-- What holds of an agenda over the closure after k steps were given: the run part of demand 3, for lists without a
-- limit.
use Rattle.std.specs.Prelude.{◌≡◌, ◌↔◌, ℕ, ◌≤◌, min, length}
use mathlib.Core.List.{List, [], ◌++◌, Memᴰ as In}
use Rattle.hrg.specs.Grammars.{Graph, Grammar}
use Rattle.hrg.specs.Items.{Item, closure}
use Rattle.hrg.specs.Truth.{Truth, Fewest}
use Rattle.hrg.specs.Agenda.{Entry, State, Distinct, items_of, Made, Closure}

pub record Correct (G : Grammar) (H : Graph) (k : ℕ) (s : State Item) : Type 0 where
  -- every handled item is true, with the fewest applications of all trees that make it true
  pub fewest : (h : Entry Item) → In h s.handled → Fewest G H h.item h.count
  -- no unhandled item of the closure has a smaller count
  pub order : (h : Entry Item) → In h s.handled → (i : Item) (n : ℕ) → Truth G H i n → (In i (items_of s.handled) → ⊥) → h.count ≤ n
  -- no two handled items are the same, and they number the steps: those given or the closure's size, whichever is less
  pub distinct : Distinct (items_of s.handled)
  pub steps : (is : List Item) → Closure (closure G H) is → length s.handled ≡ min k (length is)
  -- the items present are just those that one rule makes from handled ones
  pub present : (i : Item) → In i (items_of (s.handled ++ s.waiting)) ↔ ((e : Entry Item) × Made (closure G H) s.handled e × (e.item ≡ i))
  -- with nothing left, the handled items are the closure
  pub done : s.waiting ≡ [] → Closure (closure G H) (items_of s.handled)
