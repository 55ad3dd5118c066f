-- What a run to the end tells of a graph: the applications of a fewest derivation and the steps.
use Rattle.std.specs.Prelude.{◌≡◌, true, false, List, [], ◌∷◌, ℕ, ◌≤◌, length}
use Rattle.masks.specs.Masks.{full}
use Rattle.hrg.specs.Grammars.{Graph, Grammar}
use Rattle.hrg.specs.Trees.{Tree, applications, Generates}
use Rattle.hrg.specs.Items.{Item, closure, goal}
use Rattle.hrg.specs.Agenda.{Entry, State, Closure}
use Rattle.hrg.specs.AgendaRun.{start_state, run_state}
use Rattle.hrg.specs.ClosureRun.{same_item, leaves, unary_of, binary_of, rules_of}

pub data Outcome : Type 0 where
  derivable : (applications steps : ℕ) → Outcome
  underivable : (steps : ℕ) → Outcome
  unfinished : Outcome

-- the goal among the handled entries, after so many steps
unfoldable pub goal_among : Item → ℕ → List (Entry Item) → Outcome
goal_among i k [] = underivable k
goal_among i k (e ∷ es) = elim (same_item i e.item) [ true ↦ derivable e.count k | false ↦ goal_among i k es ]

unfoldable pub outcome_of : Grammar → Graph → State Item → Outcome
unfolding goal_among full
outcome_of G H s = elim s.waiting [ [] ↦ goal_among (goal G H) (length s.handled) s.handled | w ∷ ws ↦ unfinished ]

-- a run of at most k steps from the start
unfoldable pub outcome : ℕ → Grammar → Graph → Outcome
unfolding outcome_of run_state start_state leaves unary_of binary_of same_item
outcome k G H = outcome_of G H (run_state k (rules_of G H) (start_state (rules_of G H)))

-- What an outcome claims: the steps are the closure's size, and the applications the fewest of all trees that
-- generate the graph, if there are any.
abbrev pub Right : Grammar → Graph → Outcome → Type 0
Right G H (derivable n k) =
    ((is : List Item) → Closure (closure G H) is → length is ≡ k)
    × ((t : Tree) × Generates G H t × (applications G t ≡ n))
    × ((t : Tree) → Generates G H t → n ≤ applications G t)
Right G H (underivable k) = ((is : List Item) → Closure (closure G H) is → length is ≡ k) × ((t : Tree) → Generates G H t → ⊥)
Right G H unfinished = Unit {0}
