-- The record that a step takes.
use Rattle.std.specs.Prelude.{Option, Some, None, Bool, true, false, cond, List, ℕ, length, eqb}
use Rattle.agenda.specs.Steps.{Chart, least_waiting}
use Rattle.records.specs.Words.{marked_at}

-- one of least count among those that wait; none in a marked chart
unfoldable pub next_in : Chart → Option ℕ
next_in c = cond (eqb c.mark 0) (least_waiting c.records (length c.records)) None

-- whether there is one
abbrev pub is_some : Option ℕ → Bool
is_some None = false
is_some (Some j) = true

-- the words of a chart in which it is handled
abbrev pub marked_by : List ℕ → Option ℕ → List ℕ
marked_by w None = w
marked_by w (Some j) = marked_at w j
