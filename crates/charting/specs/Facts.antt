-- The run part of demand 3, over what start and run leave: what holds of every start that passes question 8 and every
-- list of runs after it.
use Rattle.std.specs.Prelude.{◌≡◌, true, List, ℕ, ◌+◌, ◌≤◌, ◌<◌, length}
use Rattle.hrg.specs.Grammars.{Graph, Grammar}
use Rattle.hrg.specs.Items.{Item, closure}
use Rattle.hrg.specs.Agenda.{Closure}
use Rattle.agenda.specs.Steps.{Chart, handled_count, sum_of}
use Rattle.agenda.specs.RunFacts.{ChartCorrect}
use Rattle.questions.specs.Abstract.{grammar_of, graph_of}
use Rattle.records.specs.Words.{capacity, chart_of}
use Rattle.charting.specs.Calls.{number_of, steps_of, fit, start_of, runs_of, Outcome}

-- The answer a and the chart c that the last of several runs gave, which were given k steps in all from a start on,
-- on a chart that holds cap items. The order among equal counts and the layout are the program's choice: this holds
-- of each.
pub record RunRight (G : Grammar) (H : Graph) (cap k : ℕ) (a : Outcome) (c : Chart) : Type 0 where
  -- never 8
  pub fit : number_of a ≡ 8 → ⊥
  -- 9 only if the closure has more items than the chart holds; the steps done are at most those given
  pub small : number_of a ≡ 9 → (is : List Item) → Closure (closure G H) is → cap < length is
  pub most : handled_count c.records ≤ k
  -- else every handled item is true with its fewest count, in order, and the steps reported are those done: as many
  -- as were given or as the closure has
  pub right : (number_of a ≡ 9 → ⊥) → ChartCorrect G H k c.records
  pub steps : (number_of a ≡ 9 → ⊥) → steps_of a ≡ handled_count c.records
  -- done only with all of the closure, 10 only while it has more items than the steps given, and never once these are
  -- as many as the chart holds items
  pub done : number_of a ≡ 0 → (is : List Item) → Closure (closure G H) is → steps_of a ≡ length is
  pub more : number_of a ≡ 10 → (is : List Item) → Closure (closure G H) is → k < length is
  pub never : cap ≤ k → number_of a ≡ 10 → ⊥

-- A run of k steps on the words w that answered a and left v: what holds of the program's own choices where w are the
-- words that a start and the runs ks left.
pub record RunChoices (g h w : List ℕ) (k : ℕ) (a : Outcome) (v : List ℕ) : Type 0 where
  pub right : (former ks : List ℕ) → fit g h former ≡ true → w ≡ runs_of g h (start_of g h former).words ks → RunRight (grammar_of g) (graph_of g h) (capacity former) (sum_of ks + k) a (chart_of v)

-- A start on the words w that answered a: 9 only if the closure has more items than the chart holds.
pub record StartChoices (g h w : List ℕ) (a : Outcome) : Type 0 where
  pub small : number_of a ≡ 9 → (is : List Item) → Closure (closure (grammar_of g) (graph_of g h)) is → capacity w < length is
