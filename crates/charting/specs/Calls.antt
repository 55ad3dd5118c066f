-- What start and run answer and leave in the lent words, for every input, and a list of runs after a start.
use Rattle.std.specs.Prelude.{Option, Some, None, Bool, ◌&&◌, cond, List, [], ◌∷◌, ℕ, length, eqb, Result, Ok, Err}
use Rattle.agenda.specs.Steps.{Chart, least_waiting, run_chart, start_chart, handled_count}
use Rattle.questions.specs.Checking.{check_grammar, check_graph}
use Rattle.questions.specs.Abstract.{grammar_of, graph_of}
use Rattle.records.specs.Words.{capacity, chart_of, written}
use Rattle.validity.specs.Checking.{holds, known_chart}
use Rattle.charting.specs.declared.Unready.{Unready}
use Rattle.charting.specs.declared.Unready.TheVariants.{Unfit, TooSmall, Unfinished}

-- what start and run answer: so many steps are done and nothing is left, or why it is not said
abbrev pub Outcome : Type 0
Outcome = Result ℕ Unready

-- 01's number of each answer, 0 where all is done, and the steps done since start that it reports
abbrev pub number_of : Outcome → ℕ
number_of (Err Unfit) = 8
number_of (Err TooSmall) = 9
number_of (Err (Unfinished k)) = 10
number_of (Ok k) = 0

abbrev pub steps_of : Outcome → ℕ
steps_of (Err Unfit) = 0
steps_of (Err TooSmall) = 0
steps_of (Err (Unfinished k)) = k
steps_of (Ok k) = k

-- an answer, and the words of the chart after it
pub record Called : Type 0 where
  pub answer : Outcome
  pub words : List ℕ

-- question 8 before a start: the chart's size, and the tables
unfoldable pub fit : List ℕ → List ℕ → List ℕ → Bool
fit g h w = holds w && (check_grammar g && check_graph g h)

-- question 8 past start: each item of the chart as well
unfoldable pub fit_chart : List ℕ → List ℕ → List ℕ → Bool
unfolding fit
fit_chart g h w = fit g h w && known_chart (grammar_of g) (graph_of g h) w

-- questions 9 and 10, by what stands in the chart: its mark, and whether something waits
abbrev pub when_waiting : ℕ → Option ℕ → Outcome
when_waiting k None = Ok k
when_waiting k (Some j) = Err (Unfinished k)

unfoldable pub answer_of : Chart → Outcome
unfolding least_waiting handled_count
answer_of c = cond (eqb c.mark 0) (when_waiting (handled_count c.records) (least_waiting c.records (length c.records))) (Err TooSmall)

-- a start says 9 or done, and has done no step
unfoldable pub start_answer : Chart → Outcome
start_answer c = cond (eqb c.mark 0) (Ok 0) (Err TooSmall)

-- a refusal 8 changes nothing
abbrev pub refused : List ℕ → Called
refused w = record { answer = Err Unfit; words = w }

unfoldable pub start_of : List ℕ → List ℕ → List ℕ → Called
unfolding fit start_answer
start_of g h w = let c = start_chart (grammar_of g) (capacity w) in cond (fit g h w) (record { answer = start_answer c; words = written w c }) (refused w)

unfoldable pub run_of : List ℕ → List ℕ → List ℕ → ℕ → Called
unfolding fit_chart answer_of
run_of g h w k =
    let c = run_chart (grammar_of g) (graph_of g h) (capacity w) k (chart_of w) in
    cond (fit_chart g h w) (record { answer = answer_of c; words = written w c }) (refused w)

-- how a chart stands: what a run of no steps says
unfoldable pub standing_of : List ℕ → List ℕ → List ℕ → Outcome
unfolding fit_chart answer_of
standing_of g h w = cond (fit_chart g h w) (answer_of (chart_of w)) (Err Unfit)

-- a list of runs, each on the words as the last call left them
unfoldable pub runs_of : List ℕ → List ℕ → List ℕ → List ℕ → List ℕ
unfolding run_of
runs_of g h w [] = w
runs_of g h w (k ∷ ks) = runs_of g h (run_of g h w k).words ks
