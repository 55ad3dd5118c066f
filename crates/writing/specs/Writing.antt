-- What the writer answers and leaves in the lent output, for every input (01, questions 8 to 12 and 'Besides 8 ..').
-- The chart is lent to be read only.
use Rattle.std.specs.Prelude.{Option, Some, None, Bool, cond, ◌&&◌, List, ◌++◌, ℕ, zero, suc, length, drop, leb, Result, Ok, Err}
use Rattle.hrg.specs.Grammars.{Graph, Grammar}
use Rattle.hrg.specs.Trees.{Tree}
use Rattle.hrg.specs.Items.{Item, goal}
use Rattle.hrg.specs.ClosureRun.{same_item}
use Rattle.agenda.specs.Records.{item_of}
use Rattle.agenda.specs.Consequences.{record_in}
use Rattle.agenda.specs.declared.Record.{Record}
use Rattle.questions.specs.Abstract.{grammar_of, graph_of}
use Rattle.records.specs.Words.{record_at, chart_of}
use Rattle.charting.specs.Calls.{standing_of, Outcome}
use Rattle.charting.specs.declared.Unready.{Unready}
use Rattle.charting.specs.declared.Unready.TheVariants.{Unfit as UnfitChart, TooSmall as TooSmallChart, Unfinished as UnfinishedChart}
use Rattle.preorder.specs.Rows.{size}
use Rattle.derivation.specs.Derivations.{derivation_text, replay_text}
use Rattle.extraction.specs.Extraction.{Spelt, nothing, spelt, tree_at}
use Rattle.writing.specs.declared.WriteError.{WriteError}
use Rattle.writing.specs.declared.WriteError.TheVariants.{Unfit, TooSmall, Unfinished, Underivable, NoRoom}

-- what the writer answers: so many bytes or records are written, or why none are
abbrev pub Answer : Type 0
Answer = Result ℕ WriteError

-- 01's number of each answer, 0 where a derivation is written
abbrev pub number_of : Answer → ℕ
number_of (Err Unfit) = 8
number_of (Err TooSmall) = 9
number_of (Err (Unfinished k)) = 10
number_of (Err Underivable) = 11
number_of (Err NoRoom) = 12
number_of (Ok n) = 0

-- an answer, and the bytes of the output after it
pub record Wrote : Type 0 where
  pub answer : Answer
  pub out : List ℕ

-- a refusal changes nothing
abbrev pub refused : Answer → List ℕ → Wrote
refused a out = record { answer = a; out = out }

-- 'Does the lent output hold the derivation?' What lies behind the text stays.
unfoldable pub write_text : List ℕ → List ℕ → Wrote
write_text text out =
    cond (leb (length text) (length out)) (record { answer = Ok (length text); out = text ++ drop (length text) out }) (refused (Err NoRoom) out)

-- The tree has at most 4,096 applications, and its text is that of a derivation of the graph.
unfoldable pub derives : Grammar → Graph → Tree → Bool
unfolding size derivation_text replay_text
derives G H t = leb (size t) 4096 && replay_text G H (derivation_text t)

-- 'says 8 after 11 where a touched chart leads it to no derivation of the graph'
abbrev pub write_spelt : Grammar → Graph → List ℕ → Spelt → Wrote
write_spelt G H out nothing = refused (Err Unfit) out
write_spelt G H out (spelt t) = cond (derives G H t) (write_text (derivation_text t) out) (refused (Err Unfit) out)

-- the last of the first n records that is of item i
unfoldable pub last_of : Grammar → Item → List Record → ℕ → Option ℕ
unfolding same_item item_of
last_of G i rs zero = None
last_of G i rs (suc n) = cond (same_item (item_of G (record_in rs n).item) i) (Some n) (last_of G i rs n)

-- the goal among the records, as an item: the last one
unfoldable pub goal_in : Grammar → Graph → List Record → Option ℕ
unfolding last_of
goal_in G H rs = last_of G (goal G H) rs (length rs)

-- 'Is the goal in the closure?', by what stands in the chart; then the derivation that the goal's partners spell,
-- whatever the output's length
abbrev pub write_goal : Grammar → Graph → (ℕ → Record) → List ℕ → Option ℕ → Wrote
write_goal G H look out None = refused (Err Underivable) out
write_goal G H look out (Some j) = write_spelt G H out (tree_at look G H 4096 j)

-- 8, 9 and 10 as a run of no steps
abbrev pub error_of : Unready → WriteError
error_of UnfitChart = Unfit
error_of TooSmallChart = TooSmall
error_of (UnfinishedChart k) = Unfinished k

abbrev pub write_by : Outcome → List ℕ → Wrote → Wrote
write_by (Err UnfitChart) out wrote = refused (Err Unfit) out
write_by (Err TooSmallChart) out wrote = refused (Err TooSmall) out
write_by (Err (UnfinishedChart k)) out wrote = refused (Err (Unfinished k)) out
write_by (Ok k) out wrote = wrote

unfoldable pub write_of : List ℕ → List ℕ → List ℕ → List ℕ → Wrote
unfolding standing_of goal_in tree_at
write_of g h w out =
    let G = grammar_of g in
    let H = graph_of g h in
    write_by (standing_of g h w) out (write_goal G H (λ j. record_at w j) out (goal_in G H (chart_of w).records))
