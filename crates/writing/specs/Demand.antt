-- Demand 3 over any list of calls: a start that passes question 8, then runs of whatever steps and writings, refused
-- ones included, each on the chart as the last call left it. Trees are defined without items or plans.
use Rattle.std.specs.Prelude.{◌≡◌, ◌↔◌, true, false, List, [], ◌∷◌, ◌++◌, ℕ, ◌+◌, ◌≤◌, ◌<◌, min, length, take, drop, Ok, Err}
use Rattle.hrg.specs.Grammars.{Graph, Grammar}
use Rattle.hrg.specs.Trees.{Tree, applications, Generates}
use Rattle.hrg.specs.Items.{Item, closure}
use Rattle.hrg.specs.Agenda.{Closure}
use Rattle.agenda.specs.Records.{is_handled}
use Rattle.agenda.specs.Consequences.{record_in}
use Rattle.agenda.specs.Steps.{handled_count}
use Rattle.agenda.specs.RunFacts.{ChartCorrect}
use Rattle.agenda.specs.declared.Record.{Record}
use Rattle.questions.specs.Abstract.{grammar_of, graph_of}
use Rattle.records.specs.Words.{chart_of}
use Rattle.charting.specs.Calls.{fit, start_of, run_of}
use Rattle.preorder.specs.Rows.{size}
use Rattle.derivation.specs.Derivations.{derivation_text, replay_text, DerivationOf}
use Rattle.writing.specs.Writing.{Wrote, refused, write_of, Answer}
use Rattle.writing.specs.Filling.{records_of, records_text, Filled, unfilled, fill_of}
use Rattle.writing.specs.declared.Application.{Application}
use Rattle.writing.specs.declared.WriteError.TheVariants.{TooSmall, Unfinished, Underivable, NoRoom}

-- a run of so many steps, or a writing: as text with an output of these bytes, or as records with a row of these
pub data Call : Type 0 where
  run : (steps : ℕ) → Call
  write : (out : List ℕ) → Call
  fill : (former : List Application) → Call

-- the words of the chart after a list of calls; a writing only reads them
unfoldable pub after_calls : List ℕ → List ℕ → List ℕ → List Call → List ℕ
unfolding run_of
after_calls g h w [] = w
after_calls g h w (run k ∷ cs) = after_calls g h (run_of g h w k).words cs
after_calls g h w (write out ∷ cs) = after_calls g h w cs
after_calls g h w (fill former ∷ cs) = after_calls g h w cs

-- the steps that the runs were given in all
unfoldable pub steps_given : List Call → ℕ
steps_given [] = 0
steps_given (run k ∷ cs) = k + steps_given cs
steps_given (write out ∷ cs) = steps_given cs
steps_given (fill former ∷ cs) = steps_given cs

-- the closure has n items
pub record ClosureSize (G : Grammar) (H : Graph) (n : ℕ) : Type 0 where
  pub items : List Item
  pub closed : Closure (closure G H) items
  pub number : length items ≡ n

-- nothing is left to handle
abbrev pub AllHandled : List Record → Type 0
AllHandled rs = (j : ℕ) → j < length rs → is_handled (record_in rs j) ≡ true

-- an item is left
pub record SomeLeft (rs : List Record) : Type 0 where
  pub at : ℕ
  pub known : at < length rs
  pub waits : is_handled (record_in rs at) ≡ false

-- a tree that generates the graph, and no other has fewer applications
pub record FewestTree (G : Grammar) (H : Graph) (t : Tree) : Type 0 where
  pub generates : Generates G H t
  pub least : (u : Tree) → Generates G H u → applications G t ≤ applications G u

-- A writing writes the tree's text where the output holds it, and says 12 where not.
pub record WritesTree (t : Tree) (out : List ℕ) (wrote : Wrote) : Type 0 where
  pub held : length (derivation_text t) ≤ length out
      → wrote ≡ record { answer = Ok (length (derivation_text t)); out = derivation_text t ++ drop (length (derivation_text t)) out }
  pub short : length out < length (derivation_text t) → wrote ≡ refused (Err NoRoom) out

-- The same as records: they are the tree's where the row holds them, and it says 12 where not.
pub record FillsTree (t : Tree) (former : List Application) (filled : Filled) : Type 0 where
  pub held : size t ≤ length former → filled ≡ record { answer = Ok (size t); rows = records_of t ++ drop (size t) former }
  pub short : length former < size t → filled ≡ unfilled (Err NoRoom) former

-- The records are those of a tree that generates the graph, and turned into text they are its text, which replays.
pub record RecordsOf (G : Grammar) (H : Graph) (xs : List Application) : Type 0 where
  pub derivation : Tree
  pub generates : Generates G H derivation
  pub small : size derivation ≤ 4096
  pub listed : xs ≡ records_of derivation
  pub text : records_text xs ≡ derivation_text derivation
  pub replays : replay_text G H (records_text xs) ≡ true

-- After the calls: v are the chart's words, which hold cap items, and the runs were given k steps in all.
pub record CallsRight (g h : List ℕ) (cap k : ℕ) (v : List ℕ) : Type 0 where
  pub size : ℕ
  pub sized : ClosureSize (grammar_of g) (graph_of g h) size
  -- 'unless the chart cannot hold the closure and was found too small': it is found so only if it cannot hold it
  pub small : ((chart_of v).mark ≡ 0 → ⊥) → cap < size
  -- 'every handled item is true by replacement, its count is the fewest of all derivation trees that make it true, no
  -- unhandled item of the closure has a smaller one; the handled items, no two the same, number the steps done, ..;
  -- and the items present are just those that one rule of the closure makes from handled ones'
  pub right : (chart_of v).mark ≡ 0 → ChartCorrect (grammar_of g) (graph_of g h) k (chart_of v).records
  -- 'the steps the runs were given in all or the closure's size, whichever is less'
  pub steps : (chart_of v).mark ≡ 0 → handled_count (chart_of v).records ≡ min k size
  -- 'With nothing left and the chart not found too small, the steps equal the closure's size'
  pub done : (chart_of v).mark ≡ 0 → AllHandled (chart_of v).records → handled_count (chart_of v).records ≡ size
  -- 'and a writing refuses the graph as underivable exactly when no derivation tree generates it'
  pub underivable : (chart_of v).mark ≡ 0 → AllHandled (chart_of v).records → (out : List ℕ)
      → (write_of g h v out ≡ refused (Err Underivable) out) ↔ ((t : Tree) → Generates (grammar_of g) (graph_of g h) t → ⊥)
  pub underivable_row : (chart_of v).mark ≡ 0 → AllHandled (chart_of v).records → (former : List Application)
      → (fill_of g h v former ≡ unfilled (Err Underivable) former) ↔ ((t : Tree) → Generates (grammar_of g) (graph_of g h) t → ⊥)
  -- 'and else writes one with the fewest applications, in document 01's derivation lines or records, if the output
  -- holds it'; which one does not hang on the output, and is the same for both
  pub writes : (chart_of v).mark ≡ 0 → AllHandled (chart_of v).records → (u : Tree) → Generates (grammar_of g) (graph_of g h) u
      → (t : Tree) × FewestTree (grammar_of g) (graph_of g h) t × ((out : List ℕ) → WritesTree t out (write_of g h v out)) × ((former : List Application) → FillsTree t former (fill_of g h v former))
  -- before that, a writing says 9 or 10
  pub nine : ((chart_of v).mark ≡ 0 → ⊥) → (out : List ℕ) → write_of g h v out ≡ refused (Err TooSmall) out
  pub nine_row : ((chart_of v).mark ≡ 0 → ⊥) → (former : List Application) → fill_of g h v former ≡ unfilled (Err TooSmall) former
  pub ten : (chart_of v).mark ≡ 0 → SomeLeft (chart_of v).records → (out : List ℕ) → write_of g h v out ≡ refused (Err (Unfinished (handled_count (chart_of v).records))) out
  pub ten_row : (chart_of v).mark ≡ 0 → SomeLeft (chart_of v).records → (former : List Application) → fill_of g h v former ≡ unfilled (Err (Unfinished (handled_count (chart_of v).records))) former

-- A writing on the words w that answered a and left `now` in the output: what holds of the derivation that it chose.
pub record WriteChoices (g h w out : List ℕ) (a : Answer) (now : List ℕ) : Type 0 where
  -- whatever the chart: what is written is the text of a tree that generates the graph, and what lies behind it stays
  pub derivation : (n : ℕ) → a ≡ Ok n → DerivationOf (grammar_of g) (graph_of g h) (take n now)
  pub behind : (n : ℕ) → a ≡ Ok n → (n ≤ length out) × (drop n now ≡ drop n out)
  -- untouched since a start: it has the fewest applications
  pub fewest : (former : List ℕ) (cs : List Call) → fit g h former ≡ true → w ≡ after_calls g h (start_of g h former).words cs → (n : ℕ) → a ≡ Ok n
      → (t : Tree) × FewestTree (grammar_of g) (graph_of g h) t × (take n now ≡ derivation_text t)

-- A filling on the words w that answered a and left `now` in the row: what holds of the derivation that it chose.
pub record FillChoices (g h w : List ℕ) (former : List Application) (a : Answer) (now : List Application) : Type 0 where
  -- whatever the chart: the records are those of a tree that generates the graph, and turned into text they are its
  -- text; those behind them stay
  pub derivation : (n : ℕ) → a ≡ Ok n → RecordsOf (grammar_of g) (graph_of g h) (take n now)
  pub behind : (n : ℕ) → a ≡ Ok n → (n ≤ length former) × (drop n now ≡ drop n former)
  -- untouched since a start: it has the fewest applications
  pub fewest : (beginning : List ℕ) (cs : List Call) → fit g h beginning ≡ true → w ≡ after_calls g h (start_of g h beginning).words cs → (n : ℕ) → a ≡ Ok n
      → (t : Tree) × FewestTree (grammar_of g) (graph_of g h) t × (take n now ≡ records_of t)
