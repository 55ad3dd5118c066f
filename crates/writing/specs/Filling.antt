-- A lent row of application records instead of the text (01, 'Derivation file'): the records of a tree, and what
-- `fill` answers and leaves, for every input.
use Rattle.std.specs.Prelude.{Option, Some, None, cond, List, [], ◌∷◌, ◌++◌, map, ℕ, ◌+◌, length, take, drop, get_or, replicate, leb, Ok, Err}
use Rattle.hrg.specs.Grammars.{Graph, Grammar, right_of}
use Rattle.hrg.specs.Trees.{Tree, Parts, apply, end, edge, tree}
use Rattle.agenda.specs.declared.Record.{Record}
use Rattle.questions.specs.Abstract.{grammar_of, graph_of}
use Rattle.records.specs.Words.{record_at, chart_of}
use Rattle.charting.specs.Calls.{standing_of, Outcome}
use Rattle.charting.specs.declared.Unready.TheVariants.{Unfit as UnfitChart, TooSmall as TooSmallChart, Unfinished as UnfinishedChart}
use Rattle.scripts.specs.Scripts.{Script, bad, rows, rows_text, rows_in}
use Rattle.preorder.specs.Rows.{size, part_numbers}
use Rattle.derivation.specs.Derivations.{derivation_text}
use Rattle.extraction.specs.Extraction.{Spelt, nothing, spelt, tree_at}
use Rattle.writing.specs.Writing.{Wrote, refused, write_text, derives, goal_in, Answer}
use Rattle.writing.specs.declared.WriteError.TheVariants.{Unfit, TooSmall, Unfinished, Underivable, NoRoom}
use Rattle.writing.specs.declared.Application.{Application}

-- ---- the records of a tree
-- eight places: the numbers, then 0
unfoldable pub eight : List ℕ → List ℕ
eight l = take 8 (l ++ replicate 8 0)

-- An application: its rule, the graph node of each rule node, and for each rule edge the graph edge, or the number of
-- the application that replaces it.
unfoldable pub application_of : ℕ → List ℕ → List ℕ → Application
unfolding eight
application_of r place numbers = record { rule = r; node_count = length place; part_count = length numbers; nodes = eight place; parts = eight numbers }

-- Numbered from the top, as the rows of the text are: an application's number is its place in the row.
unfoldable mutual
  unfolding size part_numbers application_of

  pub tree_records : ℕ → Tree → List Application
  tree_records n (apply r place ps) = application_of r place (part_numbers (n + 1) ps) ∷ part_records (n + 1) ps

  pub part_records : ℕ → Parts → List Application
  part_records n end = []
  part_records n (edge g ps) = part_records n ps
  part_records n (tree t ps) = tree_records n t ++ part_records (n + size t) ps

unfoldable pub records_of : Tree → List Application
unfolding tree_records
records_of t = tree_records 0 t

-- ---- records as a derivation file
-- the fields of the line of application n
unfoldable pub row_of : ℕ → Application → List ℕ
row_of n a = n ∷ a.rule ∷ (take a.node_count a.nodes ++ take a.part_count a.parts)

unfoldable pub rows_for : ℕ → List Application → List (List ℕ)
unfolding row_of
rows_for n [] = []
rows_for n (a ∷ xs) = row_of n a ∷ rows_for (n + 1) xs

unfoldable pub records_text : List Application → List ℕ
unfolding rows_for rows_text
records_text xs = rows_text (rows_for 0 xs)

-- ---- a derivation file as records
-- the record of a row: the nodes are as many as those of the rule, the rest are the parts
unfoldable pub application_in : Grammar → List ℕ → Application
unfolding application_of
application_in G row =
    let r = get_or row 1 0 in
    let k = (right_of G r).nodes in
    application_of r (take k (drop 2 row)) (drop k (drop 2 row))

abbrev pub records_by : Grammar → Script → List Application
records_by G bad = []
records_by G (rows rs) = map (application_in G) rs

unfoldable pub records_in : Grammar → List ℕ → List Application
unfolding rows_in application_in
records_in G text = records_by G (rows_in text)

-- ---- the derivation that a chart leads to, whatever is lent for it: 8 to 11, or its text
pub data Choice : Type 0 where
  refuses : Answer → Choice
  chooses : List ℕ → Choice

abbrev pub chosen_spelt : Grammar → Graph → Spelt → Choice
chosen_spelt G H nothing = refuses (Err Unfit)
chosen_spelt G H (spelt t) = cond (derives G H t) (chooses (derivation_text t)) (refuses (Err Unfit))

abbrev pub chosen_goal : Grammar → Graph → (ℕ → Record) → Option ℕ → Choice
chosen_goal G H look None = refuses (Err Underivable)
chosen_goal G H look (Some j) = chosen_spelt G H (tree_at look G H 4096 j)

abbrev pub chosen_by : Outcome → Choice → Choice
chosen_by (Err UnfitChart) c = refuses (Err Unfit)
chosen_by (Err TooSmallChart) c = refuses (Err TooSmall)
chosen_by (Err (UnfinishedChart k)) c = refuses (Err (Unfinished k))
chosen_by (Ok k) c = c

unfoldable pub chosen_of : List ℕ → List ℕ → List ℕ → Choice
unfolding standing_of goal_in tree_at
chosen_of g h w =
    let G = grammar_of g in
    let H = graph_of g h in
    chosen_by (standing_of g h w) (chosen_goal G H (λ j. record_at w j) (goal_in G H (chart_of w).records))

-- the writer writes it if the output holds it
abbrev pub write_by : Choice → List ℕ → Wrote
write_by (refuses a) out = refused a out
write_by (chooses text) out = write_text text out

-- ---- fill
-- an answer, and the row after it; `Ok` says how many records are filled
pub record Filled : Type 0 where
  pub answer : Answer
  pub rows : List Application

-- a refusal changes no record
abbrev pub unfilled : Answer → List Application → Filled
unfilled a former = record { answer = a; rows = former }

-- 'Does the lent output hold the derivation?' Records past the last one stay.
unfoldable pub fill_records : List Application → List Application → Filled
fill_records xs former =
    cond (leb (length xs) (length former)) (record { answer = Ok (length xs); rows = xs ++ drop (length xs) former }) (unfilled (Err NoRoom) former)

abbrev pub fill_by : Grammar → Choice → List Application → Filled
fill_by G (refuses a) former = unfilled a former
fill_by G (chooses text) former = fill_records (records_in G text) former

unfoldable pub fill_of : List ℕ → List ℕ → List ℕ → List Application → Filled
unfolding chosen_of fill_records records_in
fill_of g h w former = fill_by (grammar_of g) (chosen_of g h w) former
