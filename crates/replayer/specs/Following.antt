-- What the functions promise: a replay with masks for the lists of used numbers, and with places in the text for the
-- rows.
use Rattle.std.specs.Prelude.{◌≡◌, Bool, true, false, cond, Option, Some, None, List, [], ℕ, ◌+◌, ◌-◌, ◌*◌, ◌^◌, ◌≤◌, ◌<◌, length, get_or, drop, ltb}
use Rattle.masks.specs.Masks.{member}
use Rattle.format.specs.Lines.{lines_of}
use Rattle.scripts.specs.Scripts.{Script, bad, rows, rows_from, rows_in}
use Rattle.hrg.specs.Counts.{occurs}
use Rattle.hrg.specs.Grammars.{Kind, terminal, nonterminal, Graph, Grammar, kind_of, right_of, edge_at}
use Rattle.preorder.specs.Replay.{State, reached, failed, rule_in, place_in, fields_in, replay_at, replay_edges}
use Rattle.replayer.specs.declared.Part.{Part}
use Rattle.replayer.specs.declared.Progress.{Progress as Kept}
use Rattle.replayer.specs.declared.Part.TheVariants.{End, GraphEdge, Application}

-- ---- rows and places
-- the rows of a script, none where it is bad
abbrev pub rows_of_script : Script → List (List ℕ)
rows_of_script bad = []
rows_of_script (rows rs) = rs

unfoldable pub text_rows : List ℕ → List (List ℕ)
unfolding rows_in
text_rows text = rows_of_script (rows_in text)

-- From the place on, the text has the lines of the rows from number n on, and nothing behind them.
pub record RowsAt (text : List ℕ) (n place : ℕ) : Type 0 where
  pub rest : rows_from (length (text_rows text) - n) (lines_of (drop place text)) ≡ rows (drop n (text_rows text))

-- ---- how far a replay came
-- whether it passes so far, the number of the next row, the place of its line, and the graph edges and graph nodes used
pub record Progress : Type 0 where
  pub ok : Bool
  pub next : ℕ
  pub at : ℕ
  pub edges : ℕ
  pub nodes : ℕ

-- what an answer and the progress kept say
abbrev pub progress_in : Bool → Kept → Progress
progress_in b st = record { ok = b; next = st.next; at = st.at; edges = st.edges; nodes = st.nodes }

-- what the progress at the end says, where there is one
abbrev pub progress_of : Option Kept → Progress
progress_of (Some st) = progress_in true st
progress_of None = record { ok = false; next = 0; at = 0; edges = 0; nodes = 0 }

-- ---- masks
-- The mask has just the numbers of the list as members, and all are below n.
pub record Marks (n m : ℕ) (l : List ℕ) : Type 0 where
  pub members : (v : ℕ) → member m v ≡ ltb 0 (occurs v l)
  pub below : m < 2 ^ n

-- The replay came to row n with these graph edges and graph nodes used.
pub record Reaches (H : Graph) (p : Progress) (n : ℕ) (es vs : List ℕ) : Type 0 where
  pub passing : p.ok ≡ true
  pub row : p.next ≡ n
  pub used_edges : Marks (length H.edges) p.edges es
  pub used_nodes : Marks H.nodes p.nodes vs

abbrev pub Stands : Graph → Progress → State → Type 0
Stands H p (reached n es vs) = Reaches H p n es vs
Stands H p failed = p.ok ≡ false

-- ---- what is left
-- The applications left, from row n on, where each counts ten: it has at most eight edges.
abbrev pub left_at : List ℕ → ℕ → ℕ
left_at text n = 10 * (length (text_rows text) - n)

-- The edges left of the row's rule, from edge i on, and their end, with the applications left.
abbrev pub left_from : Grammar → List ℕ → List ℕ → ℕ → ℕ → ℕ
left_from G text row i n = left_at text n + (length (right_of G (rule_in row)).edges - i) + 1

-- From p, the replay of the next row for an edge s on the nodes L came to q; the definition says so with as many calls
-- as are left, or more.
pub record Applied (G : Grammar) (H : Graph) (text : List ℕ) (s : ℕ) (L : List ℕ) (p q : Progress) : Type 0 where
  pub onward : q.ok ≡ true → RowsAt text q.next q.at
  pub further : q.ok ≡ true → p.next ≤ q.next
  pub stands : (calls : ℕ) → left_at text p.next ≤ calls → (es vs : List ℕ) → Reaches H p p.next es vs
      → Stands H q (replay_at calls G H (text_rows text) s L (reached p.next es vs))

-- From p, the replay of the edges from i on of the row's rule came to q; the definition says so with as many calls as
-- are left, or more.
pub record Followed (G : Grammar) (H : Graph) (text row : List ℕ) (i : ℕ) (p q : Progress) : Type 0 where
  pub onward : q.ok ≡ true → RowsAt text q.next q.at
  pub further : q.ok ≡ true → p.next ≤ q.next
  pub stands : (calls : ℕ) → left_from G text row i p.next ≤ calls → (es vs : List ℕ) → Reaches H p p.next es vs
      → Stands H q
      (replay_edges calls G H (text_rows text) (place_in (right_of G (rule_in row)) row)
      (drop i (right_of G (rule_in row)).edges) (drop i (fields_in (right_of G (rule_in row)) row)) (reached p.next es vs))

-- ---- the parts of a row
-- the row names a rule, and has the fields that this needs
pub record RuledRow (G : Grammar) (row : List ℕ) : Type 0 where
  pub known : rule_in row < length G.rules
  pub sized : length row ≡ 2 + ((right_of G (rule_in row)).nodes + length (right_of G (rule_in row)).edges)

-- by its edge's kind, a field is a graph edge or the number of an application
abbrev pub part_by : Kind → ℕ → ℕ → Part
part_by terminal s f = GraphEdge f
part_by nonterminal s f = Application s f

-- what the row says of edge i of its rule
unfoldable pub part_of : Grammar → List ℕ → ℕ → Part
part_of G row i =
    let P = right_of G (rule_in row) in
    let s = (edge_at P.edges i).label in
    cond (ltb i (length P.edges)) (part_by (kind_of G s) s (get_or (fields_in P row) i 0)) End
