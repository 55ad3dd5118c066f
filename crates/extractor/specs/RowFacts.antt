-- What the functions say of the rows of applications and of the sizes of the trees under them.
use Rattle.std.specs.Prelude.{◌≡◌, List, ◌++◌, ℕ, ◌+◌, ◌≤◌, ◌<◌, length, get_or, take, drop}
use Rattle.hrg.specs.Grammars.{Edge, Graph, Grammar}
use Rattle.format.specs.Writing.{line_text}
use Rattle.agenda.specs.declared.Record.{Record}
use Rattle.extraction.specs.Listing.{numbers_from, end_from, row_at, span_at}
use Rattle.extractor.specs.declared.rows.Row.{Row}

-- a size for each application: from none does it lead out of the list
pub record SizesFit (sizes : List ℕ) : Type 0 where
  pub each : (m : ℕ) → m < length sizes → m + get_or sizes m 0 < length sizes

-- the fields `now` have the numbers for the edges es from `at` on, where the application `from` is next; x is the
-- first that is not under them
pub record NumberedBy (G : Grammar) (bs : List ℕ) (sizes : List ℕ) (es : List Edge) (from : ℕ) (fields : List ℕ) (at : ℕ) (now : List ℕ) (x : ℕ) : Type 0 where
  pub numbers : take (at + length es) now ≡ take at fields ++ numbers_from G bs (λ m. get_or sizes m 0) es 0 from
  pub end : x ≡ end_from G (λ m. get_or sizes m 0) es from
  pub up : from ≤ x
  pub inside : x < length sizes

-- the fields `now` have the row of application n, made of the passive record at j, and x says how many they are and
-- the size of the tree under it
pub record RowOf (look : ℕ → Record) (G : Grammar) (H : Graph) (sizes : List ℕ) (n j : ℕ) (now : List ℕ) (x : Row) : Type 0 where
  pub few : x.count ≤ 18
  pub fields : take x.count now ≡ row_at look G H (λ m. get_or sizes m 0) n j
  pub span : x.size ≡ span_at look G (λ m. get_or sizes m 0) n j
  pub inside : n + x.size < length sizes

-- the line of a row stands in front of what stood from `at` on
pub record LineAt (row text : List ℕ) (at : ℕ) (now : List ℕ) (r : ℕ) : Type 0 where
  pub same : length now ≡ length text
  pub low : r ≤ at
  pub near : at ≤ r + 74
  pub contents : drop r now ≡ line_text 65 row ++ drop at text
