-- The run part of demand 3 on a chart's records: what holds after a start and any list of runs.
use Rattle.std.specs.Prelude.{◌≡◌, true, ◌↔◌, List, ℕ, ◌≤◌, ◌<◌, min, length}
use Rattle.hrg.specs.Grammars.{Graph, Grammar}
use Rattle.hrg.specs.Items.{Item, LeafRule, UnaryRule, BinaryRule, closure}
use Rattle.hrg.specs.Truth.{Truth, Fewest}
use Rattle.hrg.specs.ReplacementTruth.{FewestSteps}
use Rattle.hrg.specs.Agenda.{Closure}
use Rattle.agenda.specs.Records.{item_of, is_handled}
use Rattle.agenda.specs.Consequences.{record_in}
use Rattle.agenda.specs.Steps.{handled_count}
use Rattle.agenda.specs.declared.Record.{Record}

-- Item i is that of a record, and of a handled one.
pub record Present (G : Grammar) (rs : List Record) (i : Item) : Type 0 where
  pub at : ℕ
  pub known : at < length rs
  pub item : item_of G (record_in rs at).item ≡ i

pub record Handled (G : Grammar) (rs : List Record) (i : Item) : Type 0 where
  pub at : ℕ
  pub known : at < length rs
  pub handled : is_handled (record_in rs at) ≡ true
  pub item : item_of G (record_in rs at).item ≡ i

-- One rule of the closure makes i from handled items.
pub data OneRule (G : Grammar) (H : Graph) (rs : List Record) (i : Item) : Type 0 where
  by_leaf : LeafRule G i → OneRule G H rs i
  by_one : {a : Item} {k : ℕ} → Handled G rs a → UnaryRule G H a k i → OneRule G H rs i
  by_two : {a b : Item} → Handled G rs a → Handled G rs b → BinaryRule G H a b i → OneRule G H rs i

-- After a start and runs that were given k steps in all, where the chart was not found too small.
pub record ChartCorrect (G : Grammar) (H : Graph) (k : ℕ) (rs : List Record) : Type 0 where
  -- every handled item is true by trees and by replacement, and its count is the fewest
  pub fewest : (j : ℕ) → j < length rs → is_handled (record_in rs j) ≡ true → Fewest G H (item_of G (record_in rs j).item) (record_in rs j).item.count
  pub replaced : (j : ℕ) → j < length rs → is_handled (record_in rs j) ≡ true → FewestSteps G H (item_of G (record_in rs j).item) (record_in rs j).item.count
  -- no unhandled item of the closure has a smaller count
  pub order : (j : ℕ) → j < length rs → is_handled (record_in rs j) ≡ true → (i : Item) (n : ℕ) → Truth G H i n → (Handled G rs i → ⊥) → (record_in rs j).item.count ≤ n
  -- no two records are of the same item, and the handled ones number the steps done
  pub distinct : (j k : ℕ) → j < length rs → k < length rs → item_of G (record_in rs j).item ≡ item_of G (record_in rs k).item → j ≡ k
  pub steps : (is : List Item) → Closure (closure G H) is → handled_count rs ≡ min k (length is)
  -- the items present are just those that one rule makes from handled ones
  pub present : (i : Item) → Present G rs i ↔ OneRule G H rs i
