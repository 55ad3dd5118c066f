-- What the functions of a step know of the tables, of what was worked out from them, and of a chart's words and their
-- index.
use Rattle.std.specs.Prelude.{Option, IfSome, IfNone, List, Bool, true, ◌≡◌, ℕ, ◌≤◌, ◌<◌}
use Rattle.hrg.specs.Items.{Item}
use Rattle.agenda.specs.declared.ChartItem.{ChartItem}
use Rattle.agenda.specs.Records.{is_handled, new_record}
use Rattle.questions.specs.Abstract.{grammar_of, graph_of}
use Rattle.joins.specs.Joins.{Accepted}
use Rattle.rules.specs.Rules.{Gives}
use Rattle.rules.specs.Plans.{Leads}
use Rattle.keys.specs.Keys.{KeyTable}
use Rattle.records.specs.Words.{Fits, capacity, item_count, record_at, chart_of}
use Rattle.index.specs.Index.{Indexed, Covered, Adds}
use Rattle.validity.specs.Checking.{known_chart}

-- accepted tables, and the keys of their items
pub record Tables (g h keys : List ℕ) : Type 0 where
  pub accepted : Accepted g h
  pub keyed : KeyTable g keys

-- words of a chart that passes question 8, and the index of its records with their lists ls, which tells whether they
-- cover their open nodes
pub record Ready (g h keys w ix ls : List ℕ) : Type 0 where
  pub fits : Fits w
  pub small : capacity w ≤ 4096
  pub known : known_chart (grammar_of g) (graph_of g h) w ≡ true
  pub indexed : Indexed keys ix ls (chart_of w).records
  pub covered : Covered g h ix (chart_of w).records

-- what a run starts from beside its tables: words of a chart that passes question 8
pub record Runnable (g h w : List ℕ) : Type 0 where
  pub fits : Fits w
  pub small : capacity w ≤ 4096
  pub known : known_chart (grammar_of g) (graph_of g h) w ≡ true

-- the record at place j is handled, so that it stays as it is while others are added
pub record Handled (w : List ℕ) (j : ℕ) : Type 0 where
  pub there : j < item_count w
  pub done : is_handled (record_at w j) ≡ true

-- it is to be joined with others, and comes first where it leads
pub record Joining (g h keys w ix ls : List ℕ) (lead : Bool) (j : ℕ) : Type 0 where
  pub tables : Tables g h keys
  pub ready : Ready g h keys w ix ls
  pub handled : Handled w j
  pub leads : Leads g (record_at w j).item lead

-- ---- what is made
-- of a list of at most one item, which a rule gives with the count n: the record of it, made of the partners a and b,
-- was added to the words w, or there is no item and all is as it was
pub record Joined (g h : List ℕ) (sure : Bool) (l : List Item) (n a b : ℕ) (keys w ix ls v jx ms : List ℕ) : Type 0 where
  pub made : Option ChartItem
  pub gives : Gives g h sure l n made
  pub missed : IfNone made ((v ≡ w) × (jx ≡ ix) × (ms ≡ ls))
  pub added : IfSome made (λ x. Adds keys w ix v jx ms (new_record x a b))
