-- The plan node above each, what it makes of an item there, and the rule nodes that are open there, in a table of two
-- halves.
use Rattle.std.specs.Prelude.{◌≡◌, Some, None, Bool, true, false, cond, List, [], ℕ, ◌+◌, ◌*◌, ◌%◌, ◌≤◌, ◌<◌, get_or, eqb}
use Rattle.hrg.specs.Counts.{occurs}
use Rattle.hrg.specs.Grammars.{Graph, plan_of, plan_node}
use Rattle.hrg.specs.WellFormed.{children}
use Rattle.hrg.specs.ClosureRun.{binary_of}
use Rattle.agenda.specs.Records.{item_of}
use Rattle.agenda.specs.declared.ChartItem.{ChartItem}
use Rattle.questions.specs.Layout.{plan_kind, plan_first, plan_second, edge_label}
use Rattle.questions.specs.Abstract.{grammar_of}
use Rattle.joins.specs.Joins.{KnownNode, OpenAt, nodes_word}
use Rattle.rules.specs.declared.plans.Parent.{Parent}
use Rattle.rules.specs.Rules.{Above}

-- words of the table: one for each plan node of each rule, in two halves
abbrev pub plan_table_words : ℕ
plan_table_words = 2048

-- ---- a plan node as one number
-- the label of edge i of rule r, and its nodes
unfoldable pub edge_word : List ℕ → ℕ → ℕ → ℕ
edge_word g r i = edge_label g r i + 64 * nodes_word g r i

-- what plan node q asks for beside an item at its first child: the edge that it introduces, or an item at its second
-- child
unfoldable pub second_word : List ℕ → ℕ → ℕ → ℕ
unfolding edge_word
second_word g r q = cond (eqb (plan_kind g r q) 1) (1 + 4 * edge_word g r (plan_second g r q)) (2 + 4 * plan_second g r q)

-- the number of q for an item at its child p, and what q asks for beside it
unfoldable pub join_word : List ℕ → ℕ → ℕ → ℕ → ℕ
unfolding second_word
join_word g r p q = q + 32 * cond (eqb (plan_first g r q) p) (second_word g r q) (3 + 4 * plan_first g r q)

-- the word w is that of plan node w % 32 for its child p
pub record JoinAt (g : List ℕ) (r p w : ℕ) : Type 0 where
  pub child : 0 < occurs p (children (plan_node (plan_of (grammar_of g) r) (w % 32)))
  pub word : w ≡ join_word g r p (w % 32)

-- ---- the plan node above each
-- x is the word of the one plan node of rule r that p may be a child of, and the open rule nodes there; that node's
-- number is 16 or more where there is none
pub record ParentAt (g : List ℕ) (r p : ℕ) (x : Parent) : Type 0 where
  pub above : x.word % 32 < 16 → Above g r p (Some (x.word % 32))
  pub nowhere : 16 ≤ x.word % 32 → Above g r p None
  pub opened : x.word % 32 < 16 → OpenAt g r (x.word % 32) x.stays
  pub join : x.word % 32 < 16 → JoinAt g r p x.word

-- w and o are the words of a table for plan node p of rule r: 0 for w where there is none above it, and those of the
-- one above it elsewhere
pub record WordsAt (g : List ℕ) (r p w o : ℕ) : Type 0 where
  pub none : w ≡ 0 → ParentAt g r p (record { word = 16; stays = 0 })
  pub some : (w ≡ 0 → ⊥) → ParentAt g r p (record { word = w; stays = o })

-- place 16 * r + p of each half has the words for plan node p of rule r
abbrev pub PlacedAt : List ℕ → List ℕ → ℕ → ℕ → Type 0
PlacedAt g t r p = WordsAt g r p (get_or t (16 * r + p) 0) (get_or t (1024 + (16 * r + p)) 0)

-- t is the table of g, with words of 32 bits
pub record PlanTable (g t : List ℕ) : Type 0 where
  pub each : (r p : ℕ) → r < 64 → p < 16 → PlacedAt g t r p
  pub small : (k : ℕ) → get_or t k 0 < 4294967296

-- w tells what plan node q of rule r, which is no leaf, asks for beside an item at its first child
pub record Asks (g : List ℕ) (r q w : ℕ) : Type 0 where
  pub node : KnownNode g r q
  pub inner : plan_kind g r q ≡ 0 → ⊥
  pub word : w ≡ second_word g r q

-- where two items make something in some graph, x is only the first of them or only the second
pub record Leads (g : List ℕ) (x : ChartItem) (first : Bool) : Type 0 where
  pub not : first ≡ false → (H : Graph) (y : ChartItem) → binary_of (grammar_of g) H (item_of (grammar_of g) x) (item_of (grammar_of g) y) ≡ []
  pub yes : first ≡ true → (H : Graph) (y : ChartItem) → binary_of (grammar_of g) H (item_of (grammar_of g) y) (item_of (grammar_of g) x) ≡ []
