-- What question 7's functions promise one another.
use Rattle.std.specs.Prelude.{◌≡◌, Bool, true, false, not, ◌&&◌, List, ℕ, ◌+◌, ◌≤◌, length, ltb, leb, Option, MatchOption}
use Rattle.masks.specs.Masks.{member}
use Rattle.questions.specs.Layout.{grammar_words, plan_kind, plan_first, plan_second}
use Rattle.questions.specs.Questions.{children_of, introduced_by, children_before, introduced_before, plan_so_far}
use Rattle.tables.specs.Marks.{marked, marks}
use Rattle.tables.specs.declared.plans.Named.{Named}
use Rattle.tables.specs.declared.plans.Named.TheVariants.{Child, Edge}
use Rattle.tables.specs.declared.plans.PlanMarks.{PlanMarks}
use Rattle.hrg.specs.Counts.{occurs}

-- a table as long as the largest, a rule of it, and q plan lines
pub record PlanRoom (g : List ℕ) (r q : ℕ) : Type 0 where
  pub long : grammar_words ≤ length g
  pub rule : r ≤ 63
  pub lines : q ≤ 16

-- how often a plan line of these fields names a child, or an edge that it introduces
abbrev pub named_in : ℕ → ℕ → ℕ → Named → ℕ
named_in kind first second (Child c) = occurs c (children_of kind first second)
named_in kind first second (Edge i) = occurs i (introduced_by kind first second)

-- how often the first n plan lines of rule r do
abbrev pub named_before : List ℕ → ℕ → ℕ → Named → ℕ
named_before g r n (Child c) = occurs c (children_before g r n)
named_before g r n (Edge i) = occurs i (introduced_before g r n)

-- the sets of the children and of the introduced edges of the first n plan lines
pub record Marked (g : List ℕ) (r n children introduced : ℕ) : Type 0 where
  pub below : children ≡ marks 0 (children_before g r n)
  pub edges : introduced ≡ marks 0 (introduced_before g r n)

-- ---- a line judged by the sets of the lines before it
-- one over the child `first` that introduces the edge `second`
unfoldable pub introduce_fits : ℕ → ℕ → ℕ → ℕ → ℕ → ℕ → Bool
introduce_fits q edges children introduced first second = (ltb first q && not (member children first)) && (ltb second edges && not (member introduced second))

-- one over two children
unfoldable pub join_fits : ℕ → ℕ → ℕ → ℕ → Bool
join_fits q children first second = (ltb first q && not (member children first)) && (ltb second q && not (member (marked children first) second))

-- the sets with a line of these fields
pub record With (kind first second children introduced more also : ℕ) : Type 0 where
  pub below : more ≡ marks children (children_of kind first second)
  pub edges : also ≡ marks introduced (introduced_by kind first second)

-- these sets are found where the line fits
abbrev pub Takes : Bool → ℕ → ℕ → ℕ → PlanMarks → Option PlanMarks → Type 0
Takes fits kind first second named found =
    MatchOption found (fits ≡ false) (λ m. (fits ≡ true) × With kind first second named.children named.introduced m.children m.introduced)

-- line q, as it stands in the table, is of a known kind and keeps the plan so far
unfoldable pub line_kept : List ℕ → ℕ → ℕ → Bool
line_kept g r q = leb (plan_kind g r q) 2 && plan_so_far g r q (plan_kind g r q) (plan_first g r q) (plan_second g r q)

-- it does, and the sets are those with this line
pub record Kept (g : List ℕ) (r q children introduced : ℕ) : Type 0 where
  pub so : line_kept g r q ≡ true
  pub sets : Marked g r (q + 1) children introduced

-- they are found where it does
abbrev pub Keeps : List ℕ → ℕ → ℕ → Option PlanMarks → Type 0
Keeps g r q found = MatchOption found (line_kept g r q ≡ false) (λ m. Kept g r q m.children m.introduced)
