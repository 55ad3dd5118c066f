-- A line stored where the table has its place.
use Rattle.std.specs.Prelude.{cond, List, ℕ}
use Rattle.questions.specs.declared.Due.{Due}
use Rattle.questions.specs.Layout.{place_of, in_table, stored}

-- the table with these fields at the line's place; unchanged where no largest table has the line, or t is too short
-- for it
unfoldable pub store_at : List ℕ → Due → List ℕ → List ℕ
store_at t due fs = cond (in_table due) (stored t (place_of due) fs) t
