-- The records so far, and where the next line begins.
use Rattle.std.proofs.Common.{◌≡◌, take}
use Rattle.filler.specs.Rows.{offset_of, filled_from}
use Rattle.filler.proofs.fill_row.Given as goal

abbrev pub invariant-loop-row : goal.invariant-loop-row
invariant-loop-row l = (l.at ≡ offset_of l.text l.row-index) × (l.row-items ≡ filled_from l.grammar l.text l.row-index (take l.n l.fn.rows))
