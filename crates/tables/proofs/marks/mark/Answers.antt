-- The set with one number more.
use Rattle.tables.proofs.Covering.{marked_by_lem}
use Rattle.tables.proofs.marks.mark.Goals as goal

pub returns : goal.returns
returns c = marked_by_lem _ _ _ c.with.ensures
