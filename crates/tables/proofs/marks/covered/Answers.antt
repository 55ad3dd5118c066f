-- A mask of the nodes has them all exactly where each is in the list (proofs/Covering).
use mathlib.Core.Path.{refl}
use Rattle.tables.proofs.Covering.{covered_by}
use Rattle.tables.proofs.marks.covered.Goals as goal

pub returns : goal.returns
returns c = covered_by _ _ _ _ _ _ _ refl c.mark_edges.ensures c.mark_fields.ensures c.has_all.ensures
