-- The sets with two children more (proofs/Carrying).
use native.Mathlib.Omega.{arith}
use Rattle.std.proofs.lemmas.Grind.{common_steps}
use Rattle.tables.specs.Plans.{join_fits}
use Rattle.tables.proofs.Covering.{marked_by_lem}
use Rattle.tables.proofs.Carrying.{with_two}
use Rattle.tables.proofs.plans.with_join.Goals as goal

pub returns : goal.returns
unfolding join_fits
returns c = (
  grind (arith, common_steps, marked_by_lem _ _ _ c.with-more.ensures),
  with_two _ _ _ _ _ _ c.with-more.ensures c.with.ensures,
)
