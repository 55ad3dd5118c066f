-- The sets with one child and one edge more (proofs/Carrying).
use native.Mathlib.Omega.{arith}
use Rattle.std.proofs.lemmas.Grind.{common_steps}
use Rattle.tables.specs.Plans.{introduce_fits}
use Rattle.tables.proofs.Carrying.{with_one}
use Rattle.tables.proofs.plans.with_introduce.Goals as goal

pub returns : goal.returns
unfolding introduce_fits
returns c = (grind (arith, common_steps), with_one _ _ _ _ _ _ c.with.ensures c.with-2.ensures)
