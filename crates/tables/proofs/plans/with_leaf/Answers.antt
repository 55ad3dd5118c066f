-- A leaf has 0 and 0, and adds nothing (proofs/Carrying).
use native.Mathlib.Omega.{arith}
use Rattle.std.proofs.lemmas.Grind.{common_steps}
use Rattle.tables.proofs.Carrying.{with_none}
use Rattle.tables.proofs.plans.with_leaf.Goals as goal

pub returns-then-line-eq0-2 : goal.returns-then-line-eq0-2
returns-then-line-eq0-2 c = (grind (arith, common_steps), with_none _ _ _ _)
