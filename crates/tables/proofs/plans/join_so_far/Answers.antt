-- The definition at kind 2.
use native.Mathlib.Omega.{arith}
use Rattle.std.proofs.lemmas.Grind.{common_steps}
use Rattle.tables.proofs.Planning.{join_ok}
use Rattle.tables.proofs.plans.join_so_far.Goals as goal

pub returns-then-one-eq1 : goal.returns-then-one-eq1
returns-then-one-eq1 c = grind (arith, common_steps, join_ok _ _ _ _ _ _ _ _ c.requires.1 c.child_times-one.ensures c.child_times-other.ensures)

pub returns-else-one-eq1 : goal.returns-else-one-eq1
returns-else-one-eq1 c = grind (arith, common_steps, join_ok _ _ _ _ _ _ _ _ c.requires.1 c.child_times-one.ensures c.child_times-other.ensures)
