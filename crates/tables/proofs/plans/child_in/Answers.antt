-- By the kind: one child, two, or none.
use native.Mathlib.Omega.{arith}
use Rattle.tables.proofs.Planning.{hit_from, hit_few, children_one, children_two, children_none}
use Rattle.tables.proofs.plans.child_in.Goals as goal

pub returns-in-1 : goal.returns-in-1
returns-in-1 c = (children_one _ _ _ _ _ c.in-1.is (hit_from _ _ _ c.from.ensures), omega (arith, hit_few _ _ _ c.from.ensures))

pub returns-in-2 : goal.returns-in-2
returns-in-2 c = (
  children_two _ _ _ _ _ _ c.in-2.is (hit_from _ _ _ c.from-in-2.ensures) (hit_from _ _ _ c.from-in-2-2.ensures),
  omega (arith, hit_few _ _ _ c.from-in-2.ensures, hit_few _ _ _ c.from-in-2-2.ensures),
)

pub returns-in_default : goal.returns-in_default
returns-in_default c = (children_none _ _ _ _ c.in_default.in_default-own.rest.0.1 c.in_default.in_default-own.rest.1, omega arith)
