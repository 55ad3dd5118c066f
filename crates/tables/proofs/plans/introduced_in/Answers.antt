-- By the kind: one edge or none.
use native.Mathlib.Omega.{arith}
use Rattle.tables.proofs.Planning.{hit_from, hit_few, introduced_one, introduced_none}
use Rattle.tables.proofs.plans.introduced_in.Goals as goal

pub returns-in-1 : goal.returns-in-1
returns-in-1 c = (introduced_one _ _ _ _ _ c.in-1.is (hit_from _ _ _ c.from.ensures), omega (arith, hit_few _ _ _ c.from.ensures))

pub returns-in_default : goal.returns-in_default
returns-in_default c = (introduced_none _ _ _ _ c.in_default.in_default-own.rest.1, omega arith)
