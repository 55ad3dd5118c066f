use native.Mathlib.Omega.{arith}
use Rattle.records.specs.Words.{capacity}
use Rattle.records.proofs.place.Goals as goal

pub overflow_mul-result : goal.overflow_mul-result
unfolding capacity
overflow_mul-result c = omega arith

pub overflow_add-result : goal.overflow_add-result
unfolding capacity
overflow_add-result c = omega arith

pub returns : goal.returns
unfolding capacity
returns c = omega arith
