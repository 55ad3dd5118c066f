-- Which answers fill records: only an `Ok`.
use Rattle.std.specs.Prelude.{Ok, Err}
use Rattle.std.specs.Result.{result_unwrap_or}
use mathlib.Core.Path.{◌≡◌, refl}
use mathlib.Core.Logic.{◌≢◌}
use native.Mathlib.Omega.{arith}
use Rattle.writing.specs.Writing.{number_of, Answer}
use Rattle.writing.specs.declared.WriteError.{WriteError}
use Rattle.writing.specs.declared.WriteError.TheVariants.{Unfit, TooSmall, Unfinished, Underivable, NoRoom}
use Rattle.filler.specs.Rows.{count_in}

-- a refusal fills nothing
pub refused_none : (a : Answer) → number_of a ≢ 0 → count_in a ≡ 0
refused_none (Ok n) k = absurd (k refl)
refused_none (Err e) k = refl

pub filled_count : (a : Answer) → result_unwrap_or a 0 ≡ count_in a
filled_count (Ok n) = refl
filled_count (Err e) = refl

-- every error is a refusal
pub error_some : (e : WriteError) → number_of (Err e) ≢ 0
error_some Unfit z = omega (arith, z)
error_some TooSmall z = omega (arith, z)
error_some (Unfinished k) z = omega (arith, z)
error_some Underivable z = omega (arith, z)
error_some NoRoom z = omega (arith, z)
