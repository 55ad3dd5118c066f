-- The places passed have their numbers, those behind them 0.
use native.Mathlib.Omega.{arith}
use Rattle.filler.proofs.Eights.{numbers_of, fields_few, eight_none, place_filled, places_done}
use Rattle.filler.proofs.eight_from.Goals as goal

pub loop-i-init : goal.loop-i-init
loop-i-init c = eight_none (numbers_of c.args.line.now c.args.from c.args.count)

pub overflow_add-from : goal.overflow_add-from
overflow_add-from c = omega (arith, c.requires, fields_few c.args.line.now)

pub loop-i-preserved : goal.loop-i-preserved
loop-i-preserved c = place_filled _ _ _ c.requires _ _ _ c.loop-i.invariant (omega arith) (omega arith) c.number.ensures

pub returns : goal.returns
returns c = places_done _ _ _ c.requires _ _ c.loop-i.invariant (omega arith)
