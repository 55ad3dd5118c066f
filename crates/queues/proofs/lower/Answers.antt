-- A shifted 1 is the set of one number, and all bits but it are kept.
use lib.Bits.{bit_and}
use lib.Seq.{get_or-set_same}
use Rattle.queues.specs.Queues.{without_bit}
use Rattle.queues.proofs.BitLaws.{shifted}
use native.Mathlib.Omega.{arith}
use Prim.Native.Nat.{◌-◌}
use mathlib.Core.Path.{sym, ap}
use lib.ListN.{get_or, set}
use Rattle.queues.proofs.lower.Goals as goal

pub returns : goal.returns
unfolding without_bit
returns c = (
  ap (λ x. set c.args.ws.now c.args.i
      (bit_and (get_or c.args.ws.now c.args.i 0) (4294967295 - x)))
      (shifted c.args.k c.requires.2),
  sym (get_or-set_same c.args.ws.now c.args.i _ 0
      (omega (arith, c.requires.0, c.requires.1))),
)
