-- A shifted 1 is the set of one number.
use lib.Bits.{bit_or}
use Rattle.masks.specs.Masks.{◌∪◌}
use Rattle.queues.specs.Queues.{with_bit}
use Rattle.queues.proofs.BitLaws.{shifted}
use mathlib.Core.Path.{refl, ap}
use lib.ListN.{get_or, set}
use Rattle.queues.proofs.raise.Goals as goal

pub returns : goal.returns
unfolding with_bit ◌∪◌
returns c = (
  ap (λ x. set c.args.ws.now c.args.i
      (bit_or (get_or c.args.ws.now c.args.i 0) x))
      (shifted c.args.k c.requires.2),
  refl,
)
