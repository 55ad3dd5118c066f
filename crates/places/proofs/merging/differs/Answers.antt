-- No byte of the sum overflows.
use lib.Bits.{bit_and, bit_xor}
use Rattle.places.specs.Swar.{differs_of, low_bits, high_bits}
use lib.Bits.{and_le_r}
use Prim.Native.Nat.{◌+◌}
use mathlib.Core.Path.{refl}
use Rattle.places.proofs.merging.differs.Goals as goal

pub returns : goal.returns
unfolding differs_of
returns c = (refl, and_le_r (bit_and (bit_xor c.args.a c.args.b) low_bits + low_bits) high_bits)
