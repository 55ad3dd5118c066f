-- A number from 64 on is no member of a u64; below that, a shift and a mask are the bit.
use native.Mathlib.Omega.{arith}
use mathlib.Core.Path.{sym}
use lib.Bits.{and_mask}
use Rattle.masks.specs.Masks.{bit, member}
use Rattle.masks.proofs.Laws.{lt_bits, false_member}
use Rattle.masks.proofs.has.Goals as goal

pub returns-then-e-ge64 : goal.returns-then-e-ge64
returns-then-e-ge64 c =
    let m = c.args.m in
    let e = c.args.e in
    record { value = sym (false_member m e (lt_bits 64 m e (omega arith) (omega arith))) }

pub returns : goal.returns
unfolding bit member
returns c = record { value = rw (and_mask _ 1) }
