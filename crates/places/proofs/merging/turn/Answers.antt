-- A byte at the top and seven below it have no bit in common.
use native.Mathlib.Omega.{arith}
use mathlib.Core.Path.{◌≡◌, ap₂, ◌∙◌}
use Prim.Native.Nat.{◌+◌, ◌*◌, ◌/◌, ◌%◌}
use lib.Bits.{bit_or, or_zero_l, or_zero_r}
use Rattle.std.proofs.lemmas.Nat.{or_block}
use Rattle.places.specs.Swar.{turn_of}
use Rattle.places.proofs.merging.turn.Goals as goal

pub returns : goal.returns
unfolding turn_of
returns c =
    let w = c.args.w in
    let low : w / 256 ≡ 0 * 72057594037927936 + w / 256 = omega arith in
    let high : w * 72057594037927936 % 18446744073709551616 ≡ w % 256 * 72057594037927936 + 0 = omega arith in
    c.rotate_right.ensures
    ∙ ap₂ bit_or low high
    ∙ or_block 56 0 (w % 256) (w / 256) 0 (omega (arith, c.ranges.w.fits)) (omega arith)
    ∙ ap₂ (λ a b. a * 72057594037927936 + b) (or_zero_l (w % 256)) (or_zero_r (w / 256))
