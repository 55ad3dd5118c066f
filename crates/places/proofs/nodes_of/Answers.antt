-- The bytes are those of the definition, one by one.
use native.Mathlib.Omega.{arith}
use mathlib.Core.Path.{◌≡◌, ◌∙◌}
use mathlib.Core.List.{[], ◌∷◌}
use Prim.Native.Nat.{◌/◌, ◌%◌}
use Rattle.places.specs.Words.{places_of, bytes_and}
use Rattle.places.proofs.nodes_of.Goals as goal

pub returns : goal.returns
unfolding places_of bytes_and
returns c =
    let w = c.args.w in
    let small = c.ranges.w.fits in
    let w2 : w / 65536 ≡ w / 256 / 256 = omega arith in
    let w3 : w / 16777216 ≡ w / 256 / 256 / 256 = omega arith in
    let w4 : w / 4294967296 ≡ w / 256 / 256 / 256 / 256 = omega arith in
    let w5 : w / 1099511627776 ≡ w / 256 / 256 / 256 / 256 / 256 = omega arith in
    let w6 : w / 281474976710656 ≡ w / 256 / 256 / 256 / 256 / 256 / 256 = omega arith in
    let w7 : w / 72057594037927936 % 256 ≡ w / 256 / 256 / 256 / 256 / 256 / 256 / 256 = omega arith in
    c.to_le_bytes.ensures ∙ (λ i. w % 256 ∷ w / 256 % 256 ∷ w2 i % 256 ∷ w3 i % 256 ∷ w4 i % 256 ∷ w5 i % 256 ∷ w6 i % 256 ∷ w7 i ∷ [])
