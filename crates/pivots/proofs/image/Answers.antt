-- A law for each test.
use native.Mathlib.Omega.{arith}
use mathlib.Core.Path.{ap, ◌∙◌}
use Prim.Native.Nat.{◌%◌}
use lib.ListN.{get_or}
use Rattle.places.proofs.Reading.{places_packed}
use Rattle.pivots.proofs.Answers.{image_no, image_read}
use Rattle.pivots.proofs.image.Goals as goal

pub returns-then-v-ge8 : goal.returns-then-v-ge8
returns-then-v-ge8 c = image_no _ _ c.if-v-ge8.true

pub returns : goal.returns
returns c =
    let packed = c.word_of.ensures in
    c.node_at.ensures.0 ∙ ap (λ l. get_or l (c.args.w % 16) 0)
    (places_packed packed) ∙ image_read _ _ (omega (arith, c.if-v-ge8.false))
    packed.places.size
