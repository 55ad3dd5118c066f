-- The set has the nodes of the chosen places passed.
use native.Mathlib.Omega.{arith}
use mathlib.Core.Path.{subst}
use Prim.Native.Nat.{◌<◌}
use lib.ListN.{length}
use Rattle.places.specs.Words.{places_of}
use Rattle.places.specs.Laws.{length_places}
use Rattle.places.proofs.Reading.{places_packed}
use Rattle.rules.proofs.CoverageLaws.{Imaged, imaged_none, imaged_more, imaged_skip, imaged_with}
use Rattle.rules.proofs.coverage.images.Goals as goal
use Rattle.rules.proofs.coverage.images.Goals.{then-has, else-has}

pub loop-i-init : goal.loop-i-init
loop-i-init c = imaged_none (places_of c.word_of-map.result) _ _

pub loop-i-preserved : goal.loop-i-preserved
loop-i-preserved c =
    let l = places_of c.word_of-map.result in
    let before = c.loop-i.invariant in
    let inside : c.loop-i.i < length
    l = omega (arith, length_places c.word_of-map.result) in
    elim c.if-has.branch [
      | then-has w ↦ imaged_with l _ _ _ _ _ _ _ inside c.has.ensures w.if-has.true w.node_at.ensures.0
          w.with-set.ensures w.set-is before
      | else-has w ↦ imaged_skip l _ _ _ _ w.set-is before
    ]

pub returns : goal.returns
returns c = subst (λ l. Imaged l c.args.chosen c.args.n
    c.loop-i.set) (places_packed c.word_of-map.ensures)
    (imaged_more (places_of c.word_of-map.result) _ _ _ _ c.loop-i.auto.i-end
    c.loop-i.invariant)
