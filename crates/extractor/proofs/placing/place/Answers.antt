-- The map so far is that of the edges passed.
use native.Mathlib.Omega.{arith}
use mathlib.Core.Path.{refl, sym}
use Rattle.joins.proofs.Known.{right_nodes, nodes_few}
use Rattle.extractor.proofs.RuleLookup.{known_by_edge, known_edge}
use Rattle.extractor.proofs.PlaceLaws.{placed_start, placed_bare, placed_more}
use Rattle.extractor.proofs.placing.place.Goals as goal

pub loop-i-init : goal.loop-i-init
loop-i-init c = placed_start _ _ _ _ _ _ refl

pub place_part-requires : goal.place_part-requires
place_part-requires c =
    let g = c.args.t.now.grammar.words.now in
    let checked = c.args.t.now.fit.grammar in
    let known = known_by_edge g c.args.r c.loop-i.i (omega (arith, c.loop-i-test.true, c.requires.0)) in (
      known_edge _ _ _ checked (omega (arith, c.loop-i-test.true, c.requires.0)),
      placed_bare _ _ _ _ _ _ _ _ (sym (right_nodes g c.args.r checked known)) c.loop-i.invariant,
    )

pub loop-i-preserved : goal.loop-i-preserved
loop-i-preserved c =
    let g = c.args.t.now.grammar.words.now in
    let checked = c.args.t.now.fit.grammar in
    let known = known_by_edge g c.args.r c.loop-i.i (omega (arith, c.loop-i-test.true, c.requires.0)) in
    placed_more _ _ _ _ _ _ _ _ _ (sym (right_nodes g c.args.r checked known))
    (nodes_few g c.args.r checked known) c.loop-i.invariant c.place_part.ensures
