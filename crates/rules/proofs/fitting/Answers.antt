-- Each place passed leaves out only edges that make nothing.
use native.Mathlib.Omega.{arith}
use Prim.Native.Nat.{◌≤◌}
use mathlib.Core.Path.{refl, ap, ◌∙◌}
use lib.ListN.{get_or}
use Rattle.places.specs.Words.{places_of}
use Rattle.places.proofs.Reading.{places_packed}
use Rattle.questions.specs.Layout.{rank_at, edge_node}
use Rattle.joins.proofs.EdgeMaps.{edge_node_few}
use Rattle.rules.proofs.Inside.{edge_inside}
use Rattle.rules.proofs.CandidateLaws.{edge_known, place_known, fitted, fitted_next, candidates_fitted}
use Rattle.rules.proofs.fitting.Goals as goal

pub loop-k-init : goal.loop-k-init
unfolding fitted
loop-k-init c = refl

pub edge_node_in-y-requires : goal.edge_node_in-y-requires
edge_node_in-y-requires c =
    let eight = c.word_of-map.ensures.places.size in (
      edge_inside (edge_known _ _ _ _ _ c.requires.0 eight),
      omega (arith, c.rank_at-rank.ensures.1, c.loop-k-test.true),
    )

pub node_at-requires : goal.node_at-requires
node_at-requires c =
    let eight = c.word_of-map.ensures.places.size in
    let place = place_known _ _ _ _ _ c.requires.0 eight _ _ c.rank_at-rank.ensures.0
    c.loop-k-test.true in
    edge_node_few _ _ _ (edge_known _ _ _ _ _ c.requires.0 eight) _ _ place c.edge_node_in-y.ensures

pub loop-k-preserved : goal.loop-k-preserved
loop-k-preserved c =
    let image = c.node_at.ensures.0 ∙ ap (λ y. get_or (places_of c.word_of-map.result) y 0)
    c.edge_node_in-y.ensures in
    fitted_next _ _ _ _ _ _ _ c.loop-k.invariant image c.with_node-rest.ensures

pub returns : goal.returns
returns c =
    let args = c.args in
    let nodes = places_packed c.word_of-map.ensures in
    let passed : c.loop-k.k ≤ rank_at args.t.now.tables.grammar.words.now
    args.want = omega (arith, c.rank_at-rank.ensures.0) in
    let rest = c.loop-k.invariant ∙ ap (λ l. fitted args.t.now.graph.now
    (λ k. get_or l (edge_node args.t.now.tables.grammar.words.now args.x.of args.i k) 0) c.loop-k.k args.m) nodes in
    candidates_fitted _ _ _ _ _ c.requires.0 c.word_of-map.ensures.places.size _ c.args.t.now.graphed
    _ _ _ passed c.requires.1 rest
