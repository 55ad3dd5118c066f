-- The places passed have the images of the external nodes, the others none.
use native.Mathlib.Omega.{arith}
use Prim.Native.Nat.{◌+◌, ◌≤◌, ◌<◌}
use mathlib.Core.Path.{sym, ap, subst, ◌∙◌}
use lib.ListN.{take}
use Rattle.hrg.specs.Trees.{at}
use Rattle.places.specs.Words.{places_of}
use Rattle.places.specs.Laws.{length_places}
use Rattle.places.proofs.Reading.{places_packed}
use Rattle.questions.specs.Layout.{rank_at, rule_symbol, rule_nodes, rule_external}
use Rattle.joins.proofs.MapLaws.{Placed, placed_bare}
use Rattle.rules.specs.Rules.{root_list}
use Rattle.rules.proofs.NodeLists.{external_few, image_next, image_all}
use Rattle.rules.proofs.root_nodes.Goals as goal

pub loop-k-init : goal.loop-k-init
loop-k-init c = (
  c.rank_at-rank.ensures.0 ∙ ap (rank_at c.args.g.now.words.now)
      c.rule_symbol.ensures,
  placed_bare _,
)

pub node_at-requires : goal.node_at-requires
node_at-requires c =
    let inside : c.loop-k.k < rank_at c.args.g.now.words.now
    (rule_symbol c.args.g.now.words.now c.args.r) = omega arith in
    external_few _ _ c.args.g.now.fit c.requires _ _ inside c.rule_external-x.ensures

pub loop-k-preserved : goal.loop-k-preserved
loop-k-preserved c =
    let g = c.args.g.now.words.now in
    let r = c.args.r in
    let f = places_of c.word_of-map.result in
    let inside : c.loop-k.k < rank_at g (rule_symbol g r) = omega arith in
    let few : rank_at g (rule_symbol g r) ≤ 4 = omega (arith, c.rank_at-rank.ensures.1) in (
      c.loop-k.invariant.0,
      subst (λ l. Placed (λ k. at (take (rule_nodes g r) f) (rule_external g r k)) (c.loop-k.k + 1) l)
          (sym c.with_node-l.ensures)
          (image_next _ _ c.args.g.now.fit c.requires f (length_places _) _ _ _ _ inside few
          c.node_at.ensures.0 c.rule_external-x.ensures c.loop-k.invariant.1),
    )

pub returns : goal.returns
returns c = c.nodes_of.ensures
    ∙ image_all _ _ c.args.g.now.fit c.requires _ (length_places c.word_of-map.result)
    _ _ (omega (arith, c.loop-k.invariant.0)) (omega (arith, c.loop-k.invariant.0, c.loop-k-test.false))
    c.loop-k.invariant.1
    ∙ ap (root_list c.args.g.now.words.now c.args.r) (places_packed c.word_of-map.ensures)
