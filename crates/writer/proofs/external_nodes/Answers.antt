-- The places passed have the external nodes, the others none.
use native.Mathlib.Omega.{arith}
use Prim.Native.Nat.{◌<◌}
use mathlib.Core.Path.{ap, ◌∙◌}
use Rattle.questions.specs.Layout.{rank_at, start_symbol}
use Rattle.joins.proofs.MapLaws.{placed_bare}
use Rattle.writer.proofs.Goals.{external_few, externals_all}
use Rattle.writer.proofs.external_nodes.Goals as goal

pub loop-k-init : goal.loop-k-init
loop-k-init c = (
  c.rank_at-rank.ensures.0 ∙ ap (rank_at c.args.t.now.grammar.words.now)
      c.start_symbol.ensures,
  placed_bare _,
)

pub with_node-l-requires : goal.with_node-l-requires
with_node-l-requires c =
    let g = c.args.t.now.grammar.words.now in
    let inside : c.loop-k.k < rank_at g (start_symbol g) = omega (
      arith,
      c.loop-k.invariant.0,
      c.loop-k-test.true,
    ) in (
      omega (arith, c.rank_at-rank.ensures.1, c.loop-k-test.true),
      omega (arith, external_few _ _ _ _ c.args.t.now.fit inside c.graph_external.ensures),
    )

pub returns : goal.returns
returns c =
    let inv = c.loop-k.invariant in
    c.nodes_of.ensures ∙ externals_all _ _ _ _ (omega arith) (omega (arith, inv.0, c.loop-k-test.false)) inv.1
