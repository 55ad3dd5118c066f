-- The digits so far are those of the nodes passed.
use native.Mathlib.Omega.{arith}
use mathlib.Core.Path.{ap, ◌∙◌}
use Rattle.questions.specs.Layout.{rank_at}
use Rattle.joins.proofs.Known.{edge_there}
use Rattle.joins.proofs.EdgeMaps.{edge_label_few, edge_node_few, digits_few, digits_none, digits_next, digits_all}
use Rattle.joins.proofs.nodes_word.Goals as goal

pub edge_label_in-requires : goal.edge_label_in-requires
edge_label_in-requires c = edge_there _ _ _ c.requires

pub rank_of-rank-requires : goal.rank_of-rank-requires
rank_of-rank-requires c =
    let pre = c.requires in
    (pre.grammar, omega (arith, c.edge_label_in.ensures, edge_label_few _ _ _ pre))

pub loop-k-init : goal.loop-k-init
loop-k-init c = (
  c.rank_of-rank.ensures.0 ∙ ap (rank_at _) c.edge_label_in.ensures,
  digits_none _ _ _ c.requires,
)

pub overflow_mul-w : goal.overflow_mul-w
overflow_mul-w c =
    let loop = c.loop-k in omega (
      arith,
      loop.invariant.1,
      digits_few _ _ _ c.requires loop.k (omega (arith, loop.invariant.0)),
    )

pub edge_node_in-requires : goal.edge_node_in-requires
edge_node_in-requires c = (
  edge_there _ _ _ c.requires,
  omega (arith, c.rank_of-rank.ensures.1),
)

pub overflow_add-w : goal.overflow_add-w
overflow_add-w c =
    let loop = c.loop-k in
    let pre = c.requires in
    omega (
      arith,
      loop.invariant.1,
      digits_few _ _ _ pre loop.k (omega (arith, loop.invariant.0)),
      edge_node_few _ _ _ pre _ _ (omega (arith, loop.invariant.0, c.loop-k-test.true))
          c.edge_node_in.ensures,
    )

pub loop-k-preserved : goal.loop-k-preserved
loop-k-preserved c =
    let loop = c.loop-k in
    (loop.invariant.0, digits_next _ _ _ c.requires _ _ _ loop.invariant.1 c.edge_node_in.ensures)

pub overflow_mul-result : goal.overflow_mul-result
overflow_mul-result c =
    let loop = c.loop-k in omega (
      arith,
      loop.invariant.1,
      digits_few _ _ _ c.requires loop.k (omega (arith, loop.invariant.0)),
    )

pub overflow_add-result : goal.overflow_add-result
overflow_add-result c =
    let loop = c.loop-k in omega (
      arith,
      c.rank_of-rank.ensures.1,
      loop.invariant.1,
      digits_few _ _ _ c.requires loop.k (omega (arith, loop.invariant.0)),
    )

pub returns : goal.returns
returns c =
    let loop = c.loop-k in digits_all _ _ _ c.requires
    _ _ _ loop.auto.k-end loop.invariant.0 c.loop-k-test.false loop.invariant.1
