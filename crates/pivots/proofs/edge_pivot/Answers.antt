-- Any position of the edge whose node is open will do.
use native.Mathlib.Omega.{arith}
use Rattle.pivots.proofs.TableLaws.{node_few, edge_pivot}
use Rattle.pivots.proofs.edge_pivot.Goals as goal

pub overflow_add-result : goal.overflow_add-result
overflow_add-result c = omega (
  arith,
  c.rank_at-rank.ensures.1,
  c.loop-k-test.true,
  node_few _ _ _ c.requires.1 _ _ c.edge_label.ensures
      c.rank_at-rank.ensures.0 _ _ c.loop-k-test.true
      c.edge_node-v.ensures,
)

pub returns-then-has : goal.returns-then-has
returns-then-has c = edge_pivot _ _ _ c.requires.1 _ _ c.edge_label.ensures c.rank_at-rank.ensures.0
    _ _ c.open_at-nodes.ensures _ _ _ c.loop-k-test.true
    c.edge_node-v.ensures c.has.ensures.value c.if-has.true
