-- The label is below 64, and the word of the nodes is small.
use native.Mathlib.Omega.{arith}
use Rattle.rules.proofs.Inside.{edge_inside}
use Rattle.rules.proofs.PlanLaws.{edge_told}
use Rattle.rules.proofs.plans.edge_word.Goals as goal

pub edge_label_in-requires : goal.edge_label_in-requires
edge_label_in-requires c = edge_inside c.requires

pub overflow_mul-result : goal.overflow_mul-result
overflow_mul-result c = omega (
  arith,
  (edge_told _ _ _ c.requires _ _ c.edge_label_in.ensures
      c.nodes_word.ensures).1,
)

pub overflow_add-result : goal.overflow_add-result
overflow_add-result c = omega (
  arith,
  (edge_told _ _ _ c.requires _ _ c.edge_label_in.ensures
      c.nodes_word.ensures).1,
)

pub returns : goal.returns
returns c = edge_told _ _ _ c.requires _ _ c.edge_label_in.ensures
    c.nodes_word.ensures
