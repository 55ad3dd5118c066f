-- A graph edge is as good as a passive item of its own symbol, set and nodes.
use native.Mathlib.Omega.{arith}
use Rattle.joins.proofs.GraphLaws.{label_few}
use Rattle.rules.proofs.RuleAnswers.{edge_stands}
use Rattle.rules.proofs.edge_item.Goals as goal

pub overflow_cast-result : goal.overflow_cast-result
overflow_cast-result c = omega (
  arith,
  label_few _ _ c.args.t.now.fit
      _ c.requires _ c.graph_label-of.ensures,
)

pub returns : goal.returns
returns c = edge_stands _ _ _ c.args.t.now.fit
    c.requires _ c.with.ensures
    _ _ c.graph_label-of.ensures c.edge_nodes.ensures
