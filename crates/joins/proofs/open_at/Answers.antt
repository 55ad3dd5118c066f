-- The masks of both sides and of the external nodes make the boundary of what lies below.
use native.Mathlib.Omega.{arith}
use Rattle.joins.proofs.Known.{rule_few, edges_few}
use Rattle.joins.proofs.Touching.{sides_at, open_rule}
use Rattle.joins.proofs.open_at.Goals as goal

pub edges_from-requires : goal.edges_from-requires
edges_from-requires c = let pre = c.requires in omega (arith, rule_few _ _ pre.0.grammar pre.0.rule)

pub nodes_by-s-requires : goal.nodes_by-s-requires
nodes_by-s-requires c =
    let pre = c.requires in (
      omega (arith, rule_few _ _ pre.0.grammar pre.0.rule),
      omega (arith, c.rule_edges.ensures, edges_few _ _ pre.0.grammar pre.0.rule),
    )

pub rule_externals-requires : goal.rule_externals-requires
rule_externals-requires c =
    let pre = c.requires in
    omega (arith, rule_few _ _ pre.0.grammar pre.0.rule)

pub returns : goal.returns
returns c =
    let pre = c.requires in
    open_rule _ _ _ _ _ _ _ _ pre.0 c.rule_edges.ensures pre.1
    (sides_at _ _ _ _ _ _ _ c.edges_from.ensures c.nodes_by-s.ensures)
    c.rule_externals.ensures c.boundary.ensures
