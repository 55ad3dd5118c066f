-- The fields that say what edge and part are.
use native.Mathlib.Omega.{arith}
use Rattle.replayer.proofs.RowParts.{part_end, part_there, part_edge, part_row}
use Rattle.replayer.proofs.part_at.Goals as goal

pub returns-then-rule_edges-i : goal.returns-then-rule_edges-i
returns-then-rule_edges-i c = part_end _ _ c.args.grammar.now.fit
    c.requires _ _ c.rule_edges.ensures c.if-rule_edges-i.true

pub overflow_add-at : goal.overflow_add-at
overflow_add-at c = omega (
  arith,
  (part_there _ _ c.args.grammar.now.fit c.requires _ _ c.rule_edges.ensures
      c.if-rule_edges-i.false _ c.rule_nodes.ensures).0,
)

pub overflow_add-at-2 : goal.overflow_add-at-2
overflow_add-at-2 c = omega (
  arith,
  part_there _ _ c.args.grammar.now.fit c.requires _ _ c.rule_edges.ensures
      c.if-rule_edges-i.false _ c.rule_nodes.ensures,
)

pub offset_bounds-row-at : goal.offset_bounds-row-at
offset_bounds-row-at c = omega (
  arith,
  part_there _ _ c.args.grammar.now.fit c.requires _ _ c.rule_edges.ensures
      c.if-rule_edges-i.false _ c.rule_nodes.ensures,
)

pub bounds-row-at : goal.bounds-row-at
bounds-row-at c = omega (
  arith,
  part_there _ _ c.args.grammar.now.fit c.requires _ _ c.rule_edges.ensures
      c.if-rule_edges-i.false _ c.rule_nodes.ensures,
)

pub returns-then-kind_of-eq0 : goal.returns-then-kind_of-eq0
returns-then-kind_of-eq0 c = part_edge _ _ c.args.grammar.now.fit c.requires _ _ c.rule_edges.ensures
    c.if-rule_edges-i.false
    _ c.rule_nodes.ensures _ c.edge_label-s.ensures
    _ c.kind_of.ensures c.if-kind_of-eq0.true

pub returns-else-kind_of-eq0 : goal.returns-else-kind_of-eq0
returns-else-kind_of-eq0 c = part_row _ _ c.args.grammar.now.fit c.requires _ _ c.rule_edges.ensures
    c.if-rule_edges-i.false
    _ c.rule_nodes.ensures _ c.edge_label-s.ensures
    _ c.kind_of.ensures c.if-kind_of-eq0.false
