-- The tests in their order, by a law each.
use native.Mathlib.Omega.{arith}
use Rattle.replayer.proofs.RowTests.{head_short, head_number, head_rule, head_symbol, head_small, head_fields}
use Rattle.replayer.proofs.fitting.head_passes.Goals as goal

pub returns-then-row-lt2 : goal.returns-then-row-lt2
returns-then-row-lt2 c = head_short _ _ _ _ c.args.grammar.now.fit c.if-row-lt2.true

pub returns-then-row-n : goal.returns-then-row-n
returns-then-row-n c = head_number _ _ _ _ c.args.grammar.now.fit c.if-row-n.true

pub returns-then-rule_count-r : goal.returns-then-rule_count-r
returns-then-rule_count-r c = head_rule _ _ _ _ c.args.grammar.now.fit c.if-row-n.false
    _ c.rule_count.ensures c.if-rule_count-r.true

pub returns-then-rule_symbol-s : goal.returns-then-rule_symbol-s
returns-then-rule_symbol-s c = head_symbol _ _ _ _ c.args.grammar.now.fit c.if-row-n.false _ c.rule_count.ensures
    c.if-rule_count-r.false _ c.rule_symbol.ensures c.if-rule_symbol-s.true

pub overflow_add-result : goal.overflow_add-result
overflow_add-result c = omega (
  arith,
  head_small _ c.args.row.now c.args.n c.args.s c.args.grammar.now.fit
      c.if-row-n.false _ c.rule_count.ensures c.if-rule_count-r.false
      _ c.rule_symbol.ensures _ _ c.rule_nodes-nodes.ensures c.rule_edges-edges.ensures,
)

pub overflow_add-result-2 : goal.overflow_add-result-2
overflow_add-result-2 c = omega (
  arith,
  head_small _ c.args.row.now c.args.n c.args.s c.args.grammar.now.fit
      c.if-row-n.false _ c.rule_count.ensures c.if-rule_count-r.false
      _ c.rule_symbol.ensures _ _ c.rule_nodes-nodes.ensures c.rule_edges-edges.ensures,
)

pub returns : goal.returns
returns c = head_fields _ _ _ _ c.args.grammar.now.fit c.if-row-n.false _ c.rule_count.ensures
    c.if-rule_count-r.false _ c.rule_symbol.ensures _ _ c.rule_nodes-nodes.ensures
    c.rule_edges-edges.ensures c.if-rule_symbol-s.false
