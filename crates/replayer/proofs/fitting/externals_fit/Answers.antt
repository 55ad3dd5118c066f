-- The external nodes that were passed lie on the listed nodes.
use native.Mathlib.Omega.{arith}
use Rattle.replayer.proofs.RowTests.{external_there, externals_no, externals_all}
use Rattle.replayer.proofs.fitting.externals_fit.Goals as goal

pub overflow_add-x : goal.overflow_add-x
overflow_add-x c = omega (
  arith,
  external_there _ _ _ c.args.row.now.tables.fit c.args.row.now.sized _ _ c.rule_symbol.ensures
      c.rank_at-rank.ensures.0 _ _ c.loop-k-test.true c.rule_external-x.ensures,
)

pub offset_bounds-row-x : goal.offset_bounds-row-x
offset_bounds-row-x c = omega (
  arith,
  external_there _ _ _ c.args.row.now.tables.fit c.args.row.now.sized _ _ c.rule_symbol.ensures
      c.rank_at-rank.ensures.0 _ _ c.loop-k-test.true c.rule_external-x.ensures,
)

pub bounds-row-x : goal.bounds-row-x
bounds-row-x c = omega (
  arith,
  external_there _ _ _ c.args.row.now.tables.fit c.args.row.now.sized _ _ c.rule_symbol.ensures
      c.rank_at-rank.ensures.0 _ _ c.loop-k-test.true c.rule_external-x.ensures,
)

pub returns-then-row-x : goal.returns-then-row-x
returns-then-row-x c = externals_no _ _ _ c.args.row.now.tables.fit c.args.row.now.sized _ _ c.rule_symbol.ensures
    c.rank_at-rank.ensures.0 _ (omega arith) _ _ c.loop-k-test.true
    c.rule_external-x.ensures c.if-row-x.true

pub returns : goal.returns
returns c = externals_all _ _ _ c.args.row.now.tables.fit c.args.row.now.sized _ _ c.rule_symbol.ensures
    c.rank_at-rank.ensures.0 _ (omega arith) _ c.loop-k-test.false c.loop-k.invariant
