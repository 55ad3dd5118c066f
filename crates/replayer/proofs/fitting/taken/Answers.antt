-- The tests in their order, by a law each.
use Rattle.replayer.proofs.RowTests.{row_head, row_ruled, row_few, row_places, row_sized, row_externals, row_inner}
use Rattle.replayer.proofs.fitting.taken.Goals as goal

pub returns-then-not-head_passes : goal.returns-then-not-head_passes
returns-then-not-head_passes c = row_head _ _ _ _ _ c.args.used
    c.args.listed.now c.args.t.now.fit
    _ c.head_passes.ensures c.if-not-head_passes.true

pub bounds-row-1 : goal.bounds-row-1
bounds-row-1 c = row_ruled _ _ _ _ _ c.args.used c.args.listed.now c.args.t.now.fit
    _ c.head_passes.ensures c.if-not-head_passes.false

pub places_known-requires : goal.places_known-requires
places_known-requires c = row_few _ _ _ _ _ c.args.used c.args.listed.now c.args.t.now.fit
    _ c.head_passes.ensures c.if-not-head_passes.false
    _ c.rule_nodes-count.ensures

pub returns-then-not-places_known : goal.returns-then-not-places_known
returns-then-not-places_known c = row_places _ _ _ _ _ c.args.used c.args.listed.now c.args.t.now.fit
    _ c.head_passes.ensures c.if-not-head_passes.false
    _ c.rule_nodes-count.ensures _ c.graph_nodes.ensures
    _ c.places_known.ensures c.if-not-places_known.true

pub invariant_of-row : goal.invariant_of-row
invariant_of-row c = record {
  sized = row_sized _ _ _ _ _ c.args.used c.args.listed.now c.args.t.now.fit
      _ c.head_passes.ensures c.if-not-head_passes.false
      _ c.rule_nodes-count.ensures _ c.graph_nodes.ensures
      _ c.places_known.ensures c.if-not-places_known.false;
}

pub returns-then-not-externals_fit : goal.returns-then-not-externals_fit
returns-then-not-externals_fit c = row_externals _ _ _ _ _ c.args.used c.args.listed.now c.args.t.now.fit
    _ c.head_passes.ensures c.if-not-head_passes.false
    _ c.rule_nodes-count.ensures _ c.graph_nodes.ensures
    _ c.places_known.ensures c.if-not-places_known.false
    _ c.externals_fit.ensures c.if-not-externals_fit.true

pub returns : goal.returns
returns c = row_inner _ _ _ _ _ c.args.used c.args.listed.now c.args.t.now.fit
    _ c.head_passes.ensures c.if-not-head_passes.false
    _ c.rule_nodes-count.ensures _ c.graph_nodes.ensures
    _ c.places_known.ensures c.if-not-places_known.false
    _ c.externals_fit.ensures c.if-not-externals_fit.false
    _ c.with_inner.ensures
