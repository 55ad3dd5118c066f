-- Whether the inner nodes from x on are new, beside those met, is whether all are; and with them the mask has all.
use Rattle.replayer.proofs.RowPlaces.{rule_known}
use Rattle.replayer.proofs.InnerNodes.{taken_not, taken_with, added_lt, new_start, with_start, inner_there, new_all, with_all_lem, new_used, new_next, with_next}
use Rattle.replayer.proofs.fitting.with_inner.Goals as goal

pub external_mask-outer-requires : goal.external_mask-outer-requires
external_mask-outer-requires c = rule_known _ _ _ c.args.row.now.tables.fit c.args.row.now.sized

pub loop-x-init : goal.loop-x-init
loop-x-init c = (
  c.ranges.used.fits,
  new_start _ _ _ c.args.row.now.tables.fit c.args.row.now.sized _,
  with_start _ _ _ c.args.row.now.tables.fit c.args.row.now.sized _,
)

pub inner_node-v-requires : goal.inner_node-v-requires
inner_node-v-requires c = inner_there _ _ _ c.args.row.now.tables.fit c.args.row.now.sized _ c.rule_nodes-n.ensures
    _ c.loop-x-test.true

pub returns-then-has : goal.returns-then-has
returns-then-has c = taken_not _ _ (new_used _ _ _ c.args.row.now.tables.fit c.args.row.now.sized
    _ c.rule_nodes-n.ensures
    _ c.external_mask-outer.ensures _ _ c.loop-x-test.true
    c.inner_node-v.ensures _ _ _ c.loop-x.invariant.0 c.has.ensures
    c.if-has.true c.loop-x.invariant.1)

pub loop-x-preserved : goal.loop-x-preserved
loop-x-preserved c = (
  added_lt _ _ _ c.with-nodes.ensures c.loop-x.invariant.0,
  new_next _ _ _ c.args.row.now.tables.fit c.args.row.now.sized _ c.rule_nodes-n.ensures
      _ c.external_mask-outer.ensures _ _ c.loop-x-test.true
      c.inner_node-v.ensures _ _ _ _ c.has.ensures c.if-has.false
      c.with-nodes.ensures c.loop-x.invariant.1,
  with_next _ _ _ c.args.row.now.tables.fit c.args.row.now.sized
      _ c.rule_nodes-n.ensures _ c.external_mask-outer.ensures
      _ _ c.loop-x-test.true c.inner_node-v.ensures _ _ _ c.with-nodes.ensures
      c.loop-x.invariant.2,
)

pub returns : goal.returns
returns c = taken_with _ _ _ (new_all _ _ _ c.args.row.now.tables.fit c.args.row.now.sized _ c.rule_nodes-n.ensures
    _ _ _ c.loop-x-test.false c.loop-x.invariant.1)
    (with_all_lem _ _ _ c.args.row.now.tables.fit c.args.row.now.sized _ c.rule_nodes-n.ensures
    _ _ _ c.loop-x-test.false c.loop-x.invariant.2)
