-- From the last node on: the nodes passed are not open at both.
use Rattle.pivots.proofs.TableLaws.{search_start, search_hit, search_miss, search_end}
use Rattle.pivots.proofs.shared_node.Goals as goal

pub loop-v-init : goal.loop-v-init
loop-v-init c = search_start _ _ _ _ _ _ c.requires.0
    c.open_at-here.ensures c.open_at-there.ensures _ c.rule_nodes-v.ensures

pub returns-then-has : goal.returns-then-has
returns-then-has c = search_hit _ _ _ _ _ _ c.requires.0 c.open_at-here.ensures c.open_at-there.ensures
    _ c.loop-v.invariant c.loop-v-test.true _ _ c.has.ensures.value
    c.has-in-loop-v.ensures.value c.if-has.true

pub loop-v-preserved : goal.loop-v-preserved
loop-v-preserved c = search_miss _ _ _ _ _ _ c.requires.0 c.open_at-here.ensures c.open_at-there.ensures
    _ c.loop-v.invariant c.loop-v-test.true _ _ c.has.ensures.value
    c.has-in-loop-v.ensures.value c.if-has.false

pub returns : goal.returns
returns c = search_end _ _ _ _ _ _ c.requires.0 c.open_at-here.ensures c.open_at-there.ensures
    _ c.loop-v.invariant c.loop-v-test.false
