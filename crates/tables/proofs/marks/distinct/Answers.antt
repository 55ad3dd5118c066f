-- Each node found new, and their set (proofs/Covering).
use Rattle.tables.proofs.Covering.{sought_none, sought_all, sought_out, sought_twice, sought_more}
use Rattle.tables.proofs.marks.distinct.Goals as goal

pub loop-k-init : goal.loop-k-init
loop-k-init c = sought_none _ _

pub returns-then-nodes-x : goal.returns-then-nodes-x
returns-then-nodes-x c = sought_out _ _ _ _ _ _ c.loop-k.invariant
    c.requires.2 _ c.loop-k-test.true
    c.field_in-x.ensures c.if-nodes-x.true

pub returns-then-seen-x-eq1 : goal.returns-then-seen-x-eq1
returns-then-seen-x-eq1 c = sought_twice _ _ _ _ _ _ c.loop-k.invariant c.requires.2 _ c.loop-k-test.true
    c.field_in-x.ensures c.if-seen-x-eq1.true

pub loop-k-preserved : goal.loop-k-preserved
loop-k-preserved c = sought_more _ _ _ _ _ _ c.loop-k.invariant c.requires.2 _ c.loop-k-test.true
    c.field_in-x.ensures c.if-nodes-x.false c.if-seen-x-eq1.false

pub returns : goal.returns
returns c = sought_all _ _ _ _ _ _ c.loop-k.invariant c.loop-k-test.false
