-- The loop over listed nodes: the mask seen has each node passed, once (proofs/Listing).
use mathlib.Core.Path.{refl}
use native.Mathlib.Omega.{arith}
use Rattle.tables.proofs.Listing.{look_none, look_all, look_out, look_twice, look_more}
use Rattle.tables.proofs.marks.listed.Goals as goal

pub loop-k-init : goal.loop-k-init
loop-k-init c = look_none _ _ _

pub returns-then-top-x : goal.returns-then-top-x
returns-then-top-x c = look_out _ _ _ _ _ c.loop-k.invariant _ c.loop-k-test.true refl
    _ (omega arith) c.if-top-x.true

pub returns-then-has : goal.returns-then-has
returns-then-has c = look_twice _ _ _ _ _ c.loop-k.invariant
    _ c.loop-k-test.true refl _ c.has.ensures c.if-has.true

pub loop-k-preserved : goal.loop-k-preserved
loop-k-preserved c = look_more _ _ _ _ _ c.loop-k.invariant _ c.loop-k-test.true refl
    _ _ _ (omega arith) c.if-top-x.false c.has.ensures
    c.if-has.false c.with-seen.ensures

pub returns : goal.returns
returns c = look_all _ _ _ _ _ c.loop-k.invariant c.loop-k-test.false
