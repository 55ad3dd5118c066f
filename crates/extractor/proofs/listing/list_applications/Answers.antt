-- What is listed and what is due are the whole listing; more due than may be listed is endless.
use native.Mathlib.Omega.{arith}
use mathlib.Core.Path.{refl}
use Rattle.extractor.proofs.ListLaws.{going_on, going_over, going_done}
use Rattle.extractor.proofs.listing.list_applications.Goals as goal

pub returns-then-top-count : goal.returns-then-top-count
returns-then-top-count c = going_over _ _ _ _ _ _ _ _ _ _ c.loop-top.invariant
    (omega (arith, c.loop-top-test.true, c.requires)) refl c.push_children-top.ensures.0 c.push_children-top.ensures.1
    c.if-top-count.true

pub loop-top-preserved : goal.loop-top-preserved
loop-top-preserved c = going_on _ _ _ _ _ _ _ _ _ _ c.loop-top.invariant
    (omega (arith, c.loop-top-test.true, c.requires)) refl c.push_children-top.ensures.0 c.push_children-top.ensures.1
    c.if-top-count.false

pub returns : goal.returns
returns c = going_done _ _ _ _ _ _ _ (omega (
  arith,
  c.loop-top-test.false,
  c.requires,
)) c.loop-top.invariant
