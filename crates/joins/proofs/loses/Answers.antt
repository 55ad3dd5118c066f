-- No place passed has an open node.
use mathlib.Core.Path.{refl, sym, ◌∙◌}
use Rattle.joins.proofs.Dropping.{passed_next, passed_bare, passed_lost, passed_all}
use Rattle.joins.proofs.loses.Goals as goal
use Rattle.joins.proofs.loses.Goals.{else-v-lt64-via-then-v-lt64+else-lost, else-v-lt64-via-else-v-lt64}

pub returns-then-lost : goal.returns-then-lost
returns-then-lost c = passed_lost _ _ _ _ c.ranges.w.fits
    c.loop-rest.invariant c.loop-rest-test.true _ refl
    _ c.lost.ensures c.if-lost.true

pub loop-rest-preserved : goal.loop-rest-preserved
loop-rest-preserved c =
    let small = c.ranges.w.fits in
    let before = c.loop-rest.invariant in
    elim c.else-v-lt64.branch [
      | else-v-lt64-via-then-v-lt64+else-lost w ↦
          passed_next _ _ _ _ small before _ refl (sym w.lost.ensures ∙ w.if-lost.false)
      | else-v-lt64-via-else-v-lt64 w ↦ passed_bare _ _ _ _ small before _ refl w.if-v-lt64.false
    ]

pub returns : goal.returns
returns c = passed_all _ _ _ _ c.ranges.w.fits c.loop-rest.invariant c.loop-rest-test.false
