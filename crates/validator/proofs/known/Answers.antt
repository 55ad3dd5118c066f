-- Every record passed is known, and the handled ones among them are counted.
use native.Mathlib.Omega.{arith}
use mathlib.Core.Path.{◌∙◌}
use Rattle.records.proofs.WordLaws.{handled_start}
use Rattle.validator.proofs.WordTests.{passed_none, chart_over, chart_not, chart_next, chart_all, count_all, count_more, count_same}
use Rattle.validator.proofs.known.Goals as goal
use Rattle.validator.proofs.known.Goals.{then-x-ne0, else-x-ne0}

pub returns-then-capacity_of-n : goal.returns-then-capacity_of-n
returns-then-capacity_of-n c =
    let number = c.number_of-n.ensures in (
      chart_over _ _ _ _ number _ c.capacity_of.ensures c.if-capacity_of-n.true,
      tt,
    )

pub loop-j-init : goal.loop-j-init
loop-j-init c = (omega arith, passed_none _, handled_start c.args.chart.now)

pub returns-then-not-known_record : goal.returns-then-not-known_record
returns-then-not-known_record c =
    let number = c.number_of-n.ensures in (
      chart_not _ _ _ _ number _ c.capacity_of.ensures c.if-capacity_of-n.false _ _ _ c.loop-j-test.true
          c.load-x.ensures
          c.known_record.ensures c.if-not-known_record.true,
      tt,
    )

pub loop-j-preserved : goal.loop-j-preserved
loop-j-preserved c =
    let w = c.args.chart.now in
    let l = c.loop-j in
    let passed
    = chart_next _ _ _ _ c.number_of-n.ensures _ c.capacity_of.ensures c.if-capacity_of-n.false
    _ _ _ c.load-x.ensures
    c.known_record.ensures c.if-not-known_record.false l.invariant.1 in
    elim c.if-x-ne0.branch [
      | then-x-ne0 p ↦ (
        omega arith,
        passed,
        p.handled-is ∙ count_more w l.j l.handled _ c.load-x.ensures p.if-x-ne0.true l.invariant.2,
      )
      | else-x-ne0 p ↦ (
        omega arith,
        passed,
        p.handled-is ∙ count_same w l.j l.handled _ c.load-x.ensures p.if-x-ne0.false l.invariant.2,
      )
    ]

pub returns : goal.returns
returns c =
    let l = c.loop-j.invariant in
    let few = c.loop-j.auto.j-end in
    let cap = c.capacity_of.ensures in
    let number = c.number_of-n.ensures in (
      chart_all _ _ _ _ number _ cap c.if-capacity_of-n.false _ c.loop-j-test.false l.1,
      count_all _ _ _ _ number cap c.if-capacity_of-n.false few c.loop-j-test.false _ l.2,
    )
