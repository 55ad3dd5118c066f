-- The loop along up to five lists (proofs/ManyLaws).
use mathlib.Core.Path.{refl, ◌∙◌}
use Rattle.records.proofs.WordLaws.{item_inside}
use Rattle.steps.proofs.ListedLaws.{query_within, partners_few, partners_joining, partners_known, partners_end, turn_room, turn_within}
use Rattle.steps.proofs.ManyLaws.{turning_start, turning_next, turning_less}
use Rattle.steps.proofs.consequences.add_many.Goals as goal

pub item_at-x-requires : goal.item_at-x-requires
item_at-x-requires c = item_inside _ _ c.requires.0.handled.there

pub opening-at-requires : goal.opening-at-requires
opening-at-requires c =
    let p = c.requires in (
      p.1,
      partners_few p.0 p.1,
      query_within _ _ _ c.query-query.ensures,
    )

pub loop-at-init : goal.loop-at-init
loop-at-init c = (
  refl,
  turning_start c.requires c.item_at-x.ensures c.query-query.ensures
      c.opening-at.ensures,
)

pub add_next-past-requires : goal.add_next-past-requires
add_next-past-requires c =
    let p = c.requires in
    let S = c.loop-at.invariant.1 in
    (partners_joining p.0 p.1 S, partners_known p.0 p.1 S c.loop-at-test.true)

pub onward-at-requires : goal.onward-at-requires
onward-at-requires c =
    let p = c.requires in
    let S = c.loop-at.invariant.1 in
    let a = c.add_next-past.ensures in
    let t = c.loop-at-test.true in (
      turn_room p.0 p.1 S t a.0 a.1 a.2,
      partners_few p.0 p.1,
      t,
      turn_within p.0 p.1 S t a.0 a.1 a.2,
    )

pub loop-at-smaller : goal.loop-at-smaller
loop-at-smaller c =
    let a = c.add_next-past.ensures in
    turning_less c.requires c.item_at-x.ensures c.loop-at.invariant.1 c.loop-at-test.true a.0
    a.1 a.2 c.onward-at.ensures

pub loop-at-preserved : goal.loop-at-preserved
loop-at-preserved c =
    let a = c.add_next-past in
    let l = c.loop-at in (
      a.auto.chart ∙ l.invariant.0,
      turning_next c.requires c.item_at-x.ensures l.invariant.1 c.loop-at-test.true a.ensures.0
          a.ensures.1 a.ensures.2 c.onward-at.ensures,
    )

pub returns : goal.returns
returns c = (
  partners_end c.requires.0 c.requires.1 c.loop-at.invariant.1 c.loop-at-test.false,
  c.loop-at.invariant.1.ready,
)
