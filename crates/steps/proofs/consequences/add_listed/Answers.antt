-- The loop along one list (proofs/SingleLaws).
use native.Mathlib.Omega.{arith}
use mathlib.Core.Path.{◌≡◌, refl, ap, ◌∙◌}
use lib.ListN.{length}
use Rattle.index.specs.declared.Index.{Index}
use Rattle.records.proofs.WordLaws.{item_inside}
use Rattle.steps.proofs.ListedLaws.{quiet_by, loud_handled}
use Rattle.steps.proofs.SingleLaws.{quiet, loud, single_key, single_few, single_start, single_joining, single_end, single_low, single_some, single_known, single_next, single_less}
use Rattle.steps.proofs.consequences.add_listed.Goals as goal
use Rattle.steps.proofs.consequences.add_listed.Goals.{then-not-quiet, else-not-quiet}

words : {ix jx : Index} → ix ≡ jx → ix.words ≡ jx.words
words e = ap (λ (x : Index). x.words) e

lists : {ix jx : Index} → ix ≡ jx → ix.lists ≡ jx.lists
lists e = ap (λ (x : Index). x.lists) e

pub edges_at-edges-requires : goal.edges_at-edges-requires
edges_at-edges-requires c = item_inside _ _ c.requires.0.handled.there

pub overflow_mul-end : goal.overflow_mul-end
overflow_mul-end c = omega (arith, single_few c.requires)

pub first-c-requires : goal.first-c-requires
first-c-requires c = single_key c.requires

pub loop-c-init : goal.loop-c-init
loop-c-init c = (refl, single_start c.requires _ c.first-c.ensures)

pub overflow_sub-k : goal.overflow_sub-k
overflow_sub-k c = single_some c.requires c.loop-c.invariant.1 c.loop-c-test.true

pub quiet-requires : goal.quiet-requires
quiet-requires c =
    let p = c.requires in
    let l = c.loop-c in
    let t = c.loop-c-test.true in (
      single_known p l.invariant.1 t,
      omega (
        arith,
        single_few p,
        single_low p l.invariant.1 t,
        single_some p l.invariant.1 t,
      ),
    )

pub add_met-past-requires : goal.add_met-past-requires
add_met-past-requires c =
    let p = c.requires in
    let A = c.loop-c.invariant.1 in (
      single_joining p A,
      record {
        there = single_known p A c.loop-c-test.true;
        done = loud_handled _ _ _ _ c.quiet.ensures c.if-not-quiet.true;
      },
    )

pub after-c-requires : goal.after-c-requires
after-c-requires c =
    let p = c.requires in
    omega (arith, single_few p, single_low p c.loop-c.invariant.1 c.loop-c-test.true)

pub loop-c-smaller : goal.loop-c-smaller
loop-c-smaller c =
    let p = c.requires in
    let A = c.loop-c.invariant.1 in
    let t = c.loop-c-test.true in
    let own = c.edges_at-edges.ensures in
    let q = c.quiet.ensures in
    single_less p A t _ c.after-c.ensures (elim c.if-not-quiet.branch [
      | then-not-quiet w ↦ loud _ _ _ _ w.chart-is (words w.index-is) (lists w.index-is) w.past-is w.add_met-past.ensures.0
          w.add_met-past.ensures.1 w.add_met-past.ensures.2
      | else-not-quiet w ↦ quiet (quiet_by _ _ _ _ _ own q w.if-not-quiet.false) w.chart-is (words w.index-is) (lists w.index-is) w.past-is
    ])

pub loop-c-preserved : goal.loop-c-preserved
loop-c-preserved c =
    let p = c.requires in
    let l = c.loop-c in
    let t = c.loop-c-test.true in
    let own = c.edges_at-edges.ensures in
    let q = c.quiet.ensures in (
      elim c.if-not-quiet.branch [
        | then-not-quiet w ↦ ap length w.chart-is ∙ w.add_met-past.auto.chart ∙ l.invariant.0
        | else-not-quiet w ↦ ap length w.chart-is ∙ l.invariant.0
      ],
      single_next p l.invariant.1 t _ c.after-c.ensures (elim c.if-not-quiet.branch [
        | then-not-quiet w ↦ loud _ _ _ _ w.chart-is (words w.index-is) (lists w.index-is) w.past-is w.add_met-past.ensures.0
            w.add_met-past.ensures.1 w.add_met-past.ensures.2
        | else-not-quiet w ↦ quiet (quiet_by _ _ _ _ _ own q w.if-not-quiet.false) w.chart-is (words w.index-is) (lists w.index-is) w.past-is
      ]),
    )

pub returns : goal.returns
returns c = (single_end c.requires c.loop-c.invariant.1 c.loop-c-test.false, c.loop-c.invariant.1.ready)
