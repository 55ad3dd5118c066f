-- Line after line with the sets of those passed, which decide at the end (proofs/Carrying).
use native.Mathlib.Omega.{arith}
use mathlib.Core.Path.{refl, sym, ◌∙◌}
use mathlib.Core.Bool.{true, false}
use Rattle.tables.proofs.LineFields.{ends_at}
use Rattle.tables.proofs.Planning.{marked_start, marked_done}
use Rattle.tables.proofs.Carrying.{passed_start, passed_no, passed_next, line_not_kept, line_not_zero, line_stands, plan_whole_lem}
use Rattle.tables.proofs.checking.check_plan.Goals as goal

pub loop-q-init : goal.loop-q-init
loop-q-init c = (marked_start _ _, passed_start _ _ _ c.requires.1.some)

pub returns-in_default : goal.returns-in_default
returns-in_default c = passed_no _ _ _ _ c.loop-q.invariant.1
    c.loop-q-test.true (line_not_kept _ _ _ c.in_default.ensures)

pub returns-then-not-ends : goal.returns-then-not-ends
returns-then-not-ends c = passed_no _ _ _ _ c.loop-q.invariant.1 c.loop-q-test.true
    (line_not_zero _ _ _ _ (ends_at _ _ _ _ _ c.plan_place.ensures c.ends.ensures) c.if-not-ends.true-raw)

pub loop-q-preserved : goal.loop-q-preserved
loop-q-preserved c =
    let kept = c.in-Some in (
      kept.ensures.sets,
      passed_next _ _ _ _ c.loop-q.invariant.1 c.loop-q-test.true c.requires.1
          (line_stands _ _ _ _ (ends_at _ _ _ _ _ c.plan_place.ensures
          c.ends.ensures) kept.ensures.so c.if-not-ends.false-raw),
    )

pub returns-then-has_all : goal.returns-then-has_all
returns-then-has_all c =
    let loop = c.loop-q in let loop-test = c.loop-q-test in
    let pre = c.requires in loop.invariant.1.last loop-test.false
    _ (plan_whole_lem _ _ _ _ _ _ _ (omega (arith, pre.1.some)) pre.1.few pre.2
    (marked_done _ _ _ _ _ _ loop.auto.q-end loop-test.false loop.invariant.0) true _ (sym c.if-has_all.true ∙ c.has_all.ensures)
    c.has_all-then-has_all.ensures)

pub returns-else-has_all : goal.returns-else-has_all
returns-else-has_all c =
    let loop = c.loop-q in let loop-test = c.loop-q-test in
    let pre = c.requires in rw c.if-has_all.false (loop.invariant.1.last loop-test.false
    _ (plan_whole_lem _ _ _ _ _ _ _ (omega (arith, pre.1.some)) pre.1.few pre.2
    (marked_done _ _ _ _ _ _ loop.auto.q-end loop-test.false loop.invariant.0) false _ (sym c.if-has_all.false ∙ c.has_all.ensures)
    refl))
