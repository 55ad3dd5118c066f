use native.Mathlib.Omega.{arith}
use Rattle.records.proofs.WordLaws.{add_marked, add_found, add_new, count_fits}
use Rattle.records.proofs.Written.{found_fits}
use Rattle.records.proofs.add.Goals as goal

pub returns-then-mark_of-ne0 : goal.returns-then-mark_of-ne0
returns-then-mark_of-ne0 c =
    let s = c.args in add_marked s.chart.now s.x
    _ c.mark_of.ensures c.if-mark_of-ne0.true

pub find-requires : goal.find-requires
find-requires c = omega (arith, count_fits c.args.chart.now, c.item_count-n.ensures)

pub improve-requires : goal.improve-requires
improve-requires c = found_fits c.args.chart.now c.args.x.item c.item_count-n.result
    _ c.find.result c.item_count-n.ensures c.find.ensures
    c.in-Some.is

pub returns-in-Some : goal.returns-in-Some
returns-in-Some c =
    let s = c.args in
    add_found s.chart.now s.x _ c.item_count-n.result c.find.result
    c.mark_of.ensures c.if-mark_of-ne0.false c.item_count-n.ensures
    c.find.ensures _ _ c.in-Some.is c.improve.ensures

pub returns-in-None : goal.returns-in-None
returns-in-None c =
    let s = c.args in
    add_new s.chart.now s.x _ c.item_count-n.result c.find.result
    c.mark_of.ensures c.if-mark_of-ne0.false c.item_count-n.ensures
    c.find.ensures _ c.in-None.is c.append.ensures
