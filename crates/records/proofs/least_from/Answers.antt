-- The choice among the records so far, one of which waits.
use Rattle.std.specs.Prelude.{Some}
use native.Mathlib.Omega.{arith}
use mathlib.Core.Path.{ap, ◌∙◌}
use Rattle.records.specs.Words.{records_at}
use Rattle.agenda.specs.Steps.{least_waiting}
use Rattle.records.proofs.WordLaws.{least_place, least_next}
use Rattle.records.proofs.least_from.Goals as goal

pub loop-i-init : goal.loop-i-init
loop-i-init c = c.requires.2

pub lesser_of-best-requires : goal.lesser_of-best-requires
lesser_of-best-requires c =
    let s = c.args in
    let w = s.chart.now in
    let l = c.loop-i in
    let p = c.requires.0 in (
      omega (arith, c.loop-i-test.true),
      omega (
        arith,
        least_place (records_at w s.n) l.i l.best l.invariant,
        c.loop-i-test.true,
      ),
    )

pub loop-i-preserved : goal.loop-i-preserved
loop-i-preserved c =
    let s = c.args in
    let l = c.loop-i in
    least_next s.chart.now s.n l.i (Some l.best) (Some c.lesser_of-best.result)
    c.loop-i-test.true l.invariant c.lesser_of-best.ensures

pub returns : goal.returns
returns c =
    let s = c.args in
    c.loop-i.invariant ∙ ap (least_waiting (records_at s.chart.now s.n)) (omega arith)
