use native.Mathlib.Omega.{arith}
use mathlib.Core.Path.{sym, ap, ◌∙◌}
use Rattle.agenda.specs.Steps.{least_waiting}
use Rattle.records.specs.Words.{records_at}
use Rattle.records.proofs.WordLaws.{least_start, least_none, least_one}
use Rattle.records.proofs.least.Goals as goal

pub loop-i-init : goal.loop-i-init
loop-i-init c = least_start _

pub least_from-requires : goal.least_from-requires
least_from-requires c =
    let s = c.args in
    let l = c.loop-i in let h = c.loop-i-test.true in (
      c.requires,
      h,
      least_one s.chart.now s.n l.i h l.invariant
          (sym c.is_handled.ensures ∙ c.if-not-is_handled.true),
    )

pub returns-then-not-is_handled : goal.returns-then-not-is_handled
returns-then-not-is_handled c = c.least_from.ensures

pub loop-i-preserved : goal.loop-i-preserved
loop-i-preserved c =
    let s = c.args in let l = c.loop-i in
    least_none s.chart.now s.n l.i c.loop-i-test.true l.invariant
    (sym c.is_handled.ensures ∙ c.if-not-is_handled.false)

pub returns : goal.returns
returns c =
    let s = c.args in c.loop-i.invariant ∙ ap
    (least_waiting (records_at s.chart.now s.n)) (omega arith)
