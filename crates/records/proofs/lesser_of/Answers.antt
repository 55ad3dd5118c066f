use native.Mathlib.Omega.{arith}
use mathlib.Core.Path.{sym, ◌∙◌}
use Rattle.records.proofs.WordLaws.{lesser_handled, lesser_stays, lesser_moves}
use Rattle.records.proofs.lesser_of.Goals as goal

pub returns-then-is_handled : goal.returns-then-is_handled
returns-then-is_handled c =
    let s = c.args in lesser_handled s.chart.now s.i s.best
    (sym c.is_handled.ensures ∙ c.if-is_handled.true)

pub returns-then-count_at : goal.returns-then-count_at
returns-then-count_at c =
    let s = c.args in
    lesser_stays s.chart.now s.i s.best (sym c.is_handled.ensures ∙ c.if-is_handled.false)
    (omega arith)

pub returns : goal.returns
returns c =
    let s = c.args in
    lesser_moves s.chart.now s.i s.best (sym c.is_handled.ensures ∙ c.if-is_handled.false)
    (omega arith)
