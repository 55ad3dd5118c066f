use mathlib.Core.Path.{sym, ◌∙◌}
use native.Mathlib.Omega.{arith}
use Rattle.records.specs.Words.{tail_of}
use Rattle.records.proofs.WordLaws.{improve_handled, improve_less, improve_more}
use Rattle.records.proofs.improve.Goals as goal

pub returns-then-is_handled : goal.returns-then-is_handled
returns-then-is_handled c =
    let s = c.args in
    improve_handled s.chart.now s.j s.x (sym c.is_handled.ensures ∙ c.if-is_handled.true)

pub returns-then-count_at-item : goal.returns-then-count_at-item
returns-then-count_at-item c =
    let s = c.args in
    let waits = sym c.is_handled.ensures ∙ c.if-is_handled.false in
    improve_less s.chart.now s.j s.x waits (omega arith)

pub returns : goal.returns
unfolding tail_of
returns c =
    let s = c.args in
    let waits = sym c.is_handled.ensures ∙ c.if-is_handled.false in
    rw (c.place-at.ensures.0, c.tail_of.ensures)
    (improve_more s.chart.now s.j s.x waits c.requires (omega arith))
