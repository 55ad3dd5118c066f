use native.Mathlib.Omega.{arith}
use mathlib.Core.Path.{refl, ◌∙◌}
use Rattle.records.proofs.WordLaws.{find_hit, find_miss, find_end}
use Rattle.records.proofs.find.Goals as goal

pub returns-then-same : goal.returns-then-same
returns-then-same c =
    let s = c.args in let l = c.loop-i in
    find_hit s.chart.now s.x s.n l.i _ (omega arith) (omega arith) c.same.result
    c.same.ensures c.if-same.true ∙ l.invariant

pub loop-i-preserved : goal.loop-i-preserved
loop-i-preserved c =
    let s = c.args in let l = c.loop-i in
    find_miss s.chart.now s.x s.n l.i _ (omega arith) (omega arith)
    c.same.result c.same.ensures c.if-same.false ∙ l.invariant

pub returns : goal.returns
returns c =
    let s = c.args in let l = c.loop-i in find_end s.chart.now s.x
    s.n l.i (omega arith) ∙ l.invariant
