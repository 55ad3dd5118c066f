use native.Mathlib.Omega.{arith}
use Rattle.records.specs.Words.{word_at}
use Rattle.records.proofs.WordLaws.{mark_none, mark_some}
use Rattle.records.proofs.mark_handled.Goals as goal

pub returns-then-j-capacity_of : goal.returns-then-j-capacity_of
returns-then-j-capacity_of c = let s = c.args in mark_none s.chart.now s.j (omega arith)

pub returns : goal.returns
unfolding word_at
returns c =
    let s = c.args in
    rw c.place-at.ensures.0 (mark_some s.chart.now s.j (omega arith))
