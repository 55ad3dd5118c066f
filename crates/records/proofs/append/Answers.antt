use native.Mathlib.Omega.{arith}
use Rattle.records.proofs.WordLaws.{append_short, append_full, append_room}
use Rattle.records.proofs.append.Goals as goal

pub returns-then-chart-lt-HEADER : goal.returns-then-chart-lt-HEADER
returns-then-chart-lt-HEADER c = let s = c.args in append_short s.chart.now s.n s.x c.if-chart-lt-HEADER.true

pub returns-then-n-capacity_of : goal.returns-then-n-capacity_of
returns-then-n-capacity_of c =
    let s = c.args in append_full s.chart.now s.n s.x
    (omega arith)

pub returns : goal.returns
returns c =
    let s = c.args in
    append_room s.chart.now _ s.n s.x (omega arith) c.store.ensures
