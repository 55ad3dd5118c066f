use Rattle.replayer.proofs.TextRows.{Counting}
use Rattle.replayer.proofs.fitting.row_count.Given as goal

abbrev pub invariant-loop-k : goal.invariant-loop-k
invariant-loop-k l = Counting l.text l.n l.at l._k
