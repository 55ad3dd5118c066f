use Rattle.records.specs.Words.{records_at}
use Rattle.lists.specs.Lists.{Listed}
use Rattle.index.specs.Index.{keys_for}
use Rattle.index.proofs.list_all.Given as goal

abbrev pub invariant-loop-j : goal.invariant-loop-j
invariant-loop-j l = Listed l.lists (keys_for l.keys (records_at l.chart l.j))
