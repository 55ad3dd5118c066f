use Rattle.records.specs.Words.{records_at}
use Rattle.ranking.specs.Ranking.{Ranked}
use Rattle.ranking.proofs.fill.Given as goal

abbrev pub invariant-loop-j : goal.invariant-loop-j
invariant-loop-j l = Ranked l.ranks (records_at l.chart l.j)
