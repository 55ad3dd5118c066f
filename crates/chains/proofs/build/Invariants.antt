use Rattle.records.specs.Words.{records_at}
use Rattle.chains.specs.Chains.{Chained}
use Rattle.chains.proofs.build.Given as goal

abbrev pub invariant-loop-j : goal.invariant-loop-j
invariant-loop-j l = Chained l.links (records_at l.chart l.j)
