use Prim.Native.Nat.{◌%◌}
use Rattle.records.specs.Words.{chart_of}
use Rattle.chains.proofs.ChainLaws.{Leads}
use Rattle.chains.proofs.find.Given as goal

abbrev pub invariant-loop-i : goal.invariant-loop-i
invariant-loop-i l = Leads l.x (chart_of l.chart).records l.i

abbrev pub decreases-loop-i : goal.decreases-loop-i
decreases-loop-i l = l.i % 8192
