use Rattle.pivots.proofs.TableLaws.{Filled}
use Rattle.pivots.proofs.fill.Given as goal

abbrev pub invariant-loop-i : goal.invariant-loop-i
invariant-loop-i l = Filled l.g.grammar.words.now l.t l.i
