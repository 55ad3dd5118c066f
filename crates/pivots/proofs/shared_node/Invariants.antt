use Rattle.pivots.proofs.TableLaws.{Searched}
use Rattle.pivots.proofs.shared_node.Given as goal

abbrev pub invariant-loop-v : goal.invariant-loop-v
invariant-loop-v l = Searched l.g.grammar.words.now l.r l.p l.q l.v
