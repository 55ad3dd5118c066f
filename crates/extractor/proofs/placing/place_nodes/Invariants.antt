use Rattle.extractor.proofs.PlaceLaws.{Placing}
use Rattle.extractor.proofs.placing.place_nodes.Given as goal

abbrev pub invariant-loop-k : goal.invariant-loop-k
invariant-loop-k l = Placing l.grammar.words.now l.r l.i l.l l.initial.f l.k l.f
