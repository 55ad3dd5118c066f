use Prim.Native.Nat.{◌-◌}
use Rattle.questions.specs.Abstract.{grammar_of}
use Rattle.extractor.proofs.ListLaws.{Going}
use Rattle.extractor.proofs.listing.list_applications.Given as goal

abbrev pub invariant-loop-top : goal.invariant-loop-top
invariant-loop-top l = Going l.chart (grammar_of l.grammar.words.now) l.j (l.size - 8) l.list
    l.count l.top

abbrev pub decreases-loop-top : goal.decreases-loop-top
decreases-loop-top l = l.size - 8 - l.count
