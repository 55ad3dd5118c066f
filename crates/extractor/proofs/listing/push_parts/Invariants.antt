use Rattle.hrg.specs.Grammars.{right_of}
use Rattle.questions.specs.Abstract.{grammar_of}
use Rattle.extractor.proofs.ListLaws.{PushedFrom}
use Rattle.extractor.proofs.listing.push_parts.Given as goal

abbrev pub invariant-loop-i : goal.invariant-loop-i
invariant-loop-i l = PushedFrom (grammar_of l.grammar.words.now) l.bs
    (right_of (grammar_of l.grammar.words.now) l.r).edges l.initial.list l.top l.i l.list l.t
