use Rattle.hrg.specs.Grammars.{right_of}
use Rattle.questions.specs.Abstract.{grammar_of}
use Rattle.extractor.proofs.NumberLaws.{Numbering}
use Rattle.extractor.proofs.numbers.number_parts.Given as goal

abbrev pub invariant-loop-i : goal.invariant-loop-i
invariant-loop-i l = Numbering (grammar_of l.grammar.words.now) l.bs l.sizes
    (right_of (grammar_of l.grammar.words.now) l.r).edges l.from l.initial.fields l.at l.fields l.next l.i
