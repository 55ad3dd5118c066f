use mathlib.Core.Bool.{cond}
use mathlib.Core.List.{[]}
use lib.Dec.{ltb}
use Rattle.questions.specs.declared.Due.TheVariants.{Symbol, Rule}
use Rattle.questions.specs.Layout.{symbol_place, grammar_words}
use Rattle.tables.specs.Concluding.{Leads}
use Rattle.tables.proofs.checking.check_symbols.Given as goal

abbrev pub invariant-loop-s : goal.invariant-loop-s
invariant-loop-s l = Leads grammar_words [] l.t (Symbol 0) (symbol_place 0) (cond (ltb l.s l.n) (Symbol l.s) (Rule 0))
    (symbol_place l.s)
