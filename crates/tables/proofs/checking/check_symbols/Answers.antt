-- Line after line (proofs/Leading).
use native.Mathlib.Omega.{arith}
use mathlib.Core.Path.{refl}
use mathlib.Core.List.{[]}
use Rattle.questions.specs.declared.Due.TheVariants.{Symbol}
use Rattle.questions.specs.Layout.{grammar_words, place_of}
use Rattle.tables.proofs.Leading.{lines_next, next_symbol}
use Rattle.tables.proofs.checking.check_symbols.Goals as goal

pub loop-s-preserved : goal.loop-s-preserved
unfolding place_of
loop-s-preserved c = lines_next grammar_words [] _ _ _ Symbol _ _ _ _ c.loop-s.invariant
    c.loop-s-test.true tt _ c.symbol_stands.ensures c.if-not-symbol_stands.false-raw refl
    (next_symbol _ _ _ c.requires.1) _ (omega arith)
