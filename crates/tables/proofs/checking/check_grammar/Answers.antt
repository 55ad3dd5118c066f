-- A short table is refused; else by the first line, by the symbols, and by the rules behind them.
use native.Mathlib.Omega.{arith}
use mathlib.Core.List.{[]}
use Rattle.questions.specs.Layout.{grammar_words}
use Rattle.tables.proofs.OnePass.{grammar_short, grammar_is}
use Rattle.tables.proofs.Leading.{concludes_no, concludes_at, through, through_no, concludes_on, symbols_few, rules_few, grammar_no, grammar_line_is}
use Rattle.tables.proofs.checking.check_grammar.Goals as goal

pub returns-then-t-lt-GRAMMAR_WORDS : goal.returns-then-t-lt-GRAMMAR_WORDS
returns-then-t-lt-GRAMMAR_WORDS c = grammar_short _ c.if-t-lt-GRAMMAR_WORDS.true

pub returns-then-not-grammar_stands : goal.returns-then-not-grammar_stands
returns-then-not-grammar_stands c = grammar_is _ c.if-t-lt-GRAMMAR_WORDS.false
    _ (grammar_no grammar_words [] _ _ c.grammar_stands.ensures c.if-not-grammar_stands.true-raw)

pub check_symbols-requires : goal.check_symbols-requires
check_symbols-requires c = (
  c.if-t-lt-GRAMMAR_WORDS.false,
  symbols_few _ _ (c.grammar_stands.ensures.yes c.if-not-grammar_stands.false)
      c.symbol_count_in-symbols.ensures,
)

pub returns-then-not-check_symbols : goal.returns-then-not-check_symbols
returns-then-not-check_symbols c = grammar_is _ c.if-t-lt-GRAMMAR_WORDS.false
    _ (concludes_no grammar_words [] _ _ _ (through_no grammar_words []
    _ _ _ _ _ (grammar_line_is grammar_words [] _ _ c.grammar_stands.ensures
    c.if-not-grammar_stands.false-raw) _ _ _ c.check_symbols.ensures c.if-not-check_symbols.true-raw))

pub symbol_place-requires : goal.symbol_place-requires
symbol_place-requires c = omega (
  arith,
  (symbols_few
      _ _ (c.grammar_stands.ensures.yes
      c.if-not-grammar_stands.false) c.symbol_count_in-symbols.ensures).few,
)

pub check_rules-requires : goal.check_rules-requires
check_rules-requires c =
    let grammar_stands = c.grammar_stands in
    let if2 = c.if-not-grammar_stands in (
      c.if-t-lt-GRAMMAR_WORDS.false,
      rules_few _ _ (grammar_stands.ensures.yes if2.false)
          c.rule_count_in.ensures,
      omega (
        arith,
        (symbols_few
            _ _ (grammar_stands.ensures.yes if2.false)
            c.symbol_count_in-symbols.ensures).few,
      ),
    )

pub returns : goal.returns
returns c = grammar_is _ c.if-t-lt-GRAMMAR_WORDS.false _ (concludes_on grammar_words []
    _ _ _ _ _ (through grammar_words [] _ _ _ _ _ (grammar_line_is grammar_words []
    _ _ c.grammar_stands.ensures c.if-not-grammar_stands.false-raw)
    _ _ _ c.check_symbols.ensures c.if-not-check_symbols.false-raw)
    _ (concludes_at grammar_words [] _ _ _ _ _ c.symbol_place.ensures
    c.check_rules.ensures))
