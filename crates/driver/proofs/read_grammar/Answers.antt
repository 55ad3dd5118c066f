-- A law for each answer.
use Rattle.driver.proofs.FileLaws.{grammar_over, grammar_read}
use Rattle.driver.proofs.read_grammar.Goals as goal

pub returns-then-text-gt32768 : goal.returns-then-text-gt32768
returns-then-text-gt32768 c = grammar_over _ _ c.if-text-gt32768.true

pub returns : goal.returns
returns c = grammar_read _ _ _ _ c.if-text-gt32768.false c.read_grammar.ensures
