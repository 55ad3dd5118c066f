-- By the kind of the item.
use Rattle.pivots.proofs.Answers.{active_word, passive_word}
use Rattle.pivots.proofs.word_for.Goals as goal

pub returns-then-x-eq0 : goal.returns-then-x-eq0
returns-then-x-eq0 c = (
  active_word _ _ _ _ _ c.if-x-eq0.true c.rule_word.ensures.0,
  c.rule_word.ensures.1,
)

pub returns : goal.returns
returns c = (
  passive_word _ _ _ _ _ c.if-x-eq0.false c.symbol_word.ensures.0,
  c.symbol_word.ensures.1,
)
