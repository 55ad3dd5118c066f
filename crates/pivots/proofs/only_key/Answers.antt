-- By the word of the item; where it has none, by its uses.
use mathlib.Core.Path.{refl}
use Rattle.pivots.proofs.Answers.{by_word, by_none, keys_from_lem}
use Rattle.pivots.proofs.only_key.Goals as goal

pub returns-then-w-ne0 : goal.returns-then-w-ne0
returns-then-w-ne0 c = λ tag.
    let word = c.word_for-w.ensures.0 in
    keys_from_lem _ _ _ _ _ _ _ refl _ word (by_word _ _ _ _ _ _ _ c.if-w-ne0.true c.image.ensures
    c.mix.ensures)

pub returns-then-uses_of-eq0 : goal.returns-then-uses_of-eq0
returns-then-uses_of-eq0 c = λ tag.
    let word = c.word_for-w.ensures.0 in
    keys_from_lem _ _ _ _ _ _ _ c.uses_of.ensures _ word (by_none _ _ _ _ _ c.if-w-ne0.false c.if-uses_of-eq0.true)
