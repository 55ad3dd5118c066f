-- A law for each answer.
use mathlib.Core.Path.{◌∙◌}
use Rattle.capi.proofs.CrossingLaws.{words_none, words_many, words_some}
use Rattle.capi.proofs.bobbinmarl_chart_words.Goals as goal

pub returns-then-items-lt1 : goal.returns-then-items-lt1
returns-then-items-lt1 c = words_none _ c.if-items-lt1.true

pub returns-then-items-gt4096 : goal.returns-then-items-gt4096
returns-then-items-gt4096 c = words_many _ c.if-items-lt1.false c.if-items-gt4096.true

pub returns : goal.returns
returns c = c.words_for.ensures ∙ words_some _ c.if-items-lt1.false c.if-items-gt4096.false
