use mathlib.Core.Path.{◌∙◌}
use Rattle.records.specs.Words.{word_at, record_at}
use Rattle.records.proofs.load.Goals as goal

pub returns : goal.returns
unfolding record_at word_at
returns c = c.record_of.ensures ∙ rw c.place-at.ensures.0
