use Rattle.records.proofs.WordLaws.{word_from}
use Rattle.records.proofs.word_at.Goals as goal

pub returns : goal.returns
returns c = word_from _ _ _ _ (rw c.place-at.ensures.0)
