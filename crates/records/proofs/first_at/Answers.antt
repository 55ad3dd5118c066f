use Rattle.records.specs.Words.{record_from, record_at}
use Rattle.records.proofs.first_at.Goals as goal

pub returns : goal.returns
unfolding record_at record_from
returns c = rw c.word_any.ensures
