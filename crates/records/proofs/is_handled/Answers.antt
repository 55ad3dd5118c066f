use Rattle.records.specs.Words.{record_from, record_at}
use Rattle.records.proofs.is_handled.Goals as goal

pub returns : goal.returns
unfolding record_at record_from
returns c = rw c.word_at.ensures
