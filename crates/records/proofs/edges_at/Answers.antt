use Rattle.records.specs.Words.{item_from, record_from, record_at}
use Rattle.records.proofs.edges_at.Goals as goal

pub returns : goal.returns
unfolding record_at record_from item_from
returns c = c.word_at.ensures
