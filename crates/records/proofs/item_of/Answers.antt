use Rattle.records.specs.Words.{item_from}
use Rattle.records.proofs.item_of.Goals as goal

pub returns : goal.returns
unfolding item_from
returns c = cc
