use Rattle.records.specs.Words.{record_from}
use Rattle.records.proofs.record_of.Goals as goal

pub returns : goal.returns
unfolding record_from
returns c = cc
