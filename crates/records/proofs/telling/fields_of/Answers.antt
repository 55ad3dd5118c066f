use Rattle.agenda.specs.Telling.{fields_of}
use Rattle.records.proofs.telling.fields_of.Goals as goal

pub returns : goal.returns
unfolding fields_of
returns c = rw c.wide-nodes.ensures
