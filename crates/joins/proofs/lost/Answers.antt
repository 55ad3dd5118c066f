-- By the words of the node's edges.
use Rattle.joins.proofs.Openness.{open_read}
use Rattle.joins.proofs.lost.Goals as goal

pub returns : goal.returns
returns c = open_read _ _ _ _ c.requires c.has.ensures
