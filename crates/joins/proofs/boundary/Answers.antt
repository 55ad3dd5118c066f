-- Common and joined members, by their laws.
use Rattle.joins.proofs.Touching.{boundary_is}
use Rattle.joins.proofs.boundary.Goals as goal

pub returns : goal.returns
returns c = boundary_is _ _
