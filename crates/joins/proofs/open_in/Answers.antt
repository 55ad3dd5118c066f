-- The nodes of both sides, and the external nodes that the table has.
use Rattle.joins.proofs.GraphLaws.{open_touched}
use Rattle.joins.proofs.open_in.Goals as goal

pub returns : goal.returns
returns c = open_touched _ _ _ _ _ _ c.touched-s.ensures
    c.requires.externals c.boundary.ensures
