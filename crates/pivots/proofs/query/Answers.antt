use Rattle.keys.specs.Keys.{query_of}
use Rattle.pivots.proofs.query.Goals as goal

pub returns : goal.returns
unfolding query_of
returns c = c.keys_by.ensures
