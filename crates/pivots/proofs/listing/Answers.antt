use Rattle.keys.specs.Keys.{keys_of}
use Rattle.pivots.proofs.listing.Goals as goal

pub returns : goal.returns
unfolding keys_of
returns c = c.keys_by.ensures
