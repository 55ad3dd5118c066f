-- Byte k is put, the others stay.
use Rattle.places.proofs.Reading.{place_put}
use Rattle.places.proofs.with_node.Goals as goal

pub returns : goal.returns
returns c = place_put c.args.w c.args.k c.args.v c.ranges.w.fits c.requires.0 c.requires.1
