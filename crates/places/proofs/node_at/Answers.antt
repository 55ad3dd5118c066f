-- Byte k is place k.
use native.Mathlib.Omega.{arith}
use mathlib.Core.Path.{sym}
use Rattle.places.proofs.Reading.{place_at_lem}
use Rattle.places.proofs.node_at.Goals as goal

pub returns : goal.returns
returns c = (sym (place_at_lem c.args.w c.args.k c.ranges.w.fits c.requires), omega arith)
