use Rattle.places.specs.Words.{places_of}
use Rattle.rules.proofs.CoverageLaws.{Imaged}
use Rattle.rules.proofs.coverage.images.Given as goal

abbrev pub invariant-loop-i : goal.invariant-loop-i
invariant-loop-i l = Imaged (places_of l.map) l.chosen l.i l.set
