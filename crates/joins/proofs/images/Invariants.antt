use lib.ListN.{get_or}
use Rattle.hrg.specs.Counts.{tabulate}
use Rattle.places.specs.Words.{places_of}
use Rattle.joins.specs.Joins.{NodesIn}
use Rattle.joins.proofs.images.Given as goal

abbrev pub invariant-loop-k : goal.invariant-loop-k
invariant-loop-k l = NodesIn l.mask (tabulate l.k (λ i. get_or (places_of l.w) i 0))
