-- The nodes at the places passed.
use mathlib.Core.Path.{subst}
use Rattle.places.specs.Words.{places_of}
use Rattle.places.specs.Laws.{length_places}
use Rattle.joins.specs.Joins.{NodesIn}
use Rattle.joins.proofs.Touching.{listed_none, listed_next, listed_done}
use Rattle.joins.proofs.EdgeMaps.{as_words}
use Rattle.joins.proofs.images.Goals as goal

pub loop-k-init : goal.loop-k-init
loop-k-init c = listed_none _

pub loop-k-preserved : goal.loop-k-preserved
loop-k-preserved c = listed_next _ _ _ _ _ c.node_at.ensures.0 c.with-mask.ensures c.loop-k.invariant

pub returns : goal.returns
returns c = subst (NodesIn c.loop-k.mask) (as_words 8 (places_of c.args.w) (length_places c.args.w))
    (listed_done _ 8 c.loop-k.k _ c.loop-k.auto.k-end c.loop-k-test.false c.loop-k.invariant)
