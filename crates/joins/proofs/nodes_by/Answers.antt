-- The two masks have the nodes on the edges passed.
use Rattle.joins.proofs.Touching.{sides_none, sides_next}
use Rattle.joins.proofs.nodes_by.Goals as goal

pub loop-i-init : goal.loop-i-init
loop-i-init c = sides_none _ _ _ _

pub loop-i-preserved : goal.loop-i-preserved
loop-i-preserved c = sides_next _ _ _ _ _ _ _ _ _ _ _ c.field_at.ensures
    c.rank_at-rank.ensures.0 c.listed-on.ensures c.has.ensures.value
    c.with_edge-s.ensures c.loop-i.invariant
