-- The mask of the edges passed, one edge a turn.
use mathlib.Core.Path.{refl, ◌∙◌}
use Rattle.tables.proofs.Covering.{marks_range, from_none, from_next}
use Rattle.tables.proofs.marks.mark_edges.Goals as goal

pub loop-i-init : goal.loop-i-init
loop-i-init c = from_none _ _ _

pub loop-i-preserved : goal.loop-i-preserved
loop-i-preserved c = from_next _ _ _ _ _ _ _ _ c.field_at.ensures c.rank_at-rank.ensures.0 c.loop-i.invariant
    (c.mark_line-mask.ensures ∙ marks_range _ _ _ _ _ (λ k. refl))
