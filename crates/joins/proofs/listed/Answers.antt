-- The mask has the fields passed.
use Prim.Native.Nat.{◌+◌}
use Rattle.questions.specs.Layout.{line_field}
use Rattle.joins.proofs.Touching.{listed_none, listed_next}
use Rattle.joins.proofs.listed.Goals as goal

pub loop-k-init : goal.loop-k-init
loop-k-init c = listed_none (λ j. line_field c.args.t.now c.args.p (c.args.from + j))

pub loop-k-preserved : goal.loop-k-preserved
loop-k-preserved c = listed_next (λ j. line_field c.args.t.now c.args.p (c.args.from + j))
    _ _ _ _ c.field_at.ensures c.with-mask.ensures c.loop-k.invariant
