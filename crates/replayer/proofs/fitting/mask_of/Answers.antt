-- The mask has the nodes passed.
use native.Mathlib.Omega.{arith}
use Rattle.replayer.proofs.MaskTests.{with_none, mask_next}
use Rattle.replayer.proofs.fitting.mask_of.Goals as goal

pub loop-k-init : goal.loop-k-init
loop-k-init c = with_none c.args.listed

pub loop-k-preserved : goal.loop-k-preserved
loop-k-preserved c = mask_next c.args.listed c.loop-k.k _ _ (omega arith) (c.requires.1 c.loop-k.k (omega arith))
    c.loop-k.invariant c.with-mask.ensures
