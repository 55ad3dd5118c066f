-- Field after field (proofs/LineFields).
use native.Mathlib.Omega.{arith}
use Rattle.tables.proofs.LineFields.{copied_done}
use Rattle.tables.proofs.checking.fields_into.Goals as goal

pub returns : goal.returns
returns c = copied_done _ _ c.loop-k.f c.loop-k.k c.loop-k.invariant _ c.loop-k-test.false
    (omega arith)
