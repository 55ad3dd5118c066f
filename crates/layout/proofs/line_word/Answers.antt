-- No field is left in front of the first one.
use native.Mathlib.Omega.{arith}
use Rattle.layout.proofs.Fields.{packed_done}
use Rattle.layout.proofs.line_word.Goals as goal

pub returns : goal.returns
returns c = packed_done _ _ _ c.loop-k.invariant (omega arith)
