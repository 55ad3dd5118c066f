-- A law for each test.
use native.Mathlib.Omega.{arith}
use Prim.Native.Nat.{◌+◌}
use Rattle.pivots.proofs.TableLaws.{symbol_far, symbol_there}
use Rattle.pivots.proofs.symbol_word.Goals as goal

pub returns-then-s-ge64 : goal.returns-then-s-ge64
returns-then-s-ge64 c = (symbol_far _ _ _ c.if-s-ge64.true, omega arith)

pub returns : goal.returns
returns c = (
  symbol_there _ _ _ (omega (arith, c.if-s-ge64.false)),
  omega (arith, c.shared_slice_known-1.given (c.args.from + c.args.s)),
)
