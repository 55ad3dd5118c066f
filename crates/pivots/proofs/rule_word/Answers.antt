-- A law for each test.
use native.Mathlib.Omega.{arith}
use Prim.Native.Nat.{◌+◌}
use Rattle.pivots.proofs.TableLaws.{rule_far, rule_past, rule_read}
use Rattle.pivots.proofs.rule_word.Goals as goal

pub returns-then-r-ge64 : goal.returns-then-r-ge64
returns-then-r-ge64 c = (rule_far _ _ _ _ c.if-r-ge64.true, omega arith)

pub returns-then-p-ge-PER_RULE : goal.returns-then-p-ge-PER_RULE
returns-then-p-ge-PER_RULE c = (rule_past _ _ _ _ (omega (arith, c.if-r-ge64.false)) c.if-p-ge-PER_RULE.true, omega arith)

pub returns : goal.returns
returns c =
    let args = c.args in (
      rule_read _ _ _ _ _ (omega (arith, c.if-r-ge64.false))
          (omega (arith, c.if-p-ge-PER_RULE.false)) c.place.ensures,
      omega (arith, c.shared_slice_known-2-1.given (args.from + c.place.result)),
    )
