-- From 64 on the answer is the full mask as a numeral; below that, a shifted 1 less one.
use native.Mathlib.Omega.{arith}
use Prim.Native.Nat.{min}
use mathlib.Core.Path.{◌≡◌, sym, ◌∙◌}
use lib.Pow.{pow_pos}
use borrow.Author.Tests.{lt-ltb}
use Rattle.masks.specs.Masks.{single, full}
use Rattle.masks.proofs.Laws.{member_full, shifted_single}
use Rattle.masks.proofs.full.Goals as goal

pub returns-then-n-ge64 : goal.returns-then-n-ge64
unfolding full
returns-then-n-ge64 c =
    let n = c.args.n in
    let all : min n 64 ≡ 64 = omega arith in
    record {
      value = rw all;
      members = λ k h. member_full 64 k ∙ lt-ltb k 64 h ∙ sym (lt-ltb k n (omega arith));
    }

pub overflow_sub-result : goal.overflow_sub-result
unfolding single
overflow_sub-result c =
    let n = c.args.n in
    omega (arith, shifted_single n (omega arith), pow_pos n)

pub returns : goal.returns
unfolding single full
returns c =
    let n = c.args.n in
    let fewer : min n 64 ≡ n = omega arith in
    let one = shifted_single n (omega arith) in
    record {
      value = rw (one, fewer);
      members = λ k h. rw one (member_full n k);
    }
