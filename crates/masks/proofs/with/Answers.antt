-- A shifted 1 is the mask of one number, and an `|` adds it; from 64 on nothing is added, and no member below 64 is e.
use native.Mathlib.Omega.{arith}
use mathlib.Core.Path.{refl, ap, ◌∙◌}
use mathlib.Core.Bool.{or-false}
use lib.Bits.{bit_or}
use borrow.Author.Tests.{ne_eqb}
use Rattle.masks.specs.Masks.{member, ◌∪◌, single}
use Rattle.masks.proofs.Laws.{member_union, member_single, shifted_single}
use Rattle.masks.proofs.with.Goals as goal

pub returns-then-e-ge64 : goal.returns-then-e-ge64
returns-then-e-ge64 c =
    let m = c.args.m in
    let e = c.args.e in
    record {
      value = λ h. absurd (omega arith);
      same = λ h. refl;
      members = λ k h. rw (ne_eqb k e (λ p. omega arith), or-false);
    }

pub returns : goal.returns
unfolding ◌∪◌
returns c =
    let m = c.args.m in
    let e = c.args.e in
    let one = shifted_single e (omega arith) in
    record {
      value = λ h. ap (bit_or m) one;
      same = λ h. absurd (omega arith);
      members = λ k h. ap (λ s. member (m ∪ s) k) one ∙ member_union m (single e) k ∙ rw member_single;
    }
