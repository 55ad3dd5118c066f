-- The test is the definition's, and the two laws of the definition are the two directions.
use mathlib.Core.Path.{refl}
use lib.Bits.{bit_and}
use lib.Dec.{eqb→eq}
use borrow.Author.Tests.{eq-eqb}
use Rattle.masks.specs.Masks.{disjoint}
use Rattle.masks.proofs.Laws.{disjoint_holds, holds_disjoint}
use Rattle.masks.proofs.disjoint.Goals as goal

pub returns : goal.returns
unfolding disjoint
returns c =
    let a = c.args.a in
    let b = c.args.b in
    record {
      value = refl;
      sound = λ h. disjoint_holds a b (rw h tt);
      complete = λ d. eq-eqb (bit_and a b) 0 (eqb→eq (bit_and a b) 0 (holds_disjoint a b d));
    }
