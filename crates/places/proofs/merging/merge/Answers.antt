-- Word by word as the laws say.
use mathlib.Core.Bool.{true, false}
use mathlib.Core.Path.{◌≡◌}
use lib.Bits.{bit_and}
use lib.Dec.{eqb}
use borrow.Author.Tests.{eq-eqb, ne_eqb}
use Rattle.places.specs.Swar.{high_bits}
use Rattle.places.proofs.Joining.{test_is, kept_is, dropped_is}
use Rattle.places.proofs.merging.merge.Goals as goal

pub returns-then-once-agrees : goal.returns-then-once-agrees
returns-then-once-agrees c =
    let f = c.word_of-a.ensures in
    let t = c.word_of-b.ensures in
    let pre = c.requires in
    let no : eqb (bit_and c.once.result c.agrees.result) high_bits ≡ false = ne_eqb _ _ c.if-once-agrees.true in
    record {
      test = cc (no, test_is f t pre.0 pre.1);
      parts = record {
        kept = cc (kept_is f t pre.0 pre.1 c.args.stays);
        dropped = cc (dropped_is f t pre.0 pre.1 c.args.stays);
      };
    }

pub returns : goal.returns
returns c =
    let f = c.word_of-a.ensures in
    let t = c.word_of-b.ensures in
    let pre = c.requires in
    let yes : eqb (bit_and c.once.result c.agrees.result) high_bits ≡ true = eq-eqb _ _ c.if-once-agrees.false in
    record {
      test = cc (yes, test_is f t pre.0 pre.1);
      parts = record {
        kept = cc (kept_is f t pre.0 pre.1 c.args.stays);
        dropped = cc (dropped_is f t pre.0 pre.1 c.args.stays);
      };
    }
