-- A loop that stops at the first field without a number.
use native.Mathlib.Omega.{arith}
use mathlib.Core.Path.{sym}
use lib.Dec.{leb}
use borrow.Author.Tests.{lt-leb}
use Rattle.format.specs.Fields.{number_of}
use Rattle.format.proofs.TestLaws.{all_no}
use Rattle.lines.proofs.all_numbers.Goals as goal

pub returns-then-number-gt9999 : goal.returns-then-number-gt9999
returns-then-number-gt9999 c =
    let line = c.args.line.now in
    let k = c.loop-k.k in
    sym (all_no c.args.count k (λ i. leb (number_of line i) 9999) c.loop-k-test.true
    (lt-leb (number_of line k) 9999 (omega arith)))
