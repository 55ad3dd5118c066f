-- The letter, the fields and the line feed, as one text.
use native.Mathlib.Omega.{arith}
use Prim.Native.Nat.{ℕ}
use mathlib.Core.Path.{◌≡◌, ap, ◌∙◌}
use mathlib.Core.List.{List}
use lib.ListN.{length, take, set, length-set}
use lib.Seq.{length-take-le}
use Rattle.format.proofs.WritingLaws.{line_sets}
use Rattle.lines.proofs.write_line.Goals as goal

pub write_fields-p-requires : goal.write_fields-p-requires
write_fields-p-requires c =
    let a = c.args in
    omega (arith, length-take-le a.count a.fields.now c.requires.0, length-set a.out.now a.at a.letter)

pub bounds-out-p : goal.bounds-out-p
bounds-out-p c =
    let a = c.args in
    omega (arith, length-take-le a.count a.fields.now c.requires.0, length-set a.out.now a.at a.letter)

pub returns : goal.returns
returns c =
    let a = c.args in
    let p = c.write_fields-p.result in
    let ns = take a.count a.fields.now in
    let size : length ns ≡ a.count = length-take-le a.count a.fields.now c.requires.0 in (
      omega arith,
      ap (λ (l : List ℕ). set l p 10) c.write_fields-p.ensures.1 ∙ line_sets a.out.now a.at a.letter ns p (omega arith),
    )
