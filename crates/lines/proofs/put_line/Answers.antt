-- Nothing is stored before all tests have passed.
use native.Mathlib.Omega.{arith}
use mathlib.Core.Path.{◌≡◌, sym, ◌∙◌}
use lib.ListN.{length, take}
use lib.Seq.{length-take-le}
use Rattle.format.proofs.WritingLaws.{line_text_length, line_room, put_made}
use Rattle.lines.proofs.put_line.Goals as goal

pub returns-then-has_room : goal.returns-then-has_room
returns-then-has_room c =
    let a = c.args in
    let ns = take a.count a.fields in
    let size : length ns ≡ a.count = length-take-le a.count a.fields (omega arith) in
    put_made _ _ _ _ _ _
    (line_room _ _ _ _ _ c.if-count-le18.true (sym c.is_writable.ensures ∙ c.if-is_writable.true) ∙ sym
    c.has_room.ensures ∙ c.if-has_room.true)
    (omega (arith, line_text_length a.letter ns))
    c.write_line.ensures.1
