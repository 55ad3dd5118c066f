use Prim.Native.Nat.{◌+◌, ◌*◌}
use mathlib.Core.Path.{◌≡◌}
use lib.ListN.{take}
use lib.Seq.{sets}
use Rattle.format.specs.Writing.{fields_text}
use Rattle.lines.proofs.write_fields.Given as goal

abbrev pub invariant-loop-n : goal.invariant-loop-n
invariant-loop-n l = (l.p ≡ l.at + 4 * l.n-index) × (l.out ≡ sets l.initial.out l.at (fields_text (take l.n-index l.fields)))
