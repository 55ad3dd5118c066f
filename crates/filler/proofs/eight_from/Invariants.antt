use mathlib.Core.Path.{◌≡◌}
use lib.ListN.{take}
use Rattle.writing.specs.Filling.{eight}
use Rattle.filler.proofs.Eights.{numbers_of}
use Rattle.filler.proofs.eight_from.Given as goal

abbrev pub invariant-loop-i : goal.invariant-loop-i
invariant-loop-i l = l.row ≡ eight (take l.i (numbers_of l.line l.from l.count))
