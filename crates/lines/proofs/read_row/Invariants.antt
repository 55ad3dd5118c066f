use mathlib.Core.Path.{◌≡◌}
use lib.ListN.{take, drop}
use Rattle.format.specs.Fields.{fields_of}
use Rattle.lines.proofs.read_row.Given as goal

abbrev pub invariant-loop-k : goal.invariant-loop-k
invariant-loop-k l = (take l.k l.row ≡ take l.k (fields_of l.line)) × (drop l.count l.row ≡ drop l.count l.initial.row)
