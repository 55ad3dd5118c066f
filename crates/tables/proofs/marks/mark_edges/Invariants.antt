use mathlib.Core.Path.{◌≡◌}
use Rattle.tables.specs.Marks.{marks, nodes_from}
use Rattle.tables.proofs.marks.mark_edges.Given as goal

abbrev pub invariant-loop-i : goal.invariant-loop-i
invariant-loop-i l = l.mask ≡ marks 0 (nodes_from l.g l.t l.p l.i)
