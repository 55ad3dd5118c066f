use Prim.Native.Nat.{◌^◌, ◌<◌}
use mathlib.Core.Path.{◌≡◌}
use Rattle.replayer.specs.Fitting.{new_in, with_all}
use Rattle.replayer.specs.Rows.{side_of, new_of}
use Rattle.replayer.proofs.InnerNodes.{inner_from}
use Rattle.replayer.proofs.fitting.with_inner.Given as goal

abbrev pub invariant-loop-x : goal.invariant-loop-x
invariant-loop-x l = (l.nodes < 2 ^ 64) ×
    (new_in l.nodes (inner_from (side_of l.row) l.row.fields.now l.x) ≡ new_in l.used (new_of l.row)) ×
    (with_all l.nodes (inner_from (side_of l.row) l.row.fields.now l.x) ≡ with_all l.used (new_of l.row))
