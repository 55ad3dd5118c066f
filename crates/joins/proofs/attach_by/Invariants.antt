use mathlib.Core.Path.{◌≡◌}
use Prim.Native.Nat.{◌≤◌}
use lib.ListN.{take}
use Rattle.places.specs.Words.{places_of}
use Rattle.questions.specs.Layout.{rank_at, edge_label, edge_node}
use Rattle.joins.specs.Joins.{edge_nodes, octal}
use Rattle.joins.proofs.EdgeMaps.{MapFrom}
use Rattle.joins.proofs.attach_by.Given as goal

abbrev pub invariant-loop-k : goal.invariant-loop-k
invariant-loop-k l =
    ((l.k ≤ rank_at l.g (edge_label l.g l.r l.i)) × MapFrom (edge_nodes l.g l.r l.i) (take (rank_at l.g (edge_label l.g l.r l.i)) (places_of l.nodes))
    l.k (places_of l.t))
    × (l.rest ≡ octal (λ k. edge_node l.g l.r l.i k) l.k)
