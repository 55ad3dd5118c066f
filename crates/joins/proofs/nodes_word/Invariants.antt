use mathlib.Core.Path.{◌≡◌}
use Rattle.questions.specs.Layout.{rank_at, edge_label, edge_node}
use Rattle.joins.specs.Joins.{octal}
use Rattle.joins.proofs.nodes_word.Given as goal

abbrev pub invariant-loop-k : goal.invariant-loop-k
invariant-loop-k l = (l.rank ≡ rank_at l.g (edge_label l.g l.r l.i)) × (l.w ≡ octal (λ k. edge_node l.g l.r l.i k) l.k)
