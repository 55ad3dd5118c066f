use mathlib.Core.Path.{◌≡◌}
use Rattle.places.specs.Words.{places_of}
use Rattle.questions.specs.Layout.{rank_at, graph_label, graph_node}
use Rattle.joins.proofs.MapLaws.{Placed}
use Rattle.rules.proofs.edge_nodes.Given as goal

abbrev pub invariant-loop-k : goal.invariant-loop-k
invariant-loop-k l = (l.rank ≡ rank_at l.t.grammar.words.now (graph_label l.t.graph.now l.e)) × Placed (λ k. graph_node l.t.graph.now l.e k) l.k (places_of l.l)
