use mathlib.Core.Path.{◌≡◌}
use Rattle.places.specs.Words.{places_of}
use Rattle.questions.specs.Layout.{rank_at, start_symbol, graph_external}
use Rattle.joins.proofs.MapLaws.{Placed}
use Rattle.writer.proofs.external_nodes.Given as goal

abbrev pub invariant-loop-k : goal.invariant-loop-k
invariant-loop-k l =
    (l.rank ≡ rank_at l.t.grammar.words.now (start_symbol l.t.grammar.words.now)) × Placed
    (λ k. graph_external l.t.graph.now k) l.k (places_of l.l)
