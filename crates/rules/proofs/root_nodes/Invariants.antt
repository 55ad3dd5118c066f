use mathlib.Core.Path.{◌≡◌}
use lib.ListN.{take}
use Rattle.hrg.specs.Trees.{at}
use Rattle.places.specs.Words.{places_of}
use Rattle.questions.specs.Layout.{rank_at, rule_symbol, rule_nodes, rule_external}
use Rattle.joins.proofs.MapLaws.{Placed}
use Rattle.rules.proofs.root_nodes.Given as goal

abbrev pub invariant-loop-k : goal.invariant-loop-k
invariant-loop-k l =
    (l.rank ≡ rank_at l.g.words.now (rule_symbol l.g.words.now l.r)) × Placed (λ k. at (take (rule_nodes l.g.words.now l.r) (places_of l.map)) (rule_external l.g.words.now l.r k)) l.k (places_of l.l)
