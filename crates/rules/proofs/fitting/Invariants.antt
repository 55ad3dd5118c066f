use mathlib.Core.Path.{◌≡◌}
use lib.ListN.{get_or}
use Rattle.places.specs.Words.{places_of}
use Rattle.questions.specs.Layout.{edge_node}
use Rattle.rules.proofs.CandidateLaws.{fitted}
use Rattle.rules.proofs.fitting.Given as goal

abbrev pub invariant-loop-k : goal.invariant-loop-k
invariant-loop-k l = l.rest ≡ fitted l.t.graph.now (λ k. get_or (places_of l.map) (edge_node l.t.tables.grammar.words.now l.of l.i k) 0) l.k l.m
