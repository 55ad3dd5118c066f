use Prim.Native.Nat.{◌≤◌}
use Rattle.questions.specs.Layout.{graph_edges}
use Rattle.joins.proofs.GraphLaws.{TouchedTo}
use Rattle.joins.proofs.touched.Given as goal

abbrev pub invariant-loop-b : goal.invariant-loop-b
invariant-loop-b l = (graph_edges l.t.graph.now ≤ 64) × TouchedTo l.t.grammar.words.now l.t.graph.now l.m l.b l.rest l.inside l.outside
