-- First the words of edges, then those of groups, and the one of external nodes.
use mathlib.Core.Path.{sym, subst}
use mathlib.Core.List.{List}
use Prim.Native.Nat.{ℕ}
use Rattle.joins.specs.Graphs.{Indexed}
use Rattle.joins.proofs.GraphLaws.{indexed_none, table_is}
use Rattle.joins.proofs.graphs.fill.Goals as goal

pub mark_edges-requires : goal.mark_edges-requires
mark_edges-requires c = subst (λ (words : List ℕ). Indexed c.args.t.now.grammar.words.now
    c.args.t.now.graph.now words 0) (sym c.requires)
    (indexed_none c.args.t.now.grammar.words.now c.args.t.now.graph.now)

pub returns : goal.returns
returns c = table_is _ _ _ _ _ _ c.args.t.now.fit c.mark_edges.ensures c.edge_sets-sets.ensures
    c.put_groups.ensures c.graph_externals-externals.ensures
