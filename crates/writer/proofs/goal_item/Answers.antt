use native.Mathlib.Omega.{arith}
use Rattle.writer.proofs.Goals.{goal_is, goal_edges, start_few}
use Rattle.writer.proofs.goal_item.Goals as goal

pub overflow_cast-result : goal.overflow_cast-result
overflow_cast-result c = omega (arith, start_few _ _ _ c.args.t.now.fit c.start_symbol.ensures)

pub returns : goal.returns
returns c = goal_is _ _ _ _ _ c.external_nodes-nodes.ensures c.start_symbol.ensures
    (goal_edges c.args.t.now.grammar.words.now c.args.t.now.graph.now _ _ c.args.t.now.fit
    c.graph_edges.ensures c.full.ensures.value)
