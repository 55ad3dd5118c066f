-- Line after line with the set of their nodes, which answers question 6 for the last, and the words behind it
-- (proofs/EdgeLines).
use native.Mathlib.Omega.{arith}
use Rattle.questions.specs.Layout.{graph_words}
use Rattle.tables.proofs.Leading.{concludes_no, concludes_on, concludes_last}
use Rattle.tables.proofs.EdgeLines.{graph_lines_lem, passed_none, passed_more, passed_no, passed_uncovered, passed_all}
use Rattle.tables.proofs.checking.check_graph_edges.Goals as goal

pub loop-e-init : goal.loop-e-init
loop-e-init c = passed_none graph_words _ _ _ _ _ _ _ _ (graph_lines_lem _ _ _ c.requires.1)

pub returns-in_default : goal.returns-in_default
returns-in_default c = concludes_no graph_words _ _ _ _ (passed_no graph_words _ _ _ _ _ _ _ _ (graph_lines_lem _ _ _ c.requires.1)
    _ _ c.loop-e.invariant c.loop-e-test.true c.in_default.ensures)

pub loop-e-preserved : goal.loop-e-preserved
loop-e-preserved c = passed_more graph_words _ _ _ _ _ _ _ _ (graph_lines_lem _ _ _ c.requires.1)
    _ _ c.loop-e.invariant _ c.in-Some.ensures

pub returns-then-not-has_all : goal.returns-then-not-has_all
returns-then-not-has_all c =
    let pre = c.requires in
    concludes_no graph_words _ _ _ _ (passed_uncovered graph_words _ _ _ _ _ _ _ _ (graph_lines_lem _ _ _ pre.1)
    _ _ c.loop-e.invariant pre.1.some (omega arith) _ c.graph_nodes_in-nodes.ensures
    _ c.has_all.ensures c.if-not-has_all.true-raw)

pub returns : goal.returns
returns c =
    let pre = c.requires in
    concludes_on graph_words _ _ _ _ _ _ (passed_all graph_words _ _ _ _ _ _ _ _ (graph_lines_lem _ _ _ pre.1)
    _ _ c.loop-e.invariant pre.1.some (omega arith) _ c.graph_nodes_in-nodes.ensures
    _ c.has_all.ensures c.if-not-has_all.false-raw _ (omega arith))
    _ (concludes_last graph_words _ _ _ _ c.zeros.ensures)
