-- Line after line with the set of their nodes, which answers question 6 for the last (proofs/EdgeLines).
use native.Mathlib.Omega.{arith}
use mathlib.Core.List.{[]}
use Rattle.questions.specs.Layout.{grammar_words}
use Rattle.tables.proofs.Leading.{reaches_no}
use Rattle.tables.proofs.EdgeLines.{rule_lines_lem, passed_none, passed_more, passed_no, passed_reaches}
use Rattle.tables.proofs.checking.check_edges.Goals as goal

pub loop-i-init : goal.loop-i-init
loop-i-init c = passed_none grammar_words [] _ _ _ _ _ _ _ (rule_lines_lem _ _ _ c.requires.1)

pub returns-in_default : goal.returns-in_default
returns-in_default c = reaches_no grammar_words [] _ _ _ _ _ (passed_no grammar_words [] _ _ _ _ _ _ _ (rule_lines_lem _ _ _ c.requires.1)
    _ _ c.loop-i.invariant c.loop-i-test.true c.in_default.ensures)

pub loop-i-preserved : goal.loop-i-preserved
loop-i-preserved c = passed_more grammar_words [] _ _ _ _ _ _ _ (rule_lines_lem _ _ _ c.requires.1)
    _ _ c.loop-i.invariant _ c.in-Some.ensures

pub returns : goal.returns
returns c =
    let pre = c.requires in
    passed_reaches grammar_words [] _ _ _ _ _ _ _ (rule_lines_lem _ _ _ pre.1) _ _ c.loop-i.invariant
    pre.1.some (omega arith) _ c.rule_nodes_in-nodes.ensures _ c.has_all.ensures
    _ (omega arith)
