-- A law for each test.
use Rattle.chart.proofs.CallSteps.{fit_size, fit_grammar, fit_graph}
use Rattle.chart.proofs.is_fit.Goals as goal

pub returns-then-not-holds : goal.returns-then-not-holds
returns-then-not-holds c =
    let s = c.args in
    fit_size s.grammar.now s.graph.now s.chart.now _ c.holds.ensures
    c.if-not-holds.true

pub returns-then-not-check_grammar : goal.returns-then-not-check_grammar
returns-then-not-check_grammar c =
    let s = c.args in
    fit_grammar s.grammar.now s.graph.now s.chart.now _ c.holds.ensures
    _ c.check_grammar.ensures c.if-not-holds.false c.if-not-check_grammar.true

pub returns : goal.returns
returns c =
    let s = c.args in
    fit_graph s.grammar.now s.graph.now s.chart.now _ c.holds.ensures
    _ c.check_grammar.ensures c.if-not-holds.false
    _ c.if-not-check_grammar.false c.check_graph.ensures
