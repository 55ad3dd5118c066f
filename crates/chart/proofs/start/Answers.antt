-- A law for each answer.
use Rattle.chart.proofs.CallSteps.{fit_accepted, fit_header, start_refuses, start_small, start_done}
use Rattle.chart.proofs.start.Goals as goal

pub returns-then-not-is_fit : goal.returns-then-not-is_fit
returns-then-not-is_fit c =
    let s = c.args in
    start_refuses s.grammar.now s.graph.now s.chart.now _ c.is_fit.ensures
    c.if-not-is_fit.true

pub invariant_of-g : goal.invariant_of-g
invariant_of-g c = record {
  fit = (fit_accepted _ _ _ _ c.is_fit.ensures c.if-not-is_fit.false).grammar;
}

pub restart-requires : goal.restart-requires
restart-requires c =
    let s = c.args in
    fit_header s.grammar.now s.graph.now s.chart.now _ c.is_fit.ensures c.if-not-is_fit.false

pub returns-then-mark_of-ne0 : goal.returns-then-mark_of-ne0
returns-then-mark_of-ne0 c =
    let s = c.args in
    start_small s.grammar.now s.graph.now s.chart.now _ c.is_fit.ensures
    c.if-not-is_fit.false _ c.restart.ensures _ c.mark_of.ensures
    c.if-mark_of-ne0.true

pub returns : goal.returns
returns c =
    let s = c.args in
    start_done s.grammar.now s.graph.now s.chart.now _ c.is_fit.ensures
    c.if-not-is_fit.false _ c.restart.ensures _ c.mark_of.ensures
    c.if-mark_of-ne0.false
