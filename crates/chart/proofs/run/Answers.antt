use mathlib.Core.Path.{refl, ap, ◌∙◌}
use mathlib.Core.Bool.{not}
use Rattle.chart.proofs.CallSteps.{fit_accepted, fit_runnable, run_refuses, run_unknown, run_ran}
use Rattle.chart.proofs.run.Goals as goal

pub returns-then-not-is_fit : goal.returns-then-not-is_fit
returns-then-not-is_fit c =
    let s = c.args in
    run_refuses s.grammar.now s.graph.now s.chart.now s.steps _ c.is_fit.ensures
    c.if-not-is_fit.true

pub invariant_of-t : goal.invariant_of-t
invariant_of-t c = record {
  fit = (fit_accepted _ _ _ _ c.is_fit.ensures c.if-not-is_fit.false).grammar;
}

pub invariant_of-t-2 : goal.invariant_of-t-2
invariant_of-t-2 c = record {
  fit = fit_accepted _ _ _ _ c.is_fit.ensures c.if-not-is_fit.false;
}

pub fill-requires : goal.fill-requires
fill-requires c = refl

pub returns-then-is_none : goal.returns-then-is_none
returns-then-is_none c =
    let s = c.args in
    run_unknown s.grammar.now s.graph.now s.chart.now s.steps _ c.is_fit.ensures
    c.if-not-is_fit.false _ c.known.ensures.0 (c.is_none.ensures ∙ ap not c.if-is_none.true)

pub advance-all-requires : goal.advance-all-requires
advance-all-requires c =
    let s = c.args in
    fit_runnable s.grammar.now s.graph.now s.chart.now _ c.is_fit.ensures
    c.if-not-is_fit.false _ c.known.ensures.0 (c.is_none.ensures ∙ ap not c.if-is_none.false)

pub returns : goal.returns
returns c =
    let s = c.args in
    run_ran s.grammar.now s.graph.now s.chart.now s.steps _ c.is_fit.ensures
    c.if-not-is_fit.false _ c.known.ensures.0
    _ _ (c.is_none.ensures ∙ ap not c.if-is_none.false) c.advance-all.ensures.0 c.outcome_after.ensures
