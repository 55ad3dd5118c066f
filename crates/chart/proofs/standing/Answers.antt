use mathlib.Core.Path.{refl}
use Rattle.chart.proofs.CallSteps.{fit_accepted, standing_refuses, standing_unknown, standing_is}
use Rattle.chart.proofs.standing.Goals as goal

pub returns-then-not-is_fit : goal.returns-then-not-is_fit
returns-then-not-is_fit c = standing_refuses c.args.grammar.now
    c.args.graph.now
    c.args.chart.now _ c.is_fit.ensures
    c.if-not-is_fit.true

pub invariant_of-t : goal.invariant_of-t
invariant_of-t c = record {
  fit = (fit_accepted _ _ _ _ c.is_fit.ensures c.if-not-is_fit.false).grammar;
}

pub invariant_of-t-2 : goal.invariant_of-t-2
invariant_of-t-2 c = record {
  fit = fit_accepted _ _ _ _ c.is_fit.ensures c.if-not-is_fit.false;
}

pub fill-requires : goal.fill-requires
fill-requires c = refl

pub returns-in-None : goal.returns-in-None
returns-in-None c = standing_unknown c.args.grammar.now c.args.graph.now c.args.chart.now
    _ c.is_fit.ensures c.if-not-is_fit.false _ c.in-None.ensures.0 refl

pub outcome_of-requires : goal.outcome_of-requires
outcome_of-requires c = c.in-Some.ensures.1

pub returns-in-Some : goal.returns-in-Some
returns-in-Some c = standing_is c.args.grammar.now c.args.graph.now c.args.chart.now
    _ c.is_fit.ensures c.if-not-is_fit.false _ c.in-Some.ensures.0
    _ refl c.outcome_of.ensures
