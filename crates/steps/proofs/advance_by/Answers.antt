-- Each turn is a step of the model; where none is left, the steps given beyond change nothing.
use native.Mathlib.Omega.{arith}
use mathlib.Core.Path.{refl, ◌∙◌}
use mathlib.Core.Bool.{false≢true}
use Rattle.questions.specs.Abstract.{grammar_of, graph_of}
use Rattle.questions.proofs.WellFormedLent.{checked_grammar_ok}
use Rattle.joins.proofs.Known.{graph_ok}
use Rattle.validity.proofs.KnownCharts.{known_records}
use Rattle.steps.proofs.RunLaws.{ran_none, ran_step, ran_idle, ran_all, step_idle}
use Rattle.steps.proofs.advance_by.Goals as goal

pub loop-i-init : goal.loop-i-init
loop-i-init c =
    let s = c.args in
    let G = grammar_of s.t.now.run.tables.grammar.words.now in
    let H = graph_of s.t.now.run.tables.grammar.words.now s.t.now.run.tables.graph.now in (
      refl,
      ran_none G H s.chart.now c.requires.1.fits,
      c.requires.1,
    )

pub step-requires : goal.step-requires
step-requires c = (c.requires.0, c.loop-i.invariant.2)

pub returns-then-not-step : goal.returns-then-not-step
returns-then-not-step c =
    let s = c.args in
    let G = grammar_of s.t.now.run.tables.grammar.words.now in
    let H = graph_of s.t.now.run.tables.grammar.words.now s.t.now.run.tables.graph.now in (
      ran_idle G H s.chart.now c.loop-i._i c.loop-i.chart c.loop-i.invariant.1 s.steps
          c.step.result _ c.loop-i.auto._i-end c.if-not-step.true-raw c.step.ensures.0
          c.step.ensures.1,
      λ e. step_idle G H c.loop-i.chart _ c.loop-i.invariant.2.fits
          c.step.result c.if-not-step.true-raw c.step.ensures.0 c.step.ensures.1,
    )

pub loop-i-preserved : goal.loop-i-preserved
loop-i-preserved c =
    let s = c.args in
    let G = grammar_of s.t.now.run.tables.grammar.words.now in
    let H = graph_of s.t.now.run.tables.grammar.words.now s.t.now.run.tables.graph.now in
    let A = c.requires.0.accepted in
    let R = c.loop-i.invariant.2 in (
      c.step.auto.chart ∙ c.loop-i.invariant.0,
      ran_step G H s.chart.now c.loop-i._i c.loop-i.chart c.loop-i.invariant.1
          (checked_grammar_ok s.t.now.run.tables.grammar.words.now A.grammar) (graph_ok s.t.now.run.tables.grammar.words.now s.t.now.run.tables.graph.now A) (c.requires.1.small)
          (known_records G H _ R.fits R.known) _ _ (omega arith) c.step.ensures.1,
      c.step.ensures.2,
    )

pub returns : goal.returns
returns c =
    let s = c.args in
    let G = grammar_of s.t.now.run.tables.grammar.words.now in
    let H = graph_of s.t.now.run.tables.grammar.words.now s.t.now.run.tables.graph.now in (
      ran_all G H s.chart.now c.loop-i._i c.loop-i.chart c.loop-i.invariant.1 s.steps
          (omega (arith, c.loop-i-test.false, c.loop-i.auto._i-end)),
      λ e. absurd (false≢true e),
    )
