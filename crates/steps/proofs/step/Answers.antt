-- The record that is taken is handled, and all that it makes is added.
use Rattle.questions.specs.Abstract.{grammar_of, graph_of}
use Rattle.steps.proofs.ReadyLaws.{records_small, handled_now_lem}
use Rattle.steps.proofs.KnownLaws.{step_whole}
use Rattle.steps.proofs.StepLaws.{step_by}
use Rattle.steps.proofs.RunLaws.{next_known, step_marked, step_some, step_none}
use Rattle.steps.proofs.step.Goals as goal

pub take-requires : goal.take-requires
take-requires c = (c.requires.1.indexed.ranked, records_small _ c.requires.1.small)

pub add_all-requires : goal.add_all-requires
add_all-requires c =
    let s = c.args in
    let p = c.requires in
    let t = c.take in
    let e = c.in-Some.is in
    let l = next_known s.chart.now _ t.result e t.ensures.0 in
    let R = t.ensures.2 s.t.now.run.tables.grammar.words.now s.t.now.run.tables.graph.now s.t.now.keys.now p.1 in
    (p.0, R, handled_now_lem s.chart.now _ _ l (step_marked s.chart.now _ t.result _ e t.ensures.1))

pub returns-in-None : goal.returns-in-None
returns-in-None c =
    let s = c.args in
    let p = c.requires in
    let t = c.take in
    let G = grammar_of s.t.now.run.tables.grammar.words.now in
    let H = graph_of s.t.now.run.tables.grammar.words.now s.t.now.run.tables.graph.now in
    let r = step_none G H s.chart.now _ t.result t.ensures.0 p.1.fits c.in-None.is
    t.ensures.1 in
    (r.0, r.1, t.ensures.2 s.t.now.run.tables.grammar.words.now s.t.now.run.tables.graph.now s.t.now.keys.now p.1)

pub returns-in-Some : goal.returns-in-Some
returns-in-Some c =
    let s = c.args in
    let t = c.take in
    let e = c.in-Some.is in
    let l = next_known s.chart.now _ t.result e t.ensures.0 in
    let G = grammar_of s.t.now.run.tables.grammar.words.now in
    let H = graph_of s.t.now.run.tables.grammar.words.now s.t.now.run.tables.graph.now in
    let p = c.requires in
    let done = step_by G H s.chart.now p.1.fits _ l
    (step_whole s.t.now.run.tables.grammar.words.now s.t.now.run.tables.graph.now p.0.accepted s.chart.now p.1.known p.1.small p.1.fits
    _ l) _ _ (step_marked s.chart.now _ t.result _ e t.ensures.1)
    c.add_all.ensures.0 in
    let r = step_some G H s.chart.now _ t.result t.ensures.0 _ e done in
    (r.0, r.1, c.add_all.ensures.1)
