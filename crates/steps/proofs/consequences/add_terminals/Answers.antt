-- What is made with the graph edges so far.
use native.Mathlib.Omega.{arith}
use mathlib.Core.Path.{refl, ◌∙◌}
use Rattle.records.proofs.WordLaws.{item_inside}
use Rattle.steps.proofs.CandidateSteps.{edges_skipped, edge_start, edge_handled, edge_candidates, edge_next, edge_end}
use Rattle.steps.proofs.consequences.add_terminals.Goals as goal

pub item_at-x-requires : goal.item_at-x-requires
item_at-x-requires c = item_inside _ _ c.requires.2.there

pub candidates-m-requires : goal.candidates-m-requires
candidates-m-requires c = c.want_of-want.ensures

pub returns-then-m-eq0 : goal.returns-then-m-eq0
returns-then-m-eq0 c = edges_skipped c.requires c.item_at-x.ensures c.candidates-m.ensures c.if-m-eq0.true

pub loop-e-init : goal.loop-e-init
loop-e-init c = (refl, edge_start c.requires)

pub add_candidate-requires : goal.add_candidate-requires
add_candidate-requires c =
    let E = c.loop-e.invariant.1 in
    let p = c.requires in (
      p.0,
      E.ready,
      edge_handled p E,
      edge_candidates p E c.item_at-x.ensures
          c.candidates-m.ensures,
      omega (
        arith,
        c.loop-e-test.true,
        c.graph_edges-n.ensures,
      ),
    )

pub loop-e-preserved : goal.loop-e-preserved
loop-e-preserved c =
    let l = c.loop-e in
    let a = c.add_candidate in (
      a.auto.chart ∙ l.invariant.0,
      edge_next c.requires l.invariant.1 (omega (
        arith,
        c.loop-e-test.true,
        c.graph_edges-n.ensures,
      )) a.ensures,
    )

pub returns : goal.returns
returns c = edge_end c.requires c.loop-e.invariant.1 c.graph_edges-n.ensures
    c.loop-e.auto.e-end c.loop-e-test.false
