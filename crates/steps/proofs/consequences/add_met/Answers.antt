-- A record that is past already is passed by; with any other, the one order that can make something is tried.
use native.Mathlib.Omega.{arith}
use Prim.Native.Nat.{ℕ}
use Rattle.questions.specs.Abstract.{graph_of}
use Rattle.steps.specs.Ready.{Handled}
use Rattle.steps.proofs.ReadyLaws.{count_small}
use Rattle.steps.proofs.PartnerLaws.{pick_by, partner_led}
use Rattle.steps.proofs.ListedLaws.{next_done, next_dealt}
use Rattle.steps.proofs.consequences.add_met.Goals as goal

pub returns-then-k-past : goal.returns-then-k-past
returns-then-k-past c =
    let s = c.args in (
      next_done s.chart.now c.requires.0.ready.fits s.past s.k _ c.if-k-past.true,
      c.requires.0.ready,
      omega (arith, c.if-k-past.true),
    )

pub add_pair-requires : goal.add_pair-requires
add_pair-requires c =
    let s = c.args in
    let p = c.requires in
    let handled : ℕ → Type 0 = Handled s.chart.now in (
      p.0.tables,
      p.0.ready,
      pick_by handled s.lead s.j s.k c.pick-first.result c.pick-first.ensures p.0.handled
          p.1,
      pick_by handled s.lead s.k s.j c.pick-second.result c.pick-second.ensures p.1
          p.0.handled,
    )

pub overflow_add-result : goal.overflow_add-result
overflow_add-result c = omega (arith, c.requires.1.there, count_small _ c.requires.0.ready.small)

pub returns : goal.returns
returns c =
    let s = c.args in (
      next_dealt s.chart.now _ s.past s.k _ c.if-k-past.false
          (partner_led s.t.now.run.tables.grammar.words.now (graph_of s.t.now.run.tables.grammar.words.now s.t.now.run.tables.graph.now) s.chart.now s.j s.k s.lead
          c.requires.0.leads _ c.pick-first.result c.pick-second.result c.requires.1.done
          c.pick-first.ensures c.pick-second.ensures c.add_pair.ensures.0),
      c.add_pair.ensures.1,
      omega (arith, c.if-k-past.false),
    )
