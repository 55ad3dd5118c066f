-- A record that is past already is passed by, and a quiet one makes nothing.
use native.Mathlib.Omega.{arith}
use Rattle.questions.specs.Abstract.{grammar_of, graph_of}
use Rattle.records.proofs.WordLaws.{item_inside}
use Rattle.steps.proofs.ReadyLaws.{count_small, handled_small}
use Rattle.steps.proofs.ListedLaws.{next_done, next_dealt, quiet_added, loud_handled}
use Rattle.steps.proofs.consequences.add_next.Goals as goal

pub returns-then-k-past : goal.returns-then-k-past
returns-then-k-past c = (
  next_done _ c.requires.0.ready.fits _ _ _ c.if-k-past.true,
  c.requires.0.ready,
  omega (arith, c.if-k-past.true),
)

pub edges_at-requires : goal.edges_at-requires
edges_at-requires c = item_inside _ _ c.requires.0.handled.there

pub quiet-requires : goal.quiet-requires
quiet-requires c = (c.requires.1, handled_small _ _ c.requires.0.ready.small c.requires.1)

pub overflow_add-result : goal.overflow_add-result
overflow_add-result c = omega (arith, c.requires.1, count_small _ c.requires.0.ready.small)

pub returns-then-quiet : goal.returns-then-quiet
returns-then-quiet c =
    let s = c.args in
    let p = c.requires in (
      next_dealt s.chart.now _ s.past s.k _ c.if-k-past.false
          (quiet_added (grammar_of s.t.now.run.tables.grammar.words.now) (graph_of s.t.now.run.tables.grammar.words.now s.t.now.run.tables.graph.now) s.j s.chart.now s.k
          _ _ p.0.ready.fits c.edges_at.ensures c.quiet.ensures c.if-quiet.true),
      p.0.ready,
      omega (arith, c.if-k-past.false),
    )

pub add_met-requires : goal.add_met-requires
add_met-requires c = (
  c.requires.0,
  record {
    there = c.requires.1;
    done = loud_handled _ _ _ _ c.quiet.ensures
        c.if-quiet.false;
  },
)
