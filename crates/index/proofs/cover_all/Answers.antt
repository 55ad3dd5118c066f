use native.Mathlib.Omega.{arith}
use borrow.Author.Rules.{rules}
use Rattle.records.specs.Words.{chart_of}
use Rattle.records.proofs.WordLaws.{item_inside}
use Rattle.index.proofs.CoverLaws.{indexed_doubted, covered_doubted, covered_first, covered_next, covered_all}
use Rattle.index.proofs.cover_all.Goals as goal

pub loop-j-init : goal.loop-j-init
loop-j-init c = (
  covered_first c.args.t.now.tables.grammar.words.now
      c.args.t.now.tables.graph.now
      c.args.chart.now
      c.args.index.now,
  λ keys ls rs I. I,
)

pub item_at-requires : goal.item_at-requires
item_at-requires c = item_inside c.args.chart.now c.loop-j.j
    (omega (arith, c.loop-j-test.true, c.item_count-n.ensures))

pub returns-then-not-covers : goal.returns-then-not-covers
returns-then-not-covers c =
    let l = c.loop-j in (
      covered_doubted c.args.t.now.tables.grammar.words.now c.args.t.now.tables.graph.now l.index
          (chart_of c.args.chart.now).records (search rules),
      λ keys ls rs I. indexed_doubted l.index 1 keys ls rs (l.invariant.1 keys ls rs I),
    )

pub loop-j-preserved : goal.loop-j-preserved
loop-j-preserved c =
    let s = c.args in
    let l = c.loop-j in (
      covered_next s.t.now.tables.grammar.words.now s.t.now.tables.graph.now s.chart.now l.index l.j
          _ c.item_at.ensures (c.covers.ensures c.if-not-covers.false) l.invariant.0,
      l.invariant.1,
    )

pub returns : goal.returns
returns c =
    let l = c.loop-j in (
      covered_all c.args.t.now.tables.grammar.words.now c.args.t.now.tables.graph.now c.args.chart.now l.index
          c.item_count-n.result l.j c.item_count-n.ensures l.auto.j-end
          c.loop-j-test.false l.invariant.0,
      l.invariant.1,
    )
