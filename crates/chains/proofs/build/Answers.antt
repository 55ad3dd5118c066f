use native.Mathlib.Omega.{arith}
use Rattle.records.proofs.WordLaws.{item_inside}
use Rattle.chains.proofs.ChainLaws.{chained_first, chained_next, chained_all}
use Rattle.chains.proofs.build.Goals as goal

pub loop-j-init : goal.loop-j-init
loop-j-init c = chained_first c.args.chart.now _ c.requires.0

pub item_at-requires : goal.item_at-requires
item_at-requires c = item_inside c.args.chart.now c.loop-j.j
    (omega (arith, c.loop-j-test.true, c.item_count-n.ensures))

pub link-requires : goal.link-requires
link-requires c = (
  c.loop-j.invariant.words,
  omega (
    arith,
    c.loop-j-test.true,
    c.requires.1,
    c.item_count-n.ensures,
  ),
  c.hash-h.ensures.1,
)

pub loop-j-preserved : goal.loop-j-preserved
loop-j-preserved c =
    let s = c.args in
    let l = c.loop-j in
    chained_next s.chart.now l.links _ c.item_count-n.result l.j
    c.hash-h.result c.item_at.result l.invariant
    c.item_count-n.ensures c.loop-j-test.true
    (omega (arith, c.requires.1, c.item_count-n.ensures)) c.item_at.ensures
    c.hash-h.ensures.0 c.link.ensures

pub returns : goal.returns
returns c = chained_all c.args.chart.now c.loop-j.links
    c.item_count-n.result c.loop-j.j c.item_count-n.ensures
    c.loop-j.auto.j-end c.loop-j-test.false c.loop-j.invariant
