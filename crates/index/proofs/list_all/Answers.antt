use native.Mathlib.Omega.{arith}
use Rattle.records.specs.Words.{records_at}
use Rattle.records.proofs.WordLaws.{item_inside}
use Rattle.lists.proofs.ListLaws.{listed_ready}
use Rattle.index.specs.Index.{keys_for}
use Rattle.index.proofs.IndexLaws.{listed_first, listed_next, listed_all}
use Rattle.index.proofs.list_all.Goals as goal

pub loop-j-init : goal.loop-j-init
loop-j-init c =
    let s = c.args in
    listed_first s.keys.now s.chart.now s.lists.now c.requires.0

pub item_at-requires : goal.item_at-requires
item_at-requires c = item_inside c.args.chart.now c.loop-j.j
    (omega (arith, c.loop-j-test.true, c.item_count-n.ensures))

pub list_many-requires : goal.list_many-requires
list_many-requires c =
    let s = c.args in
    let l = c.loop-j in (
      listed_ready l.lists (keys_for s.keys.now (records_at s.chart.now l.j)) l.invariant,
      omega (arith, c.loop-j-test.true, c.requires.1, c.item_count-n.ensures),
    )

pub loop-j-preserved : goal.loop-j-preserved
loop-j-preserved c =
    let s = c.args in
    let l = c.loop-j in
    listed_next s.keys.now s.chart.now l.lists _ l.j _ l.invariant
    (omega (arith, c.loop-j-test.true, c.requires.1, c.item_count-n.ensures))
    c.item_at.ensures c.list_many.ensures

pub returns : goal.returns
returns c =
    let s = c.args in
    let l = c.loop-j in
    listed_all s.keys.now s.chart.now l.lists c.item_count-n.result l.j
    c.item_count-n.ensures l.auto.j-end c.loop-j-test.false l.invariant
