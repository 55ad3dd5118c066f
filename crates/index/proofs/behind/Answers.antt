use native.Mathlib.Omega.{arith}
use mathlib.Core.Path.{ap, ◌∙◌}
use Rattle.records.specs.Words.{chart_of, appended_to}
use Rattle.index.proofs.IndexLaws.{indexed_ready}
use Rattle.index.proofs.AddLaws.{number, behind_room, behind_full, room_covered, full_covered}
use Rattle.index.proofs.behind.Goals as goal

pub enter-requires : goal.enter-requires
enter-requires c = (
  indexed_ready c.args.keys.now c.args.index.now c.args.lists.now
      (chart_of c.args.chart.now).records c.requires.0,
  omega (arith, c.if-n-capacity_of.true, c.capacity_of.ensures, c.requires.1),
  c.requires.2,
  c.requires.3,
)

pub returns-then-n-capacity_of : goal.returns-then-n-capacity_of
returns-then-n-capacity_of c =
    let s = c.args in
    let n = c.item_count-n in
    let cap = c.capacity_of in
    let x = s.x in
    let both = c.enter.ensures (chart_of s.chart.now).records c.requires.0
    (number s.chart.now n.result n.ensures) in (
      c.append.ensures ∙ ap (λ k. appended_to s.chart.now k x) n.ensures,
      behind_room s.keys.now s.chart.now c.enter.new.index
          c.enter.new.lists x n.result cap.result n.ensures cap.ensures
          c.if-n-capacity_of.true both.0,
      λ g h C f. room_covered s.keys.now s.chart.now s.index.now
          s.lists.now x n.result cap.result n.ensures cap.ensures g h
          c.enter.new.index c.if-n-capacity_of.true both.1 C f,
    )

pub returns : goal.returns
returns c =
    let s = c.args in
    let n = c.item_count-n in
    let cap = c.capacity_of in
    let x = s.x in (
      c.append-2.ensures ∙ ap (λ k. appended_to s.chart.now k x) n.ensures,
      behind_full s.keys.now s.chart.now s.index.now s.lists.now x n.result cap.result
          n.ensures cap.ensures c.if-n-capacity_of.false c.requires.0,
      λ g h C f. full_covered s.keys.now s.chart.now s.index.now s.lists.now x n.result
          cap.result n.ensures cap.ensures g h c.if-n-capacity_of.false C,
    )
