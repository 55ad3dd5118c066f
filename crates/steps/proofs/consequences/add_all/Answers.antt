-- A record is tried only with what can make something of it (proofs/KindLaws).
use mathlib.Core.Path.{ap}
use Rattle.index.specs.declared.Index.{Index}
use Rattle.records.proofs.WordLaws.{item_inside}
use Rattle.steps.proofs.KindLaws.{Alone, alone_same, alone_passive, alone_child, all_root, alone_joining, alone_room, alone_all}
use Rattle.steps.proofs.consequences.add_all.Goals as goal
use Rattle.steps.proofs.consequences.add_all.Goals.{Joined-x-eq0, then-x-eq0+else-w-ge-PER_RULE, else-x-eq0}

pub item_at-x-requires : goal.item_at-x-requires
item_at-x-requires c = item_inside _ _ c.requires.2.there

pub add_root-requires : goal.add_root-requires
add_root-requires c = (c.requires.1, c.requires.2)

pub returns-then-w-ge-PER_RULE : goal.returns-then-w-ge-PER_RULE
returns-then-w-ge-PER_RULE c = all_root c.requires c.item_at-x.ensures c.if-x-eq0.true
    c.parent_in-w.ensures c.if-w-ge-PER_RULE.true c.add_root.ensures

-- where the ways meet
met : (c : Joined-x-eq0)
    → let s = c.args in
    Alone s.t.now.run.tables.grammar.words.now s.t.now.run.tables.graph.now s.t.now.keys.now s.chart.now s.j c.if-x-eq0.chart c.if-x-eq0.index.words
    c.if-x-eq0.index.lists c.if-x-eq0.lead
met c =
    let own = c.item_at-x.ensures in
    elim c.if-x-eq0.branch [
      | then-x-eq0+else-w-ge-PER_RULE w ↦ alone_same w.chart-is (ap (λ (x : Index). x.words) w.index-is) (ap (λ (x : Index). x.lists) w.index-is) w.lead-is
          (alone_child c.requires own w.if-x-eq0.true w.parent_in-w.ensures w.if-w-ge-PER_RULE.false w.add_terminals.ensures)
      | else-x-eq0 w ↦ alone_same w.chart-is (ap (λ (x : Index). x.words) w.index-is) (ap (λ (x : Index). x.lists) w.index-is) w.lead-is (alone_passive c.requires own w.if-x-eq0.false)
    ]

pub add_each-requires : goal.add_each-requires
add_each-requires c =
    let A = met (goal.at.add_each-requires c).Joined-x-eq0 in
    (alone_joining c.requires A, alone_room c.requires A c.item_count-n.ensures)

pub returns : goal.returns
returns c =
    alone_all c.requires (met (goal.at.returns c).Joined-x-eq0) c.item_count-n.ensures c.add_each.ensures
