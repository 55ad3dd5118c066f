-- A marked chart stays; a record that is found again is improved, a new one comes behind the others.
use native.Mathlib.Omega.{arith}
use mathlib.Core.Path.{subst}
use Rattle.agenda.specs.declared.Record.{Record}
use Rattle.agenda.specs.Records.{new_record}
use Rattle.records.specs.Words.{Compact}
use Rattle.records.proofs.WordLaws.{add_marked}
use Rattle.index.proofs.AddLaws.{small, found_inside, adds_again, adds_behind}
use Rattle.index.proofs.add.Goals as goal

pub returns-then-mark_of-ne0 : goal.returns-then-mark_of-ne0
returns-then-mark_of-ne0 c = record {
  compact = rw c.new_record-x.ensures.0 at c.new_record-x.ensures.1;
  chart = add_marked _ _ _ c.mark_of.ensures c.if-mark_of-ne0.true;
  indexed = c.requires.0;
  covered = λ g h C f. C;
}

pub slice_bounds-find-end : goal.slice_bounds-find-end
slice_bounds-find-end c = omega (arith, c.requires.0.size)

pub find-requires : goal.find-requires
find-requires c = (c.requires.0.chained, c.requires.3, c.requires.4)

pub again-requires : goal.again-requires
again-requires c =
    let s = c.args in
    let l = found_inside s.chart.now (new_record s.item s.first s.second) _ c.find.ensures
    _ c.in-Some.is in
    (l, small s.keys.now s.chart.now s.index.now s.lists.now _ c.requires.0 l)

pub behind-requires : goal.behind-requires
behind-requires c = (c.requires.0, c.requires.2, rw c.new_record-x.ensures.0 c.requires.3, c.requires.4)

pub returns-in-Some : goal.returns-in-Some
returns-in-Some c =
    let s = c.args in
    let z : Record = new_record s.item s.first s.second in
    let (new, compact) = c.new_record-x.ensures in
    let again = c.again in
    adds_again s.chart.now z _ c.find.ensures s.keys.now c.requires.1
    (subst Compact new compact) _ c.mark_of.ensures c.if-mark_of-ne0.false _ s.index.now
    again.new.index s.lists.now _ c.in-Some.is
    (rw new at again.ensures.0) (rw new at (again.ensures.1 s.keys.now s.lists.now c.requires.0))
    again.ensures.2

pub returns-in-None : goal.returns-in-None
returns-in-None c =
    let s = c.args in
    let z : Record = new_record s.item s.first s.second in
    let (new, compact) = c.new_record-x.ensures in
    let behind = c.behind in
    adds_behind s.chart.now z _ c.find.ensures s.keys.now c.requires.1
    (subst Compact new compact) _ c.mark_of.ensures c.if-mark_of-ne0.false _ s.index.now
    behind.new.index behind.new.lists c.in-None.is
    (rw new at behind.ensures.0) (rw new at behind.ensures.1) (rw new at behind.ensures.2)
