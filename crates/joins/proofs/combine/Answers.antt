-- The tests in the order of the definition.
use native.Mathlib.Omega.{arith}
use Rattle.joins.proofs.Combining.{first_plain, second_plain, combine_apart, combine_clash, combine_lost, combine_sure, combine_open, combine_covered}
use Rattle.joins.proofs.combine.Goals as goal

pub returns-then-not-disjoint : goal.returns-then-not-disjoint
returns-then-not-disjoint c = combine_apart c.requires c.disjoint.ensures.value
    c.if-not-disjoint.true

pub merge-requires : goal.merge-requires
merge-requires c = (first_plain c.requires, second_plain c.requires)

pub returns-in-Err : goal.returns-in-Err
returns-in-Err c = combine_clash c.requires (rw c.in-Err.is at c.merge.ensures.test)

pub returns-then-loses : goal.returns-then-loses
returns-then-loses c = combine_lost c.requires (rw c.in-Ok.is at c.merge.ensures)
    c.union-m.ensures.value (omega arith) c.loses.ensures c.if-loses.true

pub covered-requires : goal.covered-requires
covered-requires c =
    let pre = c.requires in (
      pre.table,
      combine_sure pre (rw c.in-Ok.is at c.merge.ensures) c.union-m.ensures.value (omega arith) c.loses.ensures
          c.if-loses.false,
    )

pub returns-then-not-covered : goal.returns-then-not-covered
returns-then-not-covered c = combine_open c.requires (rw c.in-Ok.is at c.merge.ensures)
    c.union-m.ensures.value (omega arith) c.loses.ensures c.if-loses.false
    c.covered.ensures c.if-not-covered.true

pub returns : goal.returns
returns c = combine_covered c.requires (rw c.in-Ok.is at c.merge.ensures)
    c.union-m.ensures.value (omega arith) c.loses.ensures c.if-loses.false
    c.covered.ensures c.if-not-covered.false c.disjoint.ensures.value c.if-not-disjoint.false
    c.nodes_of.ensures
