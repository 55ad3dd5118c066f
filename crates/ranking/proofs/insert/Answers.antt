-- A count below the base, far above it, or with a number of its own.
use Rattle.ranking.proofs.SetLaws.{ranked_marked, inserted_first, inserted_far, inserted_set}
use native.Mathlib.Omega.{arith}
use Rattle.ranking.proofs.insert.Goals as goal

pub overflow_cast-base : goal.overflow_cast-base
overflow_cast-base c = omega (arith, c.slice_known-1.given 1)

pub returns-then-count-base : goal.returns-then-count-base
returns-then-count-base c = λ rs rs' R z E. ranked_marked c.args.ranks.now
    c.requires.0 rs'

pub returns-then-ranks-eq0 : goal.returns-then-ranks-eq0
returns-then-ranks-eq0 c = λ rs rs' R z E. inserted_first c.args.ranks.now c.args.j c.args.count c.requires.1 rs
    rs' R z E (omega arith) c.if-ranks-eq0.true

pub returns-else-ranks-eq0 : goal.returns-else-ranks-eq0
returns-else-ranks-eq0 c = λ rs rs' R z E. inserted_far c.args.ranks.now c.args.j c.args.count c.requires.1 rs
    rs' R z E (omega arith) c.if-ranks-eq0.false

pub returns : goal.returns
returns c = λ rs rs' R z E. inserted_set c.args.ranks.now c.args.j c.args.count c.requires.1 rs
    rs' R z E _ (omega (arith, c.if-count-base.false)) (omega (arith, c.if-count-base.false, c.if-n-ge32.false))
    c.insert.ensures
