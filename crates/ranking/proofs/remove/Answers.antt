-- A count below the base, far above it, or with a number of its own.
use Rattle.ranking.proofs.SetLaws.{removed_none, removed_far, removed_set}
use native.Mathlib.Omega.{arith}
use Rattle.ranking.proofs.remove.Goals as goal

pub overflow_cast-base : goal.overflow_cast-base
overflow_cast-base c = omega (arith, c.slice_known-1.given 1)

pub returns-then-count-base : goal.returns-then-count-base
returns-then-count-base c = λ rs rs' R z E. removed_none c.args.ranks.now
    c.args.j c.args.count c.requires.1
    rs rs' R z E (omega arith)

pub returns-then-n-ge32 : goal.returns-then-n-ge32
returns-then-n-ge32 c = λ rs rs' R z E. removed_far c.args.ranks.now
    c.args.j c.args.count
    c.requires.1 rs rs' R z E (omega arith)

pub returns : goal.returns
returns c = λ rs rs' R z E. removed_set c.args.ranks.now c.args.j c.args.count c.requires.1 rs rs'
    R z E _ (omega (arith, c.if-count-base.false)) c.remove.ensures
