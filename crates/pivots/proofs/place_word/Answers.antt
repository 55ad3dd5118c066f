-- A law for each test.
use native.Mathlib.Omega.{arith}
use Rattle.pivots.proofs.Answers.{no_place, last_place, node_place}
use Rattle.pivots.proofs.place_word.Goals as goal

pub returns-in_default : goal.returns-in_default
returns-in_default c = (no_place _ _ _ _ c.in_default.ensures (omega arith), omega arith)

pub returns-then-i-eq4 : goal.returns-then-i-eq4
returns-then-i-eq4 c = (
  last_place _ _ _ _ c.in-Some.ensures.0 _ c.base-b.ensures.0
      c.if-i-eq4.true,
  omega (arith, c.base-b.ensures.1),
)

pub returns : goal.returns
returns c = (
  node_place _ _ _ _ c.in-Some.ensures.0 _ c.base-b.ensures.0
      c.in-Some.ensures.1 c.if-i-eq4.false,
  omega (arith, c.base-b.ensures.1, c.in-Some.ensures.1),
)
