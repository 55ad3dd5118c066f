-- A law for each test.
use native.Mathlib.Omega.{arith}
use Rattle.pivots.proofs.Answers.{idle_word, edge_word_is, join_word_is}
use Rattle.pivots.proofs.key_word.Goals as goal

pub returns-then-want-eq80 : goal.returns-then-want-eq80
returns-then-want-eq80 c = (idle_word _ _ _ _ _ c.if-want-eq80.true, omega arith)

pub returns-then-want-lt64 : goal.returns-then-want-lt64
returns-then-want-lt64 c = (edge_word_is _ _ _ _ _ _ c.if-want-lt64.true c.base.ensures.0, omega (arith, c.base.ensures.1))

pub returns : goal.returns
returns c = (
  join_word_is _ _ _ _ _ _ c.if-want-eq80.false (omega (arith, c.if-want-lt64.false))
      c.base-2.ensures.0,
  omega (arith, c.base-2.ensures.1),
)
