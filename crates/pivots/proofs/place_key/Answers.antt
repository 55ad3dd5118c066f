-- A law for each test.
use Rattle.pivots.proofs.Answers.{place_unused, place_key_is}
use Rattle.pivots.proofs.place_key.Goals as goal

pub returns-then-used-eq0 : goal.returns-then-used-eq0
returns-then-used-eq0 c = place_unused _ _ _ _ _ c.if-used-eq0.true

pub returns : goal.returns
returns c = place_key_is _ _ _ _ _ _ _ c.if-used-eq0.false c.base.ensures.0 c.mix.ensures
