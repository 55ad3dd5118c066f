-- A law for each answer.
use Rattle.driver.proofs.ProgramLaws.{replays_over, replays_text}
use Rattle.driver.proofs.replay_tables.Goals as goal

pub returns-then-derivation-gt32768 : goal.returns-then-derivation-gt32768
returns-then-derivation-gt32768 c = replays_over _ _ _ c.if-derivation-gt32768.true

pub returns : goal.returns
returns c = replays_text _ _ _ _ _ c.if-derivation-gt32768.false c.replay.ensures.0
    c.verdict_number.ensures
