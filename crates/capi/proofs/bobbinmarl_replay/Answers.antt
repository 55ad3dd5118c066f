-- The replay's verdict as a number.
use Rattle.capi.proofs.CrossingLaws.{replay_crosses}
use Rattle.capi.proofs.bobbinmarl_replay.Goals as goal

pub returns : goal.returns
returns c = replay_crosses _ _ _ _ _ c.replay.ensures.0 c.replay.ensures.1
    c.verdict_number.ensures
