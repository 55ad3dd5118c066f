-- The first bit of the first word.
use Rattle.queues.proofs.LevelLaws.{stepped_left}
use Rattle.queues.proofs.leave.Goals as goal

pub returns : goal.returns
returns c = stepped_left _ _ c.args.a _ c.requires.1 c.down-p.ensures c.remove.ensures
