-- The writer's answer as a number, its bytes in the lent word.
use Rattle.capi.proofs.CrossingLaws.{write_crosses}
use Rattle.capi.proofs.bobbinmarl_write.Goals as goal

pub returns : goal.returns
returns c = write_crosses _ _ _ _ _ _ _ _ _ c.write-answer.ensures.0
    c.write-answer.ensures.1 c.write-answer.ensures.2
    c.tell.ensures.0 c.tell.ensures.1
