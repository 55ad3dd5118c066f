-- The start's outcome as a number.
use Rattle.capi.proofs.CrossingLaws.{start_crosses}
use Rattle.capi.proofs.bobbinmarl_start.Goals as goal

pub returns : goal.returns
returns c = start_crosses _ _ _ _ _ _ c.start.ensures.0
    c.start.ensures.1 c.start.ensures.2
    c.chart_number.ensures
