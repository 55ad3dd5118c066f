-- The run's outcome as a number, its steps in the lent word.
use Rattle.capi.proofs.CrossingLaws.{run_crosses}
use Rattle.capi.proofs.bobbinmarl_run.Goals as goal

pub returns : goal.returns
returns c = run_crosses _ _ _ _ _ _ _ _ _ c.run-outcome.ensures.0
    c.run-outcome.ensures.1 c.run-outcome.ensures.2
    c.tell_steps.ensures.0 c.tell_steps.ensures.1
