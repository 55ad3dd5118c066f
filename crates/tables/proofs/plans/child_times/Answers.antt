-- How often a number stands in two lists is the sum.
use Rattle.tables.proofs.Planning.{both_times}
use Rattle.tables.proofs.plans.child_times.Goals as goal

pub returns : goal.returns
returns c = both_times _ _ _ _ _ c.named_before.ensures.0 c.child_in.ensures.0
