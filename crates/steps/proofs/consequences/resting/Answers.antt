-- The least record at which a cursor is then.
use Rattle.steps.proofs.consequences.resting.Goals as goal

pub returns : goal.returns
returns c = record { few = c.least-k.ensures.1; least = c.least-k.ensures.0; skims = c.skimmed-es.ensures }
