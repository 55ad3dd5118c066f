-- The word of the plan node above tells it.
use mathlib.Core.Path.{◌∙◌}
use Rattle.rules.proofs.WantLaws.{want_told}
use Rattle.rules.proofs.wants.want_of.Goals as goal

pub returns : goal.returns
returns c = c.wanted.ensures ∙ want_told _ _ _ _ c.parent_in.ensures
