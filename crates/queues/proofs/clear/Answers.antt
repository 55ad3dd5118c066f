-- All words are 0.
use Rattle.std.proofs.Common.{arith, get_or}
use Rattle.std.proofs.lemmas.List.{get_or-replicate}
use Rattle.queues.proofs.LevelLaws.{zero_levels}
use mathlib.Core.Path.{◌∙◌, ap}
use Rattle.queues.proofs.clear.Goals as goal

pub returns : goal.returns
returns c =
    zero_levels _ (c.fill.ensures.len ∙ c.requires)
    (λ n h. ap (λ ws. get_or ws n 0) (c.fill.ensures.after (λ y k. k)) ∙ get_or-replicate _ n 0 0 (omega arith))
