use mathlib.Core.Path.{◌≡◌}
use lib.ListN.{length}
use Rattle.joins.specs.Joins.{MasksBelow}
use Rattle.rules.specs.Filling.{ToldTo}
use Rattle.rules.proofs.plans.fill_rule.Given as goal

abbrev pub invariant-loop-q : goal.invariant-loop-q
invariant-loop-q l = MasksBelow l.g.words.now l.r l.q l.ms × (length l.ms ≡ 16) × ToldTo l.g.words.now l.t l.r l.q
