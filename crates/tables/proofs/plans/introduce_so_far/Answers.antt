-- The definition at kind 1.
use native.Mathlib.Omega.{arith}
use Rattle.std.proofs.lemmas.Grind.{common_steps}
use Rattle.tables.proofs.Planning.{introduce_ok}
use Rattle.tables.proofs.plans.introduce_so_far.Goals as goal

pub returns-then-line-edges : goal.returns-then-line-edges
returns-then-line-edges c = grind (
  arith,
  common_steps,
  introduce_ok _ _ _ _ _ _ _ _ _ c.requires.1 c.child_times-times.ensures c.rule_edges-edges.ensures c.named_before-before.ensures.0,
)

pub returns-else-line-edges : goal.returns-else-line-edges
returns-else-line-edges c = grind (
  arith,
  common_steps,
  introduce_ok _ _ _ _ _ _ _ _ _ c.requires.1 c.child_times-times.ensures c.rule_edges-edges.ensures c.named_before-before.ensures.0,
)
