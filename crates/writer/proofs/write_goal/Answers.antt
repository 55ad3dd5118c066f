use mathlib.Core.Path.{◌∙◌}
use Rattle.writer.proofs.Deliveries.{goal_found}
use Rattle.writer.proofs.write_goal.Goals as goal

pub returns-in-Some : goal.returns-in-Some
returns-in-Some c = goal_found _ _ _ _ _ _ _ _ ((cc) ∙ c.find_goal.ensures) c.write_item.ensures
