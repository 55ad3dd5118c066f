-- One line, of the number.
use mathlib.Core.Path.{ap, ◌∙◌}
use borrow.Author.Rules.{rules}
use Rattle.driver.proofs.PrintLaws.{refusal_line_lem}
use Rattle.programs.specs.Programs.{refusal_line}
use Rattle.driver.proofs.replay.Goals as goal

pub returns : goal.returns
returns c = refusal_line_lem _ _ _ (search rules) c.write_number.ensures.1 ∙ ap refusal_line
    c.replay_number-k.ensures
