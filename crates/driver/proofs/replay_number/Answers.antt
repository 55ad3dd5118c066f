-- A law for each answer.
use mathlib.Core.Path.{refl}
use Rattle.questions.proofs.Refusals.{number_cast, number_some}
use Rattle.driver.proofs.ProgramLaws.{replays_unread, replays_read}
use Rattle.driver.proofs.replay_number.Goals as goal

pub returns-in-Err : goal.returns-in-Err
returns-in-Err c = rw (number_cast c.in-Err.refusal) (replays_unread _ _ _ _ _ c.in-Err.ensures _ (number_some _))

pub returns : goal.returns
returns c = replays_read _ _ _ _ _ c.in_default.ensures _ _ refl c.replay_tables.ensures
