-- What is prepared in a text of its own is handed over record by record.
use mathlib.Core.Path.{ap, ◌∙◌}
use Rattle.filler.specs.Rows.{filled_from}
use Rattle.filler.proofs.Answers.{filled_count}
use Rattle.filler.proofs.RowLaws.{filling}
use Rattle.filler.proofs.fill.Goals as goal

pub returns : goal.returns
returns c =
    let text = c.prepare-answer.new.text in
    filling _ _ _ _ _ _ _ c.prepare-answer.ensures
    (c.fill_row.ensures ∙ ap (λ n. filled_from c.args.grammar.now text n c.args.rows.now) (c.unwrap_or.ensures ∙ filled_count c.prepare-answer.result))
