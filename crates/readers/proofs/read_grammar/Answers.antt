-- Lines read into a cleared table, and the answer given.
use Rattle.std.proofs.lemmas.Result.{err_from_is_err_and}
use Rattle.readers.proofs.Delivery.{grammar_refused, gives_grammar}
use Rattle.readers.proofs.read_grammar.Goals as goal

pub returns-in_err-read_lines : goal.returns-in_err-read_lines
returns-in_err-read_lines c =
    let p = err_from_is_err_and c.from_residual.result c.from_residual.ensures.1 in rw (p.1, p.2)
    (grammar_refused _ c.read_lines.new.t _ _ c.in_err-read_lines.ensures)

pub returns : goal.returns
returns c = gives_grammar _ _ _ c.read_lines.auto.t c.in_ok-read_lines.ensures _ _ c.deliver.ensures
