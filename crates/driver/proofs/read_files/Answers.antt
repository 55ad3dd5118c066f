-- A law for each answer.
use mathlib.Core.Path.{refl}
use Rattle.std.proofs.lemmas.Result.{err_from_is_err_and}
use Rattle.questions.proofs.Refusals.{number_some}
use Rattle.driver.proofs.FileLaws.{files_refused, files_read}
use Rattle.driver.proofs.read_files.Goals as goal

pub returns-in_err-read_grammar : goal.returns-in_err-read_grammar
returns-in_err-read_grammar c =
    let p = err_from_is_err_and c.from_residual.result c.from_residual.ensures.1 in rw (p.1, p.2)
    (files_refused _ _ _ _ _ _ c.in_err-read_grammar.ensures (number_some _))

pub returns : goal.returns
returns c = files_read _ _ _ _ _ _ c.in_ok-read_grammar.ensures refl _ _ c.read_graph.ensures
