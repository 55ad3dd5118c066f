-- The grammar table first, then the lines read into a cleared table.
use Rattle.std.proofs.lemmas.Result.{err_from_is_err_and}
use Rattle.readers.proofs.Delivery.{gives_touched, graph_refused, gives_graph}
use Rattle.readers.proofs.read_graph.Goals as goal

pub returns-then-not-check_grammar : goal.returns-then-not-check_grammar
returns-then-not-check_grammar c = gives_touched _ _ _ _ c.check_grammar.ensures c.if-not-check_grammar.true

pub returns-in_err-read_lines : goal.returns-in_err-read_lines
returns-in_err-read_lines c =
    let p = err_from_is_err_and c.from_residual.result c.from_residual.ensures.1 in rw (p.1, p.2)
    (graph_refused _ _ _ _ c.check_grammar.ensures c.if-not-check_grammar.false c.read_lines.new.t _ c.in_err-read_lines.ensures)

pub returns : goal.returns
returns c = gives_graph _ _ _ _ c.check_grammar.ensures c.if-not-check_grammar.false _ c.read_lines.auto.t c.in_ok-read_lines.ensures
    _ _ c.deliver.ensures
