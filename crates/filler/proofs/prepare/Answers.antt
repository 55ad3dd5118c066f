-- A law for each way: a refusal, a row that is too short, and one that holds the records.
use Rattle.std.proofs.lemmas.Result.{err_from_is_err_and}
use mathlib.Core.Path.{ap}
use Rattle.writing.specs.Writing.{number_of}
use Rattle.filler.proofs.Preparing.{prepared_refused, prepared_short, prepared_held}
use Rattle.filler.proofs.prepare.Goals as goal

pub returns-in_err-write : goal.returns-in_err-write
returns-in_err-write c =
    let p = err_from_is_err_and c.from_residual.result c.from_residual.ensures.1 in
    rw (p.1, p.2) (prepared_refused c.args.grammar.now c.args.graph.now c.args.chart.now
    c.args.text.now _ c.args.room c.write.result c.requires
    c.write.ensures.0 c.write.ensures.1 _ c.in_err-write.was)

pub returns-then-room-count : goal.returns-then-room-count
returns-then-room-count c = prepared_short c.args.grammar.now c.args.graph.now c.args.chart.now
    c.args.text.now _ c.args.room c.write.result c.requires
    c.write.ensures.0 c.write.ensures.1
    (ap number_of c.in_ok-write.was) _ c.next_line.ensures.contents
    _ c.number-count.ensures c.if-room-count.true

pub returns-else-room-count : goal.returns-else-room-count
returns-else-room-count c = prepared_held c.args.grammar.now c.args.graph.now c.args.chart.now
    c.args.text.now _ c.args.room c.write.result c.requires
    c.write.ensures.0 c.write.ensures.1
    (ap number_of c.in_ok-write.was) _ c.next_line.ensures.contents
    _ c.number-count.ensures c.if-room-count.false
