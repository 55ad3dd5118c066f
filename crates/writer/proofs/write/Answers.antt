-- A chart that is not ready, and the goal of one with nothing left.
use Rattle.std.proofs.lemmas.Result.{err_from_is_err_and}
use Rattle.writer.proofs.Deliveries.{done_accepted, done_known, written_unready, written_done}
use Rattle.writer.proofs.write.Goals as goal

pub invariant_of-t : goal.invariant_of-t
invariant_of-t c =
    let a = c.args in
    record { fit = (done_accepted a.grammar.now a.graph.now a.chart.now a.out.now _ c.standing.ensures _ c.in_ok-standing.was).grammar }

pub invariant_of-t-2 : goal.invariant_of-t-2
invariant_of-t-2 c =
    let a = c.args in
    record { fit = done_accepted a.grammar.now a.graph.now a.chart.now a.out.now _ c.standing.ensures _ c.in_ok-standing.was }

pub write_goal-requires : goal.write_goal-requires
write_goal-requires c =
    let a = c.args in
    let done = c.in_ok-standing.was in
    done_known a.grammar.now a.graph.now a.chart.now a.out.now _ c.standing.ensures _ done

pub returns-in_err-standing : goal.returns-in_err-standing
returns-in_err-standing c =
    let a = c.args in
    let p = err_from_is_err_and c.from_residual.result c.from_residual.ensures.1 in
    rw (p.1, p.2) (written_unready a.grammar.now a.graph.now a.chart.now a.out.now _ c.standing.ensures _ c.in_err-standing.was)

pub returns : goal.returns
returns c =
    let a = c.args in
    written_done a.grammar.now a.graph.now a.chart.now a.out.now _ c.standing.ensures _ _ _ c.in_ok-standing.was c.write_goal.ensures
