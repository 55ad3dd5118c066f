-- A text without rows, a replay that fails, and one that is whole or not.
use native.Mathlib.Omega.{arith}
use mathlib.Core.Path.{refl, sym}
use Rattle.joins.proofs.Known.{graph_nodes_few, graph_edges_few}
use Rattle.replayer.proofs.PlacedRows.{text_count}
use Rattle.replayer.proofs.Verdicts.{none_refused, failed_answer, whole_answer}
use Rattle.replayer.proofs.passes.Goals as goal

pub returns-in_default : goal.returns-in_default
returns-in_default c = sym (none_refused _ _ _ c.in_default.ensures)

pub from_start-requires : goal.from_start-requires
from_start-requires c = let count = text_count _ _ c.in-Some.ensures in omega arith

pub is_whole-requires : goal.is_whole-requires
is_whole-requires c =
    let accepted = c.args.t.now.fit in
    (graph_nodes_few _ _ accepted, graph_edges_few _ _ accepted)

pub returns-in-None : goal.returns-in-None
returns-in-None c = sym (failed_answer _ _ _ _ c.in-Some.ensures _ c.in-None.ensures refl)

pub returns-in-Some-from_start : goal.returns-in-Some-from_start
returns-in-Some-from_start c =
    sym (whole_answer _ _ _ _ c.in-Some.ensures _ c.in-Some-from_start.ensures refl _ c.is_whole.ensures)
