-- Records that make nothing with what has certain edges: these are passed over on the lists.
use Rattle.std.specs.Prelude.{Bool, true, false, cond, List, ℕ}
use Rattle.masks.specs.Masks.{disjoint}
use Rattle.agenda.specs.Records.{is_handled}
use Rattle.records.specs.Words.{record_at}

-- the record at place k has one of the edges, or it is not handled
unfoldable pub quiet_in : List ℕ → ℕ → ℕ → Bool
unfolding disjoint record_at
quiet_in w edges k = cond (disjoint edges (record_at w k).item.edges) (cond (is_handled (record_at w k)) false true) true
