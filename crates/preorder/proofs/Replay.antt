-- The replay decides whether rows are a derivation of the graph.
use mathlib.Core.Path.{◌≡◌}
use mathlib.Core.Bool.{true}
use mathlib.Core.List.{List}
use Prim.Native.Nat.{ℕ, ◌≤◌}
use native.Mathlib.Omega.{arith}
use lib.ListN.{length}
use lib.Dec.{T}
use Rattle.hrg.specs.Grammars.{Graph, Grammar}
use Rattle.hrg.specs.WellFormed.{GrammarOk, GraphOk}
use Rattle.hrg.specs.WellFormedTest.{Decides}
use Rattle.hrg.proofs.WellFormedTest.{decides_between}
use Rattle.hrg.proofs.ClosureRun.{of_and}
use Rattle.preorder.specs.Rows.{Derives, rows_of}
use Rattle.preorder.specs.Replay.{count_test, replays, replayed, whole}
use Rattle.preorder.proofs.Sound.{replay_sound}
use Rattle.preorder.proofs.Complete.{holds, replay_complete}

-- the rows are at most 4,096
length_upper : (G : Grammar) (H : Graph) (rows : List (List ℕ)) → T (replays G H rows) → length rows ≤ 4096
unfolding replays
length_upper G H rows t =
    ((decides_between 1 (length rows) 4096).sound (of_and (count_test rows) (whole H rows (replayed G H rows)) t).0).upper

pub replay_decides : (G : Grammar) (H : Graph) (rows : List (List ℕ)) → GrammarOk G → GraphOk G H → Decides (replays G H rows) (Derives G H rows)
replay_decides G H rows g h =
    record {
      sound = λ t.
          let w = replay_sound G H rows g h (holds (replays G H rows) t) in
          record { derivation = w.0; listed = w.1; generates = w.2; small = omega (arith, w.3, length_upper G H rows t) };
      complete = λ d.
          let e : replays G H (rows_of d.derivation) ≡ true = replay_complete G H g h d.derivation d.generates d.small in
          rw (d.listed, e) tt;
    }
