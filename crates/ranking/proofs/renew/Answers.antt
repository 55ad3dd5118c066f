-- A base without a place in a word orders words that say nothing; else the set is cleared and filled.
use Rattle.ranking.proofs.SetLaws.{ranked_marked, ranked_none, renewed_size}
use native.Mathlib.Omega.{arith}
use lib.ListN.{set}
use Rattle.ranking.proofs.renew.Goals as goal

pub returns-then-base-ge4294967295 : goal.returns-then-base-ge4294967295
returns-then-base-ge4294967295 c = ranked_marked c.args.ranks.now c.requires.0 _

pub slice_bounds-clear-end : goal.slice_bounds-clear-end
slice_bounds-clear-end c = omega (
  arith,
  renewed_size c.args.ranks.now
      c.args.base c.requires.0,
)

pub fill-requires : goal.fill-requires
fill-requires c = (
  ranked_none (set (set c.args.ranks.now 0 0) 1 c.args.base) c.clear.new.ws
      (renewed_size c.args.ranks.now c.args.base c.requires.0) c.clear.ensures,
  c.requires.1,
)
