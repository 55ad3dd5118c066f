-- One order is another.
use Rattle.chains.specs.Chains.{link_words}
use Rattle.ranking.specs.Ranking.{rank_words}
use Rattle.index.proofs.IndexLaws.{recounted, ranks_long}
use Rattle.index.proofs.CoverLaws.{doubt_put}
use native.Mathlib.Omega.{arith}
use Rattle.index.proofs.recount.Goals as goal

pub recount-requires : goal.recount-requires
recount-requires c = (
  ranks_long c.args.index.now c.told-index,
  c.requires,
)

pub returns : goal.returns
returns c =
    let s = c.args in
    let t = c.recount in
    let d = t.auto in (
      λ keys ls rs x I l h o e. recounted s.index.now ls t.new.ranks s.j keys rs I l x s.old s.count h o
          e (t.ensures rs _),
      doubt_put link_words rank_words s.index.now t.new.ranks
          c.told-index (omega arith) (omega arith),
    )
