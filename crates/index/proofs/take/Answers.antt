-- What the ranking tells leaves it.
use Rattle.records.specs.Words.{chart_of}
use Rattle.chains.specs.Chains.{link_words}
use Rattle.ranking.specs.Ranking.{rank_words}
use Rattle.index.proofs.IndexLaws.{taken_by}
use Rattle.index.proofs.CoverLaws.{doubt_put}
use native.Mathlib.Omega.{arith}
use borrow.Author.Rules.{rules}
use Rattle.index.proofs.take.Goals as goal

pub take-requires : goal.take-requires
take-requires c = c.requires

pub returns : goal.returns
returns c =
    let t = c.take in
    let d = t.auto in (
      t.ensures.0,
      λ keys ls I. taken_by keys c.args.index.now ls t.new.ranks
          (chart_of c.args.chart.now).records _ t.ensures.0 t.ensures.1 I,
      doubt_put link_words rank_words c.args.index.now t.new.ranks (search rules) (omega arith)
          (omega arith),
    )
