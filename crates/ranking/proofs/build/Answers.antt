-- Words that are 0 are filled.
use Rattle.ranking.proofs.SetLaws.{ranked_blank}
use Rattle.ranking.proofs.build.Goals as goal

pub fill-requires : goal.fill-requires
fill-requires c = (ranked_blank _ c.requires.0, c.requires.1)
