-- Words that are all 0.
use Rattle.lists.proofs.ListLaws.{unlisted_zeros}
use Rattle.index.proofs.IndexLaws.{empty_zeros}
use Rattle.index.proofs.Index.empty.Goals as goal

pub returns : goal.returns
returns c = (empty_zeros, unlisted_zeros)
