-- It goes, and comes.
use Rattle.ranking.proofs.SetLaws.{recounted}
use Rattle.ranking.proofs.recount.Goals as goal

pub returns : goal.returns
returns c = λ rs rs' R z E. recounted c.args.j c.args.old c.args.count rs rs'
    _ _ _ c.remove.ensures c.insert.ensures R z E
