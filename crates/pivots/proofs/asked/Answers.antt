use Rattle.keys.specs.Keys.{edge_tag, asked_from, sought_from, query_of}
use Rattle.pivots.proofs.Answers.{only_at}
use Rattle.pivots.proofs.asked.Goals as goal

pub returns : goal.returns
unfolding query_of
returns c = only_at c.args.keys.now asked_from sought_from edge_tag c.args.x _ c.only_key.ensures
