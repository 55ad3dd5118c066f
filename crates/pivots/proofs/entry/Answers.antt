use Rattle.keys.specs.Keys.{passive_tag, places_from, keys_of}
use Rattle.pivots.proofs.Answers.{only_at}
use Rattle.pivots.proofs.entry.Goals as goal

pub returns : goal.returns
unfolding keys_of
returns c = only_at c.args.keys.now 0 places_from passive_tag c.args.x _ c.only_key.ensures
