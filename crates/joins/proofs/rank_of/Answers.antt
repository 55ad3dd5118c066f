-- The symbol's line lies inside the table.
use Rattle.joins.proofs.Known.{symbol_there}
use Rattle.joins.proofs.rank_of.Goals as goal

pub symbol_rank_in-requires : goal.symbol_rank_in-requires
symbol_rank_in-requires c = symbol_there _ _ c.requires.0 c.requires.1
