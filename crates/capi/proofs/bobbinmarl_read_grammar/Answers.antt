-- The reader's answer as a number.
use Rattle.capi.proofs.CrossingLaws.{read_crosses}
use Rattle.capi.proofs.bobbinmarl_read_grammar.Goals as goal

pub returns : goal.returns
returns c = read_crosses _ _ _ _ c.read_grammar.ensures c.reading_number.ensures
