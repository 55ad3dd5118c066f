use Rattle.records.specs.Words.{word_at, record_from, record_at}
use Rattle.records.proofs.Packing.{same_words}
use Rattle.records.proofs.same.Goals as goal

pub returns : goal.returns
unfolding record_at record_from word_at
returns c =
    let x = c.args.x in
    rw c.place-at.ensures.0
    (same_words x _ _ _ _ _ _ c.head_of.ensures c.word_of.ensures)
