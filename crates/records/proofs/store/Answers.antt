use Rattle.records.specs.Words.{tail_of, words_of, put}
use Rattle.records.proofs.Packing.{head_by}
use Rattle.records.proofs.WordLaws.{save_some}
use Rattle.records.proofs.store.Goals as goal

pub returns : goal.returns
unfolding put words_of tail_of
returns c =
    let s = c.args in
    let at = c.place-at.ensures.0 in
    let head = head_by s.x c.head_of.ensures in
    save_some s.chart.now _ s.j s.x c.requires
    (rw (at, head, c.word_of-map.ensures.value, c.tail_of-tail.ensures))
