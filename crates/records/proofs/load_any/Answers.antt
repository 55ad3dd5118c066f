use mathlib.Core.Path.{◌∙◌}
use Rattle.records.specs.Words.{record_at}
use Rattle.records.proofs.load_any.Goals as goal

pub returns : goal.returns
unfolding record_at
returns c =
    let head = c.word_any-head.ensures in
    let edges = c.word_any-edges.ensures in
    c.record_of.ensures ∙ rw (head, edges, c.word_any-map.ensures, c.word_any-tail.ensures)
