-- The edges first, then the places.
use Rattle.validator.proofs.WordTests.{graph_not, graph_by}
use Rattle.validator.proofs.in_graph.Goals as goal

pub returns-then-edges-s : goal.returns-then-edges-s
returns-then-edges-s c = graph_not _ _ _ _ _ c.requires.0 c.if-edges-s.true

pub returns : goal.returns
returns c = graph_by _ _ _ _ _ c.requires.0 _ c.if-edges-s.false
    c.known_places.ensures
