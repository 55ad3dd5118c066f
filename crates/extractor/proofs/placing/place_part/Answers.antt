-- A nonterminal edge stands on the nodes of its record, a terminal one on those of its graph edge, on none past the
-- end.
use Rattle.extractor.proofs.PlaceLaws.{placed_record, placed_edge, placed_past}
use Rattle.extractor.proofs.placing.place_part.Goals as goal

pub returns-then-is_nonterminal : goal.returns-then-is_nonterminal
returns-then-is_nonterminal c = placed_record _ _ _ _ _ _ c.requires.0 _ c.is_nonterminal.ensures
    _ _ c.if-is_nonterminal.true c.place_record.ensures

pub returns-else-b-graph_edges : goal.returns-else-b-graph_edges
returns-else-b-graph_edges c = placed_past _ _ _ _ _ _ c.requires.0 _ c.is_nonterminal.ensures _ _ c.told-f
    c.requires.1 c.if-is_nonterminal.false c.graph_edges.ensures c.if-b-graph_edges.false

pub returns-then-b-graph_edges : goal.returns-then-b-graph_edges
returns-then-b-graph_edges c = placed_edge _ _ _ _ _ _ c.requires.0 _ c.is_nonterminal.ensures
    _ _ c.if-is_nonterminal.false c.place_edge.ensures
