-- The row of the record's rule: its places behind two fields, its numbers over those that the rule has no node for.
use Rattle.extractor.proofs.RowLaws.{row_by}
use Rattle.extractor.proofs.rows.row_of.Goals as goal

pub returns : goal.returns
returns c = row_by _ _ _ _ _ _ _ _ c.rule_at-r.ensures c.partners_at.ensures
    _ c.args.fields.now _ _ _ _ c.node_count-nodes.ensures.0
    c.node_count-nodes.ensures.1 c.edge_count-edges.ensures.0
    c.edge_count-edges.ensures.1 c.told-fields c.place.ensures
    c.number_parts-end.ensures
