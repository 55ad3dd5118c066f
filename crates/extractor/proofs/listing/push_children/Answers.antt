-- The children are the partners of the nonterminal edges of the record's rule.
use Rattle.extractor.proofs.ListLaws.{children_by}
use Rattle.extractor.proofs.listing.push_children.Goals as goal

pub returns : goal.returns
returns c = children_by _ _ _ _ _ _ _ _ _ c.rule_at-r.ensures c.partners_at.ensures
    c.push_parts.ensures
