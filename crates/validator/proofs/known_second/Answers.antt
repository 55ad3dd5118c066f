-- By the kind of the label.
use Rattle.joins.proofs.Known.{edge_there}
use Rattle.validator.proofs.WordTests.{symbol_inside, label_here, second_edge, second_item}
use Rattle.validator.proofs.known_second.Goals as goal

pub edge_label_in-label-requires : goal.edge_label_in-label-requires
edge_label_in-label-requires c = edge_there _ _ _ c.requires.1

pub symbol_kind_in-kind-requires : goal.symbol_kind_in-kind-requires
symbol_kind_in-kind-requires c =
    let known = c.requires.1 in
    symbol_inside _ known.grammar _ (label_here _ _ _ known _ c.edge_label_in-label.ensures)

pub returns-in-0 : goal.returns-in-0
returns-in-0 c =
    let pre = c.requires in
    second_edge _ _ _ _ _ pre.1 _ _ c.edge_label_in-label.ensures c.symbol_kind_in-kind.ensures
    _ c.in-0.is pre.0.edges

pub returns-in_default : goal.returns-in_default
returns-in_default c = second_item _ _ _ _ _ c.requires.1 _ _ c.edge_label_in-label.ensures
    c.symbol_kind_in-kind.ensures
    c.in_default.in_default-own.rest.1
