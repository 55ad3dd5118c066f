-- The kind of an edge's label is that of a symbol of the table.
use native.Mathlib.Omega.{arith}
use Rattle.joins.proofs.Known.{symbol_there, edge_there}
use Rattle.joins.proofs.EdgeMaps.{edge_label_few}
use Rattle.extractor.proofs.RuleLookup.{label_test}
use Rattle.extractor.proofs.lookup.is_nonterminal.Goals as goal

pub edge_label_in-label-requires : goal.edge_label_in-label-requires
edge_label_in-label-requires c = edge_there _ _ _ c.requires

pub symbol_kind_in-requires : goal.symbol_kind_in-requires
symbol_kind_in-requires c =
    let known = c.requires in
    symbol_there _ _ known.grammar (omega (arith, c.edge_label_in-label.ensures, edge_label_few _ _ _ known))

pub returns : goal.returns
returns c =
    let known = c.requires in
    label_test _ _ _ known _ _ c.edge_label_in-label.ensures c.symbol_kind_in.ensures
