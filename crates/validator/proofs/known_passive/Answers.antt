-- The tests in the order of the definition.
use Rattle.validator.proofs.WordTests.{symbol_known, in_sizes, passive_no_symbol, passive_terminal, passive_outside, passive_by}
use Rattle.validator.proofs.known_passive.Goals as goal

pub returns-then-s-of : goal.returns-then-s-of
returns-then-s-of c = passive_no_symbol _ _ _ c.requires _ _ c.if-s-of.true

pub symbol_kind_in-requires : goal.symbol_kind_in-requires
symbol_kind_in-requires c = symbol_known _ _ _ c.requires _ c.if-s-of.false

pub returns-then-symbol_kind_in-eq0 : goal.returns-then-symbol_kind_in-eq0
returns-then-symbol_kind_in-eq0 c = passive_terminal _ _ _ c.requires _ _ c.if-s-of.false
    _ c.symbol_kind_in.ensures
    c.if-symbol_kind_in-eq0.true

pub symbol_rank_in-requires : goal.symbol_rank_in-requires
symbol_rank_in-requires c = symbol_known _ _ _ c.requires _ c.if-s-of.false

pub in_graph-requires : goal.in_graph-requires
in_graph-requires c = in_sizes _ _ _ c.requires

pub returns-then-not-in_graph : goal.returns-then-not-in_graph
returns-then-not-in_graph c =
    let sized = c.requires in
    passive_outside _ _ _ sized _ _ c.if-s-of.false _ c.symbol_kind_in.ensures c.if-symbol_kind_in-eq0.false _ _
    c.symbol_rank_in.ensures.0 c.full-listed.ensures _ c.in_graph.ensures c.if-not-in_graph.true

pub returns : goal.returns
returns c =
    let sized = c.requires in
    passive_by _ _ _ sized _ _ c.if-s-of.false _ c.symbol_kind_in.ensures c.if-symbol_kind_in-eq0.false _ _
    c.symbol_rank_in.ensures.0 c.full-listed.ensures _ c.in_graph.ensures
    c.if-not-in_graph.false
