-- As many of the four places as the rank says have the external nodes.
use Rattle.replayer.proofs.InnerNodes.{outer_small, outer_all}
use Rattle.replayer.proofs.fitting.external_mask.Goals as goal

pub mask_of-requires : goal.mask_of-requires
mask_of-requires c = (
  c.rank_at-rank.ensures.1,
  outer_small _ _ c.args.grammar.now.fit c.requires _ _ c.rule_symbol.ensures
      c.rank_at-rank.ensures.0 c.rank_at-rank.ensures.1 _ c.rule_externals.ensures,
)

pub returns : goal.returns
returns c = outer_all _ _ c.args.grammar.now.fit c.requires _ _ c.rule_symbol.ensures
    c.rank_at-rank.ensures.0 c.rank_at-rank.ensures.1 _ c.rule_externals.ensures
    _ c.mask_of.ensures
