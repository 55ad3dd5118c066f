-- The partners of the edges passed, from the last edge on, are pushed.
use native.Mathlib.Omega.{arith}
use Rattle.extractor.proofs.RuleLookup.{known_edge}
use Rattle.extractor.proofs.ListLaws.{parts_none, parts_next}
use Rattle.extractor.proofs.listing.push_parts.Goals as goal

pub loop-i-init : goal.loop-i-init
loop-i-init c = parts_none _ _ _ _ _ _ c.edge_count-edges.ensures.0 c.edge_count-edges.ensures.1

pub push_part-t-requires : goal.push_part-t-requires
push_part-t-requires c = (
  known_edge _ _ _ c.args.grammar.now.fit (omega (arith, c.loop-i.invariant.inside, c.loop-i-test.true)),
  omega (arith, c.loop-i.invariant.room, c.loop-i-test.true, c.requires.0),
  omega (arith, c.loop-i.invariant.low, c.loop-i.invariant.pushed.same, c.requires.1),
)

pub loop-i-preserved : goal.loop-i-preserved
loop-i-preserved c = parts_next _ _ _ _ _ _ _ _ _ _ c.loop-i-test.true c.loop-i.invariant
    c.push_part-t.ensures
