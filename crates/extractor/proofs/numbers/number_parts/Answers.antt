-- The numbers so far and those of the edges left are all.
use native.Mathlib.Omega.{arith}
use Rattle.extractor.proofs.RuleLookup.{known_edge}
use Rattle.extractor.proofs.NumberLaws.{numbering_next, numbering_done}
use Rattle.extractor.proofs.numbers.number_parts.Goals as goal

pub is_nonterminal-tree-requires : goal.is_nonterminal-tree-requires
is_nonterminal-tree-requires c = known_edge _ _ _ c.args.grammar.now.fit
    (omega (arith, c.loop-i-test.true, c.requires.0))

pub loop-i-preserved : goal.loop-i-preserved
loop-i-preserved c = numbering_next _ _ _ _ _ _ _ _ _ _ _ _ _ (omega (arith, c.loop-i-test.true, c.requires.0))
    (omega (arith, c.loop-i-test.true, c.requires.4)) c.loop-i.invariant
    c.is_nonterminal-tree.ensures c.number_of.ensures c.next_after-next.ensures

pub returns : goal.returns
returns c = numbering_done _ _ _ _ _ _ _ _ _ _ _ c.requires.0 c.loop-i-test.false c.loop-i.invariant
