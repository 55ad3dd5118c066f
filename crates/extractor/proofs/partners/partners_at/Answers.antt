-- From the root of the plan down, as many levels as it has nodes; a rule with no plan has no partners.
use native.Mathlib.Omega.{arith}
use Rattle.extractor.proofs.RuleLookup.{known_node}
use Rattle.extractor.proofs.PartnerLaws.{partners_none, partners_some}
use Rattle.extractor.proofs.partners.partners_at.Goals as goal

pub returns-then-n-eq0 : goal.returns-then-n-eq0
returns-then-n-eq0 c = partners_none _ _ _ _ _ c.requires.0
    c.plan_size-n.ensures _ c.requires.1 c.if-n-eq0.true

pub partners_within-requires : goal.partners_within-requires
partners_within-requires c =
    known_node _ _ _ c.args.grammar.now.fit (omega (arith, c.plan_size-n.ensures, c.if-n-eq0.false))

pub returns : goal.returns
returns c = partners_some _ _ _ _ _ c.requires.0 c.plan_size-n.ensures _ _ _ c.requires.1
    c.first_at.ensures c.partners_within.ensures
