-- An edge that is no candidate makes nothing; else what the item that stands for it makes is added.
use native.Mathlib.Omega.{arith}
use Rattle.joins.proofs.Known.{graph_edges_few}
use Rattle.records.proofs.WordLaws.{item_inside}
use Rattle.steps.proofs.ReadyLaws.{usable_at, place_few}
use Rattle.steps.proofs.CandidateSteps.{candidate_none}
use Rattle.steps.proofs.MadeLaws.{edge_grown}
use Rattle.steps.proofs.consequences.add_candidate.Goals as goal

pub returns-then-not-has : goal.returns-then-not-has
returns-then-not-has c = (
  candidate_none _ _ _ _ c.requires.3 _ c.requires.1.fits _ _ c.requires.4
      _ c.has.ensures.value c.if-not-has.true,
  c.requires.1,
)

pub item_at-x-requires : goal.item_at-x-requires
item_at-x-requires c = item_inside _ _ c.requires.2.there

pub edge_item-y-requires : goal.edge_item-y-requires
edge_item-y-requires c = c.requires.4

pub add_joined-requires : goal.add_joined-requires
add_joined-requires c =
    let tables = c.requires.0 in
    let ready = c.requires.1 in (
      usable_at tables.accepted ready c.requires.2.there c.item_at-x.ensures
          c.sure-sure.ensures,
      c.edge_item-y.ensures.usable _,
      ready.indexed,
      ready.fits,
      ready.small,
      place_few ready c.requires.2.there,
      omega (arith, c.requires.4, graph_edges_few _ _ tables.accepted),
    )

pub returns : goal.returns
returns c = edge_grown c.requires.0.accepted c.requires.1 c.sure-sure.ensures
    _ _ c.item_at-x.ensures c.edge_item-y.ensures
    c.add_joined.ensures c.requires.2.there c.requires.4
