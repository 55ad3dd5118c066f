-- What the rules of two premises answer of the two items is added, or nothing.
use Rattle.records.proofs.WordLaws.{item_inside}
use Rattle.steps.proofs.ReadyLaws.{usable_at, place_few}
use Rattle.steps.proofs.MadeLaws.{pair_grown}
use Rattle.steps.proofs.consequences.add_pair.Goals as goal

pub item_at-x-requires : goal.item_at-x-requires
item_at-x-requires c = item_inside _ _ c.requires.2.there

pub item_at-y-requires : goal.item_at-y-requires
item_at-y-requires c = item_inside _ _ c.requires.3.there

pub add_joined-requires : goal.add_joined-requires
add_joined-requires c =
    let tables = c.requires.0 in
    let ready = c.requires.1 in
    let sure = c.sure-sure.ensures in (
      usable_at tables.accepted ready c.requires.2.there c.item_at-x.ensures sure,
      usable_at tables.accepted ready c.requires.3.there c.item_at-y.ensures sure,
      ready.indexed,
      ready.fits,
      ready.small,
      place_few ready c.requires.2.there,
      place_few ready c.requires.3.there,
    )

pub returns : goal.returns
returns c = pair_grown c.requires.0.accepted c.requires.1 c.sure-sure.ensures
    _ _ c.item_at-x.ensures c.item_at-y.ensures
    (rw c.plus-count.ensures at c.add_joined.ensures) c.requires.2 c.requires.3
