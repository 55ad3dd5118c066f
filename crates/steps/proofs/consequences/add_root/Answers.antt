-- What the root rule answers is added, or nothing.
use native.Mathlib.Omega.{arith}
use Rattle.records.proofs.WordLaws.{item_inside}
use Rattle.steps.proofs.ReadyLaws.{place_few}
use Rattle.steps.proofs.MadeLaws.{root_missed, root_added}
use Rattle.steps.proofs.consequences.add_root.Goals as goal

pub item_at-requires : goal.item_at-requires
item_at-requires c = item_inside _ _ c.requires.1.there

pub returns-in_default : goal.returns-in_default
returns-in_default c = root_missed c.args.t.now.run.tables.fit c.requires.0 _ c.item_at.ensures c.in_default.ensures

pub add-requires : goal.add-requires
add-requires c =
    let ready = c.requires.0 in
    let (hash, small) = c.hash-hash.ensures in
    (ready.indexed, ready.fits, ready.small, hash, small, place_few ready c.requires.1.there, omega arith)

pub returns : goal.returns
returns c = root_added c.args.t.now.run.tables.fit c.requires.0 _ c.item_at.ensures c.in-Some.ensures
    c.requires.1.there c.add.ensures
