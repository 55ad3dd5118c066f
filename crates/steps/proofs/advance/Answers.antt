-- What the tables give and the index are made, then the steps are done.
use mathlib.Core.Path.{refl}
use Rattle.steps.proofs.ReadyLaws.{built_ready, count_small}
use Rattle.steps.proofs.advance.Goals as goal

pub fill-requires : goal.fill-requires
fill-requires c = refl

pub fill-requires-2 : goal.fill-requires-2
fill-requires-2 c = refl

pub build-requires : goal.build-requires
build-requires c =
    let p = c.requires in (
      c.empty-index.ensures.0,
      c.empty-index.ensures.1,
      count_small _ p.small,
    )

pub advance_by-requires : goal.advance_by-requires
advance_by-requires c =
    let p = c.requires in (
      record {
        accepted = c.args.t.now.tables.fit;
        keyed = c.fill.ensures;
      },
      built_ready _ _ _ _ _ _ p c.build.ensures.0 c.build.ensures.1,
    )

pub returns : goal.returns
returns c = c.advance_by.ensures
