-- Links and ranking are built of zeros, the lists of none, and the last word tells what they cover.
use Rattle.records.specs.Words.{chart_of}
use Rattle.index.proofs.IndexLaws.{links_empty, ranks_blank, indexed_both}
use Rattle.index.proofs.build.Goals as goal

pub build-requires : goal.build-requires
build-requires c = (links_empty c.args.index.now c.requires.0, c.requires.2)

pub build-requires-2 : goal.build-requires-2
build-requires-2 c =
    let s = c.args in (
      ranks_blank s.index.now _ (chart_of s.chart.now).records c.requires.0 c.build.ensures,
      c.requires.2,
    )

pub cover_all-requires : goal.cover_all-requires
cover_all-requires c =
    c.requires.2

pub returns : goal.returns
returns c =
    let s = c.args in
    let rs = (chart_of s.chart.now).records in
    let I = indexed_both s.keys.now s.index.now _ _ _ rs c.requires.0.size
    c.list_all.ensures c.build.ensures c.build-2.ensures in
    (c.cover_all.ensures.1 s.keys.now _ rs I, c.cover_all.ensures.0)
