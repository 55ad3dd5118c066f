-- The start stands for that of the definition.
use mathlib.Core.Path.{refl}
use mathlib.Core.Bool.{false}
use Rattle.replayer.specs.Following.{progress_in}
use Rattle.replayer.proofs.Verdicts.{externals_small, start_rows, start_stands, stands_failed}
use Rattle.replayer.proofs.from_start.Goals as goal

pub mask_of-requires : goal.mask_of-requires
mask_of-requires c = (
  c.rank_at.ensures.1,
  externals_small _ c.args.t.now.graph.now c.args.t.now.fit _
      c.start_symbol-s.ensures _ c.rank_at.ensures.0 _ c.externals-listed.ensures
      c.rank_at.ensures.1,
)

pub application-requires : goal.application-requires
application-requires c = start_rows _ c.requires _ c.after_line.ensures

pub returns-then-application : goal.returns-then-application
returns-then-application c =
    let rank = c.rank_at.ensures in
    start_stands _ _ c.args.t.now.fit _ c.start_symbol-s.ensures _ rank.0 _ c.externals-listed.ensures rank.1 _ _ _ c.mask_of.ensures
    _ _ refl c.if-application.ensures

pub returns-else-application : goal.returns-else-application
returns-else-application c =
    let rank = c.rank_at.ensures in
    stands_failed _ (progress_in false c.application.new.st) _ refl
    (start_stands _ _ c.args.t.now.fit _ c.start_symbol-s.ensures _ rank.0 _ c.externals-listed.ensures rank.1 _ _ _ c.mask_of.ensures
    _ _ refl c.if-application.ensures)
