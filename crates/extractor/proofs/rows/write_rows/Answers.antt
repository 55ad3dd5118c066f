-- The rows from one application on are written, and their sizes are known.
use mathlib.Core.Path.{refl, ◌∙◌}
use lib.ListN.{length-set}
use Rattle.extractor.proofs.TextLaws.{written_start, written_next}
use Rattle.extractor.proofs.rows.write_rows.Goals as goal

pub loop-k-init : goal.loop-k-init
loop-k-init c = (written_start _ _ _ _ _ _ c.requires.0 c.requires.1 c.requires.2 c.requires.3, refl)

pub loop-k-preserved : goal.loop-k-preserved
loop-k-preserved c = (
  written_next _ _ _ _ _ _ _ _ _ _ _ _ _ _ c.loop-k-test.true c.loop-k.invariant.0 refl
      c.row_of-row.ensures c.write_row-at.ensures,
  length-set c.loop-k.sizes _ _ ∙ c.loop-k.invariant.1,
)
