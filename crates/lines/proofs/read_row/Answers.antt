-- A loop that reads one field a turn: the row holds the fields so far.
use native.Mathlib.Omega.{arith}
use mathlib.Core.Path.{◌∙◌}
use lib.Seq.{drop-set-lt}
use Rattle.lines.proofs.Rows.{row_more}
use Rattle.lines.proofs.read_row.Goals as goal

pub loop-k-preserved : goal.loop-k-preserved
loop-k-preserved c = (
  row_more _ _ _ _ (omega (arith, c.field_count-count.ensures)) (omega (arith, c.requires, c.field_count-count.ensures))
      c.number.ensures c.loop-k.invariant.0,
  drop-set-lt _ c.loop-k.row _ _ c.loop-k-test.true ∙ c.loop-k.invariant.1,
)
