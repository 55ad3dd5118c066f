-- The text that is extracted is that of the tree, and stands at the buffer's end.
use native.Mathlib.Omega.{arith}
use Prim.Native.Nat.{◌-◌}
use lib.ListN.{length}
use Rattle.writer.proofs.Deliveries.{part_delivered, item_written}
use Rattle.writer.proofs.write_listed.Goals as goal

pub returns : goal.returns
returns g c =
    let text = c.extract-start.new.text in
    let start = c.extract-start.result in
    item_written _ _ _ _ _ _ _ _ c.extract-start.ensures.contents
    (part_delivered _ _ text _ _ _ start (length text - start) (omega arith) c.deliver.ensures)
