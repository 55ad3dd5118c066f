-- The two answers, by a law each.
use mathlib.Core.Path.{ap}
use mathlib.Core.List.{◌++◌}
use lib.ListN.{length, drop}
use Rattle.readers.proofs.Delivery.{gives_short, gives_table}
use Rattle.readers.proofs.deliver.Goals as goal

pub returns-then-table-t : goal.returns-then-table-t
returns-then-table-t c = gives_short _ _ _ c.if-table-t.true

pub returns : goal.returns
returns c = gives_table _ _ _ _ c.if-table-t.false (ap (λ l. l ++ drop (length c.args.t.now) c.args.table.now) c.copy_from_slice.ensures.after)
