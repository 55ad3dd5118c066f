-- A law for each answer.
use native.Mathlib.Omega.{arith}
use Prim.Native.Nat.{◌<◌}
use borrow.Author.Rules.{rules}
use Rattle.agenda.proofs.Telling.{fields_size, tells_past, tells_short, tells_full}
use Rattle.records.specs.Words.{item_count}
use Rattle.records.proofs.telling.tell_item.Goals as goal

pub returns-then-item_count-place : goal.returns-then-item_count-place
returns-then-item_count-place c = tells_past _ _ _ _ (omega arith)

pub returns-then-fields-lt-FIELDS : goal.returns-then-fields-lt-FIELDS
returns-then-fields-lt-FIELDS c = tells_short _ _ _ _ (omega arith) (omega arith)

pub load-requires : goal.load-requires
unfolding item_count
load-requires c = search rules

pub returns : goal.returns
returns c =
    let there : c.args.place < item_count
    c.args.chart.now = omega arith in
    tells_full _ _ _ _ there c.if-fields-lt-FIELDS.false _ _ _ c.load.ensures c.fields_of-told.ensures
    (rw (c.copy_from_slice.ensures.after, c.fields_of-told.ensures, fields_size _))
