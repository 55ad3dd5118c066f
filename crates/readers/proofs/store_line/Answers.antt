-- The fields of a line of the shape, judged, and stored where they pass.
use native.Mathlib.Omega.{arith}
use lib.ListN.{length-take}
use Rattle.std.proofs.lemmas.Result.{err_from_is_err_and}
use Rattle.format.proofs.ShapeLaws.{shape_shaped}
use Rattle.readers.proofs.Turns.{judged_fields, stored_fields_is}
use Rattle.readers.proofs.store_line.Goals as goal

pub read_row-n-requires : goal.read_row-n-requires
read_row-n-requires c = omega (arith, (shape_shaped _ c.requires.1).few)

pub slice_bounds-values-end : goal.slice_bounds-values-end
slice_bounds-values-end c = omega (arith, c.read_row-n.ensures.0, (shape_shaped _ c.requires.1).few)

pub slice_bounds-f-end : goal.slice_bounds-f-end
slice_bounds-f-end c = omega (
  arith,
  length-take c.read_row-n.result c.read_row-n.new.row,
  c.read_row-n.auto.row,
  c.read_row-n.ensures.0,
  (shape_shaped _ c.requires.1).few,
)

pub returns-in_err-judge : goal.returns-in_err-judge
returns-in_err-judge c =
    let p = err_from_is_err_and c.from_residual.result c.from_residual.ensures.1 in rw (p.1, p.2)
    (judged_fields _ _ _ _ c.requires.0 c.read_row-n.ensures.1 _ _ c.in_err-judge.ensures, tt)

pub returns : goal.returns
returns c = (
  judged_fields _ _ _ _ c.requires.0 c.read_row-n.ensures.1 _ _ c.in_ok-judge.ensures,
  stored_fields_is _ _ _ _ c.requires.0 c.read_row-n.ensures.1 _ c.store.ensures,
)
