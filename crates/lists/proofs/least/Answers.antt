-- The nearest of five, and its record.
use native.Mathlib.Omega.{arith}
use mathlib.Core.Path.{◌≡◌}
use Rattle.lists.specs.Cursors.{nearest_of}
use Rattle.lists.proofs.CursorLaws.{nearest_end, nearest_pos, least_by}
use Rattle.lists.proofs.least.Goals as goal

pub overflow_sub-result : goal.overflow_sub-result
overflow_sub-result c =
    let m = c.loop-c.m in
    let nearest : m ≡ nearest_of c.args.cs = nearest_end c.args.cs m _ (omega arith) (omega arith) c.loop-c.invariant in
    (nearest_pos c.args.cs m nearest).0

pub returns : goal.returns
returns c =
    let m = c.loop-c.m in
    least_by c.args.cs m (nearest_end c.args.cs m _ (omega arith) (omega arith) c.loop-c.invariant)
