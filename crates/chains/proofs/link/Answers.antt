-- Two words are set: the record before, then the bucket.
use native.Mathlib.Omega.{arith}
use Prim.Native.Nat.{ℕ, ◌*◌, ◌/◌, ◌%◌, ◌^◌, ◌<◌}
use mir.Syntax.{w32}
use mir.Val.{Fits}
use lib.Bits.{bit_or, or_lt}
use lib.ListN.{get_or, length-set}
use lib.Pow.{pow-lt}
use Rattle.masks.specs.Masks.{◌∪◌}
use Rattle.masks.proofs.Laws.{shifted_single}
use Rattle.chains.specs.Chains.{linked}
use Rattle.chains.proofs.link.Goals as goal

-- the set of a word of 32 bits, with one bit of sixteen more
set_below : (w e : ℕ) → Fits w32 w → e < 16 → bit_or (w / 8192) (1 * 2 ^ e % 2 ^ 64) < 524288
set_below w e h l = or_lt 19 (w / 8192) (1 * 2 ^ e % 2 ^ 64) (omega (arith, h)) (omega (arith, pow-lt l))

pub overflow_cast-links : goal.overflow_cast-links
overflow_cast-links c = omega (arith, c.slice_known-1.given (c.args.h / 1048576))

pub overflow_mul-links : goal.overflow_mul-links
overflow_mul-links c =
    let s = c.args in
    omega (
      arith,
      set_below (get_or s.links.now (s.h / 1048576) 0) (s.h / 65536 % 16)
          (c.slice_known-1.given (s.h / 1048576)) (omega arith),
    )

pub overflow_add-links-3 : goal.overflow_add-links-3
overflow_add-links-3 c =
    let s = c.args in
    omega (
      arith,
      set_below (get_or s.links.now (s.h / 1048576) 0) (s.h / 65536 % 16)
          (c.slice_known-1.given (s.h / 1048576)) (omega arith),
    )

pub overflow_cast-links-2 : goal.overflow_cast-links-2
overflow_cast-links-2 c =
    let s = c.args in
    omega (
      arith,
      set_below (get_or s.links.now (s.h / 1048576) 0) (s.h / 65536 % 16)
          (c.slice_known-1.given (s.h / 1048576)) (omega arith),
    )

pub bounds-links-b-2 : goal.bounds-links-b-2
bounds-links-b-2 c = simp length-set (omega arith)

pub returns : goal.returns
unfolding linked ◌∪◌
returns c = rw (shifted_single (c.args.h / 65536 % 16) (omega arith))
