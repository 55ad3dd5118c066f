use native.Mathlib.Omega.{arith}
use Prim.Native.Nat.{ℕ}
use mathlib.Core.Path.{refl}
use mir.Val.{Fits}
use mir.Syntax.{w32, w64}
use Prim.Native.Nat.{◌/◌, ◌%◌}
use Rattle.chains.proofs.ChainLaws.{chain_start, chain_some, inside, same_in, chain_hit, chain_less, chain_next, chain_end, bit_some, bit_none}
use Rattle.chains.proofs.find.Goals as goal

widened : (n : ℕ) → Fits w32 n → Fits w64 n
widened n h = omega (arith, h)

pub overflow_cast-i : goal.overflow_cast-i
overflow_cast-i c = widened _ (c.shared_slice_known-3-1.given _)

pub loop-i-init : goal.loop-i-init
loop-i-init c =
    let s = c.args in chain_start s.x _ s.links.now
    c.requires.0 s.h _ c.requires.1 refl

pub overflow_sub-k : goal.overflow_sub-k
overflow_sub-k c =
    let l = c.loop-i in omega (
      arith,
      chain_some _ _ l.i l.invariant (bit_some _ _ c.loop-i-test.true),
    )

pub same-requires : goal.same-requires
same-requires c =
    let s = c.args in let l = c.loop-i in inside
    s.chart.now (l.i % 8192) l.invariant.at.low (chain_some _ _ l.i l.invariant
    (bit_some _ _ c.loop-i-test.true))

pub overflow_sub-result : goal.overflow_sub-result
overflow_sub-result c =
    let l = c.loop-i in
    omega (arith, chain_some _ _ l.i l.invariant (bit_some _ _ c.loop-i-test.true))

pub returns-then-same : goal.returns-then-same
returns-then-same c =
    let s = c.args in
    let l = c.loop-i in
    let n = bit_some _ _ c.loop-i-test.true in
    let some = chain_some _ _ l.i l.invariant n in
    let low = l.invariant.at.low in
    chain_hit s.x _ l.i l.invariant n (same_in s.x s.chart.now _ c.same.result
    _ (omega (arith, some, low)) c.same.ensures c.if-same.true)

pub bounds-links-k : goal.bounds-links-k
bounds-links-k c =
    let l = c.loop-i in
    omega (arith, c.requires.0.words, c.requires.0.few, l.invariant.at.low)

pub overflow_cast-i-in-loop-i : goal.overflow_cast-i-in-loop-i
overflow_cast-i-in-loop-i c = widened _ (c.shared_slice_known-in-loop-i-1.given _)

pub loop-i-smaller : goal.loop-i-smaller
loop-i-smaller c =
    let s = c.args in
    let l = c.loop-i in
    let n = bit_some _ _ c.loop-i-test.true in
    let some = chain_some _ _ l.i l.invariant n in
    let low = l.invariant.at.low in
    let missed = same_in s.x s.chart.now _ c.same.result _ (omega (arith, some, low))
    c.same.ensures c.if-same.false in
    chain_less s.x _ l.i l.invariant n s.links.now c.requires.0 missed _ refl

pub loop-i-preserved : goal.loop-i-preserved
loop-i-preserved c =
    let s = c.args in
    let l = c.loop-i in
    let n = bit_some _ _ c.loop-i-test.true in
    let some = chain_some _ _ l.i l.invariant n in
    let low = l.invariant.at.low in
    let missed = same_in s.x s.chart.now _ c.same.result _ (omega (arith, some, low))
    c.same.ensures c.if-same.false in
    chain_next s.x _ l.i l.invariant n s.links.now c.requires.0 missed _ refl

pub returns : goal.returns
returns c =
    let s = c.args in let l = c.loop-i in chain_end s.x
    _ l.i s.h l.invariant c.requires.1
    (bit_none l.i (s.h / 65536 % 16) _ (omega arith) refl c.loop-i-test.false)
