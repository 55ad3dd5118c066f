-- The cursor has come along its list, over quiet records only.
use native.Mathlib.Omega.{arith}
use mathlib.Core.Path.{refl, sym}
use Rattle.lists.specs.Cursors.{stays}
use Rattle.index.specs.Quiet.{quiet_in}
use Rattle.index.proofs.QuietLaws.{skim_on}
use Rattle.index.proofs.skim.Goals as goal

pub returns-then-from-eq0 : goal.returns-then-from-eq0
returns-then-from-eq0 c = stays _ (sym c.if-from-eq0.true)

pub overflow_mul-end : goal.overflow_mul-end
overflow_mul-end c = omega (arith, c.requires.1)

pub loop-c-init : goal.loop-c-init
loop-c-init c = (omega (arith, c.if-from-eq0.false), refl, stays _ refl)

pub overflow_sub-c : goal.overflow_sub-c
overflow_sub-c c = omega (arith, c.loop-c.invariant.0)

pub quiet-requires : goal.quiet-requires
quiet-requires c = (
  omega (
    arith,
    c.loop-c.invariant.0,
    c.loop-c.invariant.1,
    c.loop-c-test.true,
    c.requires.0,
  ),
  omega (
    arith,
    c.loop-c.invariant.0,
    c.loop-c.invariant.1,
    c.loop-c-test.true,
    c.requires.1,
  ),
)

pub returns-then-not-quiet : goal.returns-then-not-quiet
returns-then-not-quiet c = c.loop-c.invariant.2

pub after-d-requires : goal.after-d-requires
after-d-requires c = omega (arith, c.loop-c.invariant.1, c.loop-c-test.true, c.requires.1)

pub returns-then-d-c : goal.returns-then-d-c
returns-then-d-c c =
    let s = c.args in
    let l = c.loop-c in
    skim_on (quiet_in s.chart.now s.edges) s.ws.now s.n s.from l.c _ _ l.invariant.2 l.invariant.0
    (omega (arith, l.invariant.1, c.loop-c-test.true)) c.quiet.ensures
    c.if-not-quiet.false c.after-d.ensures

pub loop-c-smaller : goal.loop-c-smaller
loop-c-smaller c = omega (
  arith,
  c.loop-c.invariant.0,
  c.loop-c.invariant.1,
  c.loop-c-test.true,
  c.requires.1,
  c.if-d-c.false,
)

pub loop-c-preserved : goal.loop-c-preserved
loop-c-preserved c =
    let s = c.args in
    let l = c.loop-c in (
      omega (arith, c.if-d-c.false),
      l.invariant.1,
      skim_on (quiet_in s.chart.now s.edges) s.ws.now s.n s.from l.c _ _ l.invariant.2 l.invariant.0
          (omega (arith, l.invariant.1, c.loop-c-test.true)) c.quiet.ensures
          c.if-not-quiet.false c.after-d.ensures,
    )

pub returns : goal.returns
returns c = c.loop-c.invariant.2
