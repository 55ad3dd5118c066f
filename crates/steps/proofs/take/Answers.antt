-- A law for each way.
use mathlib.Core.Path.{refl}
use Rattle.steps.proofs.ReadyLaws.{taken_ready}
use Rattle.steps.proofs.RunLaws.{next_marked, next_taken}
use Rattle.steps.proofs.take.Goals as goal

pub returns-then-mark_of-ne0 : goal.returns-then-mark_of-ne0
returns-then-mark_of-ne0 c = (
  next_marked c.args.chart.now _ c.mark_of.ensures
      c.if-mark_of-ne0.true,
  refl,
  λ g h keys R. R,
)

pub take-requires : goal.take-requires
take-requires c = c.requires

pub returns-in_err-j : goal.returns-in_err-j
returns-in_err-j c =
    let s = c.args in
    let t = c.take in
    let e = c.in_err-j.was in
    rw c.from_residual.ensures (
      next_taken s.chart.now _ c.mark_of.ensures t.result _ c.if-mark_of-ne0.false e
          t.ensures.0,
      refl,
      λ g h keys R. rw t.ensures.3 (taken_ready g h keys s.chart.now s.index.now.words s.index.now.lists R
          t.new.self.words t.ensures.2 _ t.result _ e t.ensures.0 refl (t.ensures.1 keys s.index.now.lists)),
    )

pub returns : goal.returns
returns c =
    let s = c.args in
    let t = c.take in
    let e = c.in_ok-j.was in (
      next_taken s.chart.now _ c.mark_of.ensures t.result _ c.if-mark_of-ne0.false e
          t.ensures.0,
      c.mark_handled.ensures,
      λ g h keys R. rw t.ensures.3 (taken_ready g h keys s.chart.now s.index.now.words s.index.now.lists R
          t.new.self.words t.ensures.2 _ t.result _ e t.ensures.0 c.mark_handled.ensures
          (t.ensures.1 keys s.index.now.lists)),
    )
