use native.Mathlib.Omega.{arith}
use Prim.Native.Nat.{ℕ}
use mathlib.Core.Path.{sym, ap, ◌∙◌}
use Rattle.agenda.specs.Steps.{handled_count}
use Rattle.records.specs.Words.{records_at}
use Rattle.records.proofs.WordLaws.{handled_start, handled_more, handled_same}
use Rattle.records.proofs.handled_steps.Goals as goal
use Rattle.records.proofs.handled_steps.Goals.{then-is_handled, else-is_handled}

pub loop-i-init : goal.loop-i-init
loop-i-init c = (omega arith, handled_start _)

pub loop-i-preserved : goal.loop-i-preserved
loop-i-preserved c =
    let l = c.loop-i in
    elim c.if-is_handled.branch [
      | then-is_handled w ↦ (
        omega arith,
        w.done-is ∙ handled_more c.args.chart.now l.i l.done
            (sym c.is_handled.ensures ∙ w.if-is_handled.true) l.invariant.1,
      )
      | else-is_handled w ↦ (
        omega arith,
        w.done-is ∙ handled_same c.args.chart.now l.i l.done
            (sym c.is_handled.ensures ∙ w.if-is_handled.false) l.invariant.1,
      )
    ]

pub returns : goal.returns
returns c = c.loop-i.invariant.1 ∙ ap (λ (k : ℕ). handled_count
    (records_at c.args.chart.now k)) (omega arith)
