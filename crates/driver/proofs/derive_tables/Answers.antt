-- A law for each answer.
use mathlib.Core.Path.{refl, sym, ◌∙◌}
use Rattle.driver.proofs.ProgramLaws.{prints_unstarted, prints_run, prints_unrun}
use Rattle.driver.proofs.derive_tables.Goals as goal

pub returns-then-is_err : goal.returns-then-is_err
returns-then-is_err c = prints_unstarted _ _ _ _ c.start-started.ensures.0
    c.chart_number.ensures _ _ _ (sym c.is_err.ensures.value ∙ c.if-is_err.true) c.put_refusal.ensures

pub returns-in-Ok : goal.returns-in-Ok
returns-in-Ok c = prints_run _ _ _ _ c.start-started.ensures.0 refl
    _ _ _ (sym c.is_err.ensures.value ∙ c.if-is_err.false) _ c.start-started.ensures.1 _ c.run-outcome.ensures.0
    _ _ c.run-outcome.ensures.1 c.in-Ok.is c.write_chart.ensures

pub returns-in-Err : goal.returns-in-Err
returns-in-Err c = prints_unrun _ _ _ _ c.start-started.ensures.0 refl
    _ _ _ (sym c.is_err.ensures.value ∙ c.if-is_err.false) _ c.start-started.ensures.1 _ c.run-outcome.ensures.0
    _ _ c.in-Err.is c.chart_number-in-Err.ensures c.put_refusal-in-Err.ensures
