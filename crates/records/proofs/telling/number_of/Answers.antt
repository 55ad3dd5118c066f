-- No words have no first one.
use native.Mathlib.Omega.{arith}
use mathlib.Core.Path.{sym}
use lib.ListN.{get_or-eq_default}
use Rattle.records.proofs.telling.number_of.Goals as goal

pub returns-then-chart-eq0 : goal.returns-then-chart-eq0
returns-then-chart-eq0 c = sym (get_or-eq_default c.args.chart.now 0 (omega arith))
