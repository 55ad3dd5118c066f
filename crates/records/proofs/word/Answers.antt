-- A read past the end is 0.
use Rattle.records.proofs.WordLaws.{past_end}
use Rattle.records.proofs.word.Goals as goal

pub returns : goal.returns
returns c = past_end c.args.chart.now c.args.i c.if-i-chart.false
