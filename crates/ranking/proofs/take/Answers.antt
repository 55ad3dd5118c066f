-- The set tells, unless it is empty where records may be missing or the words say nothing: then the records do.
use Rattle.records.specs.Words.{chart_of}
use Rattle.ranking.proofs.LeastLaws.{number_taken, nothing_waits}
use Rattle.ranking.proofs.take.Goals as goal

pub take-requires : goal.take-requires
take-requires c = c.requires.0.levels c.if-state-ge2.false

pub returns-in-Some : goal.returns-in-Some
returns-in-Some c = number_taken (chart_of c.args.chart.now).records c.args.ranks.now _ _ c.requires.0
    c.if-state-ge2.false c.requires.1 c.take.ensures _ c.in-Some.is

pub returns-then-state-eq0 : goal.returns-then-state-eq0
returns-then-state-eq0 c = nothing_waits (chart_of c.args.chart.now).records c.args.ranks.now _ _ c.requires.0
    c.if-state-ge2.false c.requires.1 c.take.ensures c.in_default.is
    c.if-state-eq0.true
