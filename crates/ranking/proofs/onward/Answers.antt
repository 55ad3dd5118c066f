-- What is made anew tells, or else the records do.
use Rattle.records.specs.Words.{chart_of}
use Rattle.ranking.proofs.LeastLaws.{few, number_taken, nothing_taken}
use native.Mathlib.Omega.{arith}
use Rattle.ranking.proofs.onward.Goals as goal

pub overflow_cast-base : goal.overflow_cast-base
overflow_cast-base c = omega (arith, c.slice_known-1.given 1)

pub overflow_add-base : goal.overflow_add-base
overflow_add-base c = omega (arith, c.slice_known-1.given 1)

pub renew-requires : goal.renew-requires
renew-requires c = (
  c.requires.0,
  few c.args.chart.now c.requires.1,
)

pub next-requires : goal.next-requires
next-requires c = c.renew.ensures.levels c.if-ranks-ge2.false

pub again-requires-in-None : goal.again-requires-in-None
again-requires-in-None c = (
  nothing_taken (chart_of c.args.chart.now).records c.renew.new.ranks
      _ _ c.renew.ensures c.if-ranks-ge2.false c.requires.1 c.next.ensures
      c.in-None.is,
  c.requires.1,
)

pub returns-in-Some : goal.returns-in-Some
returns-in-Some c = number_taken (chart_of c.args.chart.now).records c.renew.new.ranks
    _ _ c.renew.ensures c.if-ranks-ge2.false c.requires.1 c.next.ensures
    _ c.in-Some.is
