use native.Mathlib.Omega.{arith}
use Rattle.records.specs.Words.{chart_of}
use Rattle.records.proofs.WordLaws.{count_fits}
use Rattle.ranking.proofs.LeastLaws.{least_told, few, told_small, told_inside, taken_told}
use Rattle.ranking.proofs.again.Goals as goal

pub least-requires : goal.least-requires
least-requires c = omega (arith, count_fits c.args.chart.now, c.item_count.ensures)

pub count_at-count-requires : goal.count_at-count-requires
count_at-count-requires c =
    let w = c.args.chart.now in
    let told = least_told w c.item_count.result _ _ c.in_ok-j.was
    c.item_count.ensures c.least.ensures in
    told_inside w _ c.requires.1 told

pub renew-requires : goal.renew-requires
renew-requires c = (c.requires.0.size, few c.args.chart.now c.requires.1)

pub remove-requires : goal.remove-requires
remove-requires c =
    let w = c.args.chart.now in
    let told = least_told w c.item_count.result _ _ c.in_ok-j.was
    c.item_count.ensures c.least.ensures in
    (c.renew.ensures.size, told_small w _ c.requires.1 told)

pub returns-in_err-j : goal.returns-in_err-j
returns-in_err-j c =
    let told = least_told c.args.chart.now c.item_count.result _ _ c.in_err-j.was
    c.item_count.ensures c.least.ensures in
    rw c.from_residual.ensures (told, c.requires.0)

pub returns : goal.returns
returns c =
    let w = c.args.chart.now in
    let told = least_told w c.item_count.result _ _ c.in_ok-j.was
    c.item_count.ensures c.least.ensures in (
      told,
      taken_told w _ c.requires.1 told c.count_at-count.result
          _ c.count_at-count.ensures (c.remove.ensures (chart_of w).records
          _ c.renew.ensures),
    )
