-- A cleared chart with the leaf items is the start's.
use Rattle.steps.proofs.RunLaws.{start_fits, started}
use Rattle.steps.proofs.restart.Goals as goal

pub add_leaves-requires : goal.add_leaves-requires
add_leaves-requires c = start_fits c.args.chart.now c.requires _ c.clear.ensures

pub returns : goal.returns
returns c = started _ c.requires _ _ _ c.clear.ensures c.add_leaves.ensures
