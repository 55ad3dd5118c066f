use native.Mathlib.Omega.{arith}
use Rattle.writer.proofs.Goals.{found_goal}
use Rattle.records.proofs.WordLaws.{count_fits}
use Rattle.writer.proofs.find_goal.Goals as goal

pub find-requires : goal.find-requires
find-requires c = omega (
  arith,
  count_fits c.args.chart.now,
  c.item_count-n.ensures,
)

pub returns : goal.returns
returns c = found_goal c.args.t.now.grammar.words.now c.args.t.now.graph.now c.args.t.now.fit c.args.chart.now
    _ _ _ c.requires c.item_count-n.ensures c.goal_item-goal.ensures
    c.find.ensures
