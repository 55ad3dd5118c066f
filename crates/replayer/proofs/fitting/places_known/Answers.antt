-- Every place passes, or one is no graph node.
use Rattle.std.proofs.Common.{rules, List, ℕ, ◌+◌, ◌-◌, ◌<◌, ◌↔◌, IsTrue, length, get_or, take, drop}
use Rattle.replayer.proofs.NodeTests.{every_place}
use Rattle.replayer.proofs.fitting.places_known.Goals as goal

pub returns : goal.returns
returns c =
    let placed : List ℕ = take (2 + c.args.count - 2) (drop 2 c.args.row.now) in
    let passes : IsTrue c.all.result ↔ ((k : ℕ) → k < length placed → get_or placed k 0 < c.args.nodes) = search rules in
    every_place c.args.row.now c.args.count c.args.nodes _ c.requires.1 passes
