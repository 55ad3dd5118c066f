-- Each cursor by itself.
use borrow.Author.Rules.{rules}
use Rattle.lists.proofs.ListLaws.{five}
use Rattle.lists.specs.Cursors.{Skims}
use Rattle.index.specs.Quiet.{quiet_in}
use lib.ListN.{get_or}
use Rattle.index.proofs.skimmed.Goals as goal

pub returns : goal.returns
returns c =
    let s = c.args in
    five (λ i. Skims (quiet_in s.chart.now s.edges) s.ws.now s.n (get_or s.cs i 0) (get_or c.map.result i 0))
    (search rules) (search rules) (search rules) (search rules) (search rules)
