-- A plan node is a line of the table.
use Rattle.joins.proofs.Known.{node_there}
use Rattle.extractor.proofs.RuleLookup.{line_at_lem}
use Rattle.extractor.proofs.lookup.plan_line.Goals as goal

pub line_in-requires : goal.line_in-requires
line_in-requires c = node_there _ _ _ c.requires

pub returns : goal.returns
returns c =
    let (kind, first, second) = c.line_in.ensures in
    line_at_lem _ _ _ _ _ _ c.requires kind first second
