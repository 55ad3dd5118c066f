-- A row of at most 18 fields takes at most 74 bytes.
use Rattle.extractor.proofs.RowLaws.{line_by}
use Rattle.extractor.proofs.rows.write_row.Goals as goal

pub returns : goal.returns
returns c = line_by _ _ _ _ c.requires.0 c.requires.1 c.requires.2
    c.write_line.ensures.1
