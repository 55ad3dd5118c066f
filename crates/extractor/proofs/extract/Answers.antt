-- The line `D` in front of the rows of the listed applications; nothing where none are listed.
use Rattle.extractor.proofs.TextLaws.{text_none, text_some}
use Rattle.extractor.proofs.extract.Goals as goal

pub returns-in_default : goal.returns-in_default
returns-in_default c = text_none _ _ _ _ _ _ (rw c.in_default.is at c.requires.0)

pub returns : goal.returns
returns c = text_some _ _ _ _ _ _ (rw c.in-Some.is at c.requires.0) _ _ _ _ (rw c.in-Some.is at c.requires.1).0
    c.write_rows-at.ensures.0 c.write_rows-at.ensures.1
    c.write_line.ensures.1
