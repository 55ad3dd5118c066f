-- The record of the line there.
use Rattle.filler.proofs.Eights.{read_at}
use Rattle.filler.proofs.application_at.Goals as goal

pub returns : goal.returns
returns c = read_at _ c.args.text.now
    _ c.args.at _ c.application_in.ensures
    c.next_line.ensures.contents
