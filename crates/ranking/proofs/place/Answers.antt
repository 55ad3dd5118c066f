-- One that does not wait orders the order 0.
use Rattle.ranking.proofs.SetLaws.{ranked_still, placed_some, placed_none}
use Rattle.ranking.proofs.place.Goals as goal

pub returns-then-waits : goal.returns-then-waits
returns-then-waits c = λ rs rs' R z E. c.insert.ensures rs rs' R z
    (placed_some c.args.waits c.args.j c.args.count rs rs' c.if-waits.true E)

pub returns-else-waits : goal.returns-else-waits
returns-else-waits c = λ rs rs' R z E. ranked_still _ c.args.j rs rs' R z
    (placed_none c.args.waits c.args.j c.args.count rs rs'
    c.if-waits.false E)
