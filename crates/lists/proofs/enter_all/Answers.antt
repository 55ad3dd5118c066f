-- Five entries, one after another.
use native.Mathlib.Omega.{arith}
use mathlib.Core.Path.{◌∙◌}
use Rattle.lists.proofs.ListLaws.{ready_next, entered_turn, entered_end}
use Rattle.lists.proofs.enter_all.Goals as goal

pub loop-i-preserved : goal.loop-i-preserved
loop-i-preserved c =
    let i = c.loop-i.i in (
      ready_next _ _ _ _ c.loop-i.invariant.0 (omega arith) (c.requires.2 i (omega arith)) c.enter.ensures,
      entered_turn c.loop-i.ws _ _ i c.args.bs (omega arith) c.enter.ensures ∙ c.loop-i.invariant.1,
    )

pub returns : goal.returns
returns c = entered_end _ _ _ _ c.args.bs (omega arith) (omega arith) c.loop-i.invariant.1
