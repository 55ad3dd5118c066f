use native.Mathlib.Omega.{arith}
use Prim.Native.Nat.{◌*◌}
use mathlib.Core.Path.{ap, ◌∙◌}
use Rattle.lists.specs.Lists.{entered_all}
use Rattle.lists.specs.Cursors.{alone}
use Rattle.index.proofs.IndexLaws.{keys_within}
use Rattle.index.proofs.list.Goals as goal

pub enter_one-requires : goal.enter_one-requires
enter_one-requires c =
    let s = c.args in (
      c.requires.0,
      omega (arith, c.requires.1),
      keys_within s.keys.now s.x (alone c.in-Some.own) c.in-Some.ensures 0 (omega arith),
    )

pub returns-in-Some : goal.returns-in-Some
returns-in-Some c = c.enter_one.ensures ∙ ap (entered_all c.args.lists.now (5 * c.args.n)) c.in-Some.ensures
