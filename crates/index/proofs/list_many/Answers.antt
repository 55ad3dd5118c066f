use native.Mathlib.Omega.{arith}
use Prim.Native.Nat.{◌*◌}
use mathlib.Core.Path.{ap, ◌∙◌}
use Rattle.lists.specs.Lists.{entered_all}
use Rattle.index.proofs.IndexLaws.{keys_within}
use Rattle.index.proofs.list_many.Goals as goal

pub enter_all-requires : goal.enter_all-requires
enter_all-requires c =
    let s = c.args in (
      c.requires.0,
      omega (arith, c.requires.1),
      keys_within s.keys.now s.x c.listing-own.result c.listing-own.ensures,
    )

pub returns : goal.returns
returns c =
    let s = c.args in
    c.enter_all.ensures ∙ ap (entered_all s.lists.now (5 * s.n)) c.listing-own.ensures
