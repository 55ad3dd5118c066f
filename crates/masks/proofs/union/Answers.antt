-- An `|` is the union by definition, and its members are a law.
use mathlib.Core.Path.{refl}
use Rattle.masks.specs.Masks.{◌∪◌}
use Rattle.masks.proofs.Laws.{member_union}
use Rattle.masks.proofs.union.Goals as goal

pub returns : goal.returns
unfolding ◌∪◌
returns c = record { value = refl; members = λ e h. member_union c.args.a c.args.b e }
