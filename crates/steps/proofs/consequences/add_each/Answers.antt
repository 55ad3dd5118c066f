-- Where one key is asked for, by its list.
use mathlib.Core.Path.{ap, ◌∙◌}
use Rattle.keys.specs.Keys.{query_of}
use Rattle.records.proofs.WordLaws.{item_inside}
use Rattle.steps.proofs.consequences.add_each.Goals as goal

pub item_at-requires : goal.item_at-requires
item_at-requires c = item_inside _ _ c.requires.0.handled.there

pub add_listed-requires : goal.add_listed-requires
add_listed-requires c = (
  c.requires.0,
  c.requires.1,
  c.in-Some.ensures ∙ ap
      (query_of c.args.t.now.keys.now) c.item_at.ensures,
)
