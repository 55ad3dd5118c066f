-- Its own questions, asked of its fields where they stand (proofs/LineFields).
use Prim.Native.Nat.{◌+◌}
use mathlib.Core.Path.{refl, ap, ◌∙◌}
use Rattle.questions.specs.declared.Due.TheVariants.{Graph}
use Rattle.questions.specs.Layout.{place_of, rank_at}
use Rattle.std.proofs.Common.{rules}
use Rattle.questions.specs.Questions.{judge}
use Rattle.questions.specs.Checking.{fields_due}
use Rattle.tables.proofs.LineFields.{stands_by}
use Rattle.tables.proofs.checking.graph_stands.Goals as goal

pub returns : goal.returns
unfolding judge place_of fields_due
returns c = stands_by _ _ Graph _ _ refl (ap (λ k. 2 + k) (c.rank_at-n.ensures.0 ∙ ap (rank_at c.args.g.now) c.start_symbol.ensures))
    _ (λ fs k a. search rules) _ c.stands.ensures
