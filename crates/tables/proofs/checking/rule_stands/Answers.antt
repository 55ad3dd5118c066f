-- Its own questions, asked of its fields where they stand (proofs/LineFields).
use Prim.Native.Nat.{◌+◌}
use mathlib.Core.Path.{ap, ◌∙◌}
use mathlib.Core.List.{[]}
use Rattle.questions.specs.declared.Due.TheVariants.{Rule}
use Rattle.questions.specs.Layout.{place_of, rank_at}
use Rattle.std.proofs.Common.{rules}
use Rattle.questions.specs.Questions.{judge}
use Rattle.questions.specs.Checking.{fields_due}
use Rattle.tables.proofs.LineFields.{stands_by}
use Rattle.tables.proofs.checking.rule_stands.Goals as goal

pub returns : goal.returns
unfolding judge place_of fields_due
returns c = stands_by [] _ (Rule c.args.r) _ _ c.rule_place-p.ensures
    (ap (λ k. 5 + k) (c.rank_at-n.ensures.0 ∙ ap (rank_at c.args.t.now) c.rule_symbol_in.ensures))
    _ (λ fs k a. search rules) _ c.stands.ensures
