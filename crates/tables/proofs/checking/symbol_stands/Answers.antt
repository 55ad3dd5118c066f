-- Its own questions, asked of its fields where they stand (proofs/LineFields).
use mathlib.Core.Path.{refl}
use mathlib.Core.List.{[]}
use Rattle.questions.specs.declared.Due.TheVariants.{Symbol}
use Rattle.questions.specs.Layout.{place_of}
use Rattle.std.proofs.Common.{rules}
use Rattle.questions.specs.Questions.{judge}
use Rattle.questions.specs.Checking.{fields_due}
use Rattle.tables.proofs.LineFields.{stands_by}
use Rattle.tables.proofs.checking.symbol_stands.Goals as goal

pub returns : goal.returns
unfolding judge place_of fields_due
returns c = stands_by [] _ (Symbol c.args.s) _ _ c.symbol_place-p.ensures refl _ (λ fs k a. search rules) _ c.stands.ensures
