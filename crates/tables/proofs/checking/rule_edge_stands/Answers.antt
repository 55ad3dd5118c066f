-- An edge's line but for question 6 (proofs/EdgeLines).
use native.Mathlib.Omega.{arith}
use Rattle.std.proofs.lemmas.Grind.{common_steps}
use mathlib.Core.Path.{refl}
use mathlib.Core.List.{[]}
use Rattle.questions.specs.Layout.{place_of}
use Rattle.tables.proofs.EdgeLines.{rule_line_lem, nearly_no, nearly_by}
use Rattle.tables.proofs.checking.rule_edge_stands.Goals as goal

pub returns-then-not-fixed : goal.returns-then-not-fixed
returns-then-not-fixed c = nearly_no [] _ _ _ _ _ _ _ _ (rule_line_lem _ _ _ _ _ _ c.edge_label_in-label.ensures
    c.requires.1 c.rank_at-rank.ensures.0) (grind (arith, common_steps))

pub returns : goal.returns
unfolding place_of
returns c =
    let pre = c.requires in
    nearly_by [] _ _ _ _ _ _ _ _ (rule_line_lem _ _ _ _ _ _ c.edge_label_in-label.ensures pre.1
    c.rank_at-rank.ensures.0) (grind (arith, common_steps)) _ _ _ c.edge_place-p.ensures
    refl pre.2 _ c.attached.ensures
