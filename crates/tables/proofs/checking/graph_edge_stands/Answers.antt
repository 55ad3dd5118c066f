-- An edge's line but for question 6 (proofs/EdgeLines).
use native.Mathlib.Omega.{arith}
use Rattle.std.proofs.lemmas.Grind.{common_steps}
use Rattle.questions.specs.Layout.{place_of}
use Rattle.tables.proofs.EdgeLines.{graph_line_lem, nearly_no, nearly_by}
use Rattle.tables.proofs.checking.graph_edge_stands.Goals as goal

pub returns-then-not-fixed : goal.returns-then-not-fixed
returns-then-not-fixed c = nearly_no _ _ _ _ _ _ _ _ _ (graph_line_lem _ _ _ _ _ _ c.graph_label_in-label.ensures
    c.requires.1 c.kind_of-kind.ensures) (grind (arith, common_steps))

pub returns : goal.returns
unfolding place_of
returns c =
    let pre = c.requires in
    nearly_by _ _ _ _ _ _ _ _ _ (graph_line_lem _ _ _ _ _ _ c.graph_label_in-label.ensures pre.1
    c.kind_of-kind.ensures) (grind (arith, common_steps))
    _ _ _ c.graph_edge_place-p.ensures c.rank_at.ensures.0 pre.2
    _ c.attached.ensures
