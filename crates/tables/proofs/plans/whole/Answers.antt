-- Each set has all that it must have.
use native.Mathlib.Omega.{arith}
use mathlib.Core.Path.{refl, sym, ◌∙◌}
use mathlib.Core.Bool.{true, false}
use Rattle.tables.proofs.Planning.{all_marked, eight_edges, whole_ok}
use Rattle.tables.proofs.plans.whole.Goals as goal

pub returns-then-has_all : goal.returns-then-has_all
returns-then-has_all c =
    let edges = eight_edges c.min.result _ _ (omega arith) c.rule_edges.ensures in
    whole_ok _ _ _ _ _ _ true _ (sym c.if-has_all.true ∙ all_marked _ _ _ _ _ _ _ refl (omega (arith, c.requires.lines))
    c.marks_before-before.ensures.below c.mark_children-children.ensures
    c.has_all.ensures) (all_marked _ _ _ _ _ _ _ edges.0 edges.1
    c.marks_before-before.ensures.edges c.mark_introduced-introduced.ensures
    c.has_all-then-has_all.ensures)

pub returns-else-has_all : goal.returns-else-has_all
returns-else-has_all c = rw c.if-has_all.false (whole_ok _ _ _ _ _ _ false _ (sym c.if-has_all.false ∙ all_marked _ _ _ _ _ _ _ refl (omega (arith, c.requires.lines))
    c.marks_before-before.ensures.below c.mark_children-children.ensures
    c.has_all.ensures) refl)
