-- A law for each answer.
use mathlib.Core.Path.{sym, ◌∙◌}
use Rattle.replayer.proofs.Verdicts.{tables_accepted, answer_unfit_grammar, answer_unfit_graph, answer_refused, answer_passed}
use Rattle.replayer.proofs.replay.Goals as goal

pub returns-then-not-check_grammar : goal.returns-then-not-check_grammar
returns-then-not-check_grammar c = answer_unfit_grammar _ _ _ (sym c.check_grammar.ensures ∙ c.if-not-check_grammar.true)

pub returns-then-not-check_graph : goal.returns-then-not-check_graph
returns-then-not-check_graph c = answer_unfit_graph _ _ _ (sym c.check_grammar.ensures ∙ c.if-not-check_grammar.false) (sym c.check_graph.ensures ∙ c.if-not-check_graph.true)

pub returns-then-passes : goal.returns-then-passes
returns-then-passes c = answer_passed _ _ _ (tables_accepted
    _ _ _ c.check_grammar.ensures
    c.if-not-check_grammar.false _ c.check_graph.ensures
    c.if-not-check_graph.false) (sym c.passes.ensures ∙ c.if-passes.true)

pub returns-else-passes : goal.returns-else-passes
returns-else-passes c = answer_refused _ _ _ (tables_accepted
    _ _ _ c.check_grammar.ensures
    c.if-not-check_grammar.false _ c.check_graph.ensures
    c.if-not-check_graph.false) (sym c.passes.ensures ∙ c.if-passes.false)
