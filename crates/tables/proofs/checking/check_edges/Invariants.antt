use mathlib.Core.List.{[]}
use Rattle.questions.specs.declared.Due.TheVariants.{RuleEdge}
use Rattle.questions.specs.Questions.{nodes_on_edges}
use Rattle.tables.proofs.EdgeLines.{Passed}
use Rattle.tables.proofs.checking.check_edges.Given as goal

abbrev pub invariant-loop-i : goal.invariant-loop-i
invariant-loop-i l = Passed [] l.t (RuleEdge l.r) (nodes_on_edges l.t l.r) l.i l.mask
