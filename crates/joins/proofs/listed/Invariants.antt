use Prim.Native.Nat.{◌+◌}
use Rattle.hrg.specs.Counts.{tabulate}
use Rattle.questions.specs.Layout.{line_field}
use Rattle.joins.specs.Joins.{NodesIn}
use Rattle.joins.proofs.listed.Given as goal

abbrev pub invariant-loop-k : goal.invariant-loop-k
invariant-loop-k l = NodesIn l.mask (tabulate l.k (λ j. line_field l.t l.p (l.from + j)))
