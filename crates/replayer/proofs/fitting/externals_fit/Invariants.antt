use lib.ListN.{get_or}
use lib.Dec.{eqb}
use Rattle.questions.specs.Layout.{rule_external}
use Rattle.preorder.specs.Replay.{rule_in}
use Rattle.replayer.specs.Fitting.{node_in}
use Rattle.replayer.proofs.NodeTests.{PassedTo}
use Rattle.replayer.proofs.fitting.externals_fit.Given as goal

abbrev pub invariant-loop-k : goal.invariant-loop-k
invariant-loop-k l = PassedTo
    (λ k.
    eqb (node_in l.row.fields.now (rule_external l.row.tables.grammar.words.now (rule_in l.row.fields.now) k))
    (get_or l.listed k 0)) l.k
