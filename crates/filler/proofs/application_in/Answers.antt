-- Both rows of places lie within the line's fields.
use native.Mathlib.Omega.{arith}
use Rattle.filler.proofs.Eights.{rest_is, record_read}
use Rattle.filler.proofs.application_in.Goals as goal

pub returns : goal.returns
returns c = record_read c.args.grammar.now c.args.line.now c.number-rule.result _ c.rule_nodes-nodes.result _
    _ _ c.number-rule.ensures (rest_is _ _ (omega arith)) c.rule_nodes-nodes.ensures c.min-placed.ensures
    c.eight_from.ensures c.eight_from-2.ensures
