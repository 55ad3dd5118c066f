-- A law for each answer.
use borrow.Author.Rules.{rules}
use mathlib.Core.Path.{ap}
use mathlib.Core.List.{◌++◌}
use lib.ListN.{length, drop}
use Rattle.writer.proofs.Deliveries.{deliver_refused, deliver_short, deliver_written}
use Rattle.writer.proofs.deliver.Goals as goal

pub returns-then-not-passes : goal.returns-then-not-passes
returns-then-not-passes c = deliver_refused _ _ _ _ _ c.passes.ensures c.if-not-passes.true

pub returns-then-out-text : goal.returns-then-out-text
returns-then-out-text c = deliver_short _ _ _ _ _ c.passes.ensures c.if-not-passes.false
    c.if-out-text.true

pub returns : goal.returns
returns c = deliver_written _ _ _ _ _ c.passes.ensures _ c.if-not-passes.false
    c.if-out-text.false (ap (λ front. front ++ drop (length c.args.text.now) c.args.out.now) (search rules))
