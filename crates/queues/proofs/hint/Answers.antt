-- The lesser of the two.
use Rattle.queues.specs.Queues.{with_hint}
use native.Mathlib.Omega.{arith}
use mathlib.Core.Path.{sym, ap, ◌∙◌}
use lib.ListN.{set}
use lib.Seq.{set-get_or}
use Rattle.queues.proofs.hint.Goals as goal

pub overflow_cast-ws : goal.overflow_cast-ws
overflow_cast-ws c = omega (arith, c.slice_known-1.given 4228)

pub returns-then-a-ws : goal.returns-then-a-ws
unfolding with_hint
returns-then-a-ws c = ap (set c.args.ws.now 4228) (omega arith)

pub returns-else-a-ws : goal.returns-else-a-ws
unfolding with_hint
returns-else-a-ws c = sym (set-get_or c.args.ws.now 4228 0) ∙ ap
    (set c.args.ws.now 4228) (omega arith)
