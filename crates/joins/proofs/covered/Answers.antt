-- Else a subset of the images, since open nodes are nodes of the graph.
use native.Mathlib.Omega.{arith}
use mathlib.Core.Path.{sym}
use Rattle.joins.proofs.Combining.{covers}
use Rattle.joins.proofs.covered.Goals as goal

pub returns-then-sure : goal.returns-then-sure
returns-then-sure c = sym (c.requires.1 c.if-sure.true)

pub returns : goal.returns
returns c = covers _ _ _ _ _ _ c.args.t.now.fit (omega arith)
    c.open_in-nodes.ensures c.images.ensures
