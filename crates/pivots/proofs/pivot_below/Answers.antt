-- A law for each kind of plan node, and for the child that p is.
use Rattle.pivots.proofs.TableLaws.{below_leaf, below_other, edge_known, below_edge, first_known, second_known, below_first, below_second, below_neither, below_unknown}
use Rattle.pivots.proofs.pivot_below.Goals as goal

pub edge_pivot-requires : goal.edge_pivot-requires
edge_pivot-requires c =
    edge_known _ _ c.args.p _ c.requires _ _ _ c.plan_kind-kind.ensures
    c.plan_first-first.ensures c.plan_second-second.ensures c.in-1.is c.if-first-p.true

pub returns-then-first-p : goal.returns-then-first-p
returns-then-first-p c = below_edge _ _ _ _ c.requires _ _ _ c.plan_kind-kind.ensures
    c.plan_first-first.ensures c.plan_second-second.ensures c.in-1.is
    c.if-first-p.true _ c.edge_pivot.ensures

pub shared_node-requires : goal.shared_node-requires
shared_node-requires c =
    first_known _ _ c.args.p _ c.requires _ _ _ c.plan_kind-kind.ensures
    c.plan_first-first.ensures c.plan_second-second.ensures c.in-2.is c.if-first-p-2.true

pub returns-then-first-p-2 : goal.returns-then-first-p-2
returns-then-first-p-2 c = below_first _ _ _ _ c.requires _ _ _ c.plan_kind-kind.ensures
    c.plan_first-first.ensures c.plan_second-second.ensures c.in-2.is
    c.if-first-p-2.true _ c.shared_node.ensures

pub shared_node-requires-then-second-p : goal.shared_node-requires-then-second-p
shared_node-requires-then-second-p c =
    second_known _ _ c.args.p _ c.requires _ _ _ c.plan_kind-kind.ensures
    c.plan_first-first.ensures c.plan_second-second.ensures c.in-2.is
    c.if-second-p.true

pub returns-then-second-p : goal.returns-then-second-p
returns-then-second-p c = below_second _ _ _ _ c.requires _ _ _ c.plan_kind-kind.ensures
    c.plan_first-first.ensures c.plan_second-second.ensures c.in-2.is
    c.if-first-p-2.false c.if-second-p.true _ c.shared_node-then-second-p.ensures

pub returns-in-0 : goal.returns-in-0
returns-in-0 c = below_leaf _ _ _ _ c.requires _ _ _ c.plan_kind-kind.ensures
    c.plan_first-first.ensures c.plan_second-second.ensures c.in-0.is

pub returns-else-first-p : goal.returns-else-first-p
returns-else-first-p c = below_other _ _ _ _ c.requires _ _ _ c.plan_kind-kind.ensures
    c.plan_first-first.ensures c.plan_second-second.ensures c.in-1.is c.if-first-p.false

pub returns-else-second-p : goal.returns-else-second-p
returns-else-second-p c = below_neither _ _ _ _ c.requires _ _ _ c.plan_kind-kind.ensures
    c.plan_first-first.ensures c.plan_second-second.ensures c.in-2.is
    c.if-first-p-2.false c.if-second-p.false

pub returns-in_default : goal.returns-in_default
returns-in_default c = below_unknown _ _ _ _ c.requires _ _ _ c.plan_kind-kind.ensures
    c.plan_first-first.ensures c.plan_second-second.ensures c.in_default.in_default-own.rest.0.0.1
    c.in_default.in_default-own.rest.0.1 c.in_default.in_default-own.rest.1
