-- By the kind of the line (proofs/Carrying).
use native.Mathlib.Omega.{arith}
use Rattle.tables.proofs.Carrying.{keeps_none, keeps_one, keeps_two, keeps_unknown}
use Rattle.tables.proofs.plans.with_line.Goals as goal

pub returns-in-0 : goal.returns-in-0
returns-in-0 c =
    let pre = c.requires in keeps_none _ _ _ _ _ _ _ _ pre.2
    pre.0.lines c.line_in-line.ensures.0 c.line_in-line.ensures.1
    c.line_in-line.ensures.2 c.in-0.is _ c.with_leaf.ensures

pub returns-in-1 : goal.returns-in-1
returns-in-1 c =
    let pre = c.requires in
    keeps_one _ _ _ _ _ _ _ _ pre.2 pre.0.lines c.line_in-line.ensures.0
    c.line_in-line.ensures.1 c.line_in-line.ensures.2
    c.in-1.is _ pre.1 _ c.with_introduce.ensures

pub returns-in-2 : goal.returns-in-2
returns-in-2 c =
    let pre = c.requires in
    keeps_two _ _ _ _ _ _ _ _ pre.2 pre.0.lines c.line_in-line.ensures.0
    c.line_in-line.ensures.1 c.line_in-line.ensures.2
    c.in-2.is _ c.with_join.ensures

pub returns-in_default : goal.returns-in_default
returns-in_default c =
    let pre = c.requires in let match = c.in_default in keeps_unknown
    _ _ _ _ _ _ _ _ pre.2 pre.0.lines c.line_in-line.ensures.0
    c.line_in-line.ensures.1 c.line_in-line.ensures.2
    (omega (arith, match.in_default-own.rest.0.0.1, match.in_default-own.rest.0.1, match.in_default-own.rest.1))
