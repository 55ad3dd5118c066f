-- A law for each arm.
use native.Mathlib.Omega.{arith}
use mathlib.Core.Path.{sym, ap}
use Rattle.keys.specs.Keys.{place_of}
use Rattle.pivots.proofs.Answers.{place_past}
use Rattle.pivots.proofs.place_of.Goals as goal

pub returns-in-1 : goal.returns-in-1
unfolding place_of
returns-in-1 c = (ap place_of (sym c.in-1.is), omega arith)

pub returns-in-2 : goal.returns-in-2
unfolding place_of
returns-in-2 c = (ap place_of (sym c.in-2.is), omega arith)

pub returns-in-4 : goal.returns-in-4
unfolding place_of
returns-in-4 c = (ap place_of (sym c.in-4.is), omega arith)

pub returns-in-8 : goal.returns-in-8
unfolding place_of
returns-in-8 c = (ap place_of (sym c.in-8.is), omega arith)

pub returns-in-16 : goal.returns-in-16
unfolding place_of
returns-in-16 c = (ap place_of (sym c.in-16.is), omega arith)

pub returns-in_default : goal.returns-in_default
returns-in_default c = place_past _ c.in_default.in_default-own.rest.0.0.0.0.1 c.in_default.in_default-own.rest.0.0.0.1 c.in_default.in_default-own.rest.0.0.1
    c.in_default.in_default-own.rest.0.1 c.in_default.in_default-own.rest.1
