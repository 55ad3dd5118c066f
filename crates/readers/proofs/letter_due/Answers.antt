-- A `match` on the kind that the letter starts: what each kind asks of the line that is due, and the rest (proofs/Letters).
use native.Mathlib.Omega.{arith}
use Rattle.format.specs.Shape.{kind_letter}
use Rattle.format.specs.declared.Letter.TheVariants.{G, S, R, E, P, H}
use Rattle.readers.proofs.Letters.{no_edge, kind_due, kind_not_due, none_due}
use Rattle.readers.proofs.letter_due.Goals as goal

pub returns-in-Grammar : goal.returns-in-Grammar
unfolding kind_letter
returns-in-Grammar c = kind_due _ _ c.letter_kind.ensures G _ c.in-G.is (omega arith) c.in-Grammar.is

pub returns-in_default-matches : goal.returns-in_default-matches
returns-in_default-matches c = kind_not_due _ _ c.letter_kind.ensures G _ c.in-G.is c.in_default-matches.not-Grammar

pub returns-in-Symbol : goal.returns-in-Symbol
unfolding kind_letter
returns-in-Symbol c = kind_due _ _ c.letter_kind.ensures S _ c.in-S.is (omega arith) (c.in-Symbol.field-0, c.in-Symbol.is)

pub returns-in_default-matches-2 : goal.returns-in_default-matches-2
returns-in_default-matches-2 c = kind_not_due _ _ c.letter_kind.ensures S _ c.in-S.is (λ o. c.in_default-matches-2.not-Symbol o.0 o.1)

pub returns-in-Rule : goal.returns-in-Rule
unfolding kind_letter
returns-in-Rule c = kind_due _ _ c.letter_kind.ensures R _ c.in-R.is (omega arith) (c.in-Rule.field-0, c.in-Rule.is)

pub returns-in_default-matches-3 : goal.returns-in_default-matches-3
returns-in_default-matches-3 c = kind_not_due _ _ c.letter_kind.ensures R _ c.in-R.is (λ o. c.in_default-matches-3.not-Rule o.0 o.1)

pub returns-in-RuleEdge : goal.returns-in-RuleEdge
unfolding kind_letter
returns-in-RuleEdge c = kind_due _ _ c.letter_kind.ensures E _ c.in-E.is (omega arith) c.in-RuleEdge.is

pub returns-in_default-matches-4 : goal.returns-in_default-matches-4
returns-in_default-matches-4 c = kind_not_due _ _ c.letter_kind.ensures E _ c.in-E.is (no_edge _ c.in_default-matches-4.not-RuleEdge c.in_default-matches-4.not-GraphEdge)

pub returns-in-PlanLine : goal.returns-in-PlanLine
unfolding kind_letter
returns-in-PlanLine c = kind_due _ _ c.letter_kind.ensures P _ c.in-P.is (omega arith) (c.in-PlanLine.field-0, c.in-PlanLine.field-1, c.in-PlanLine.is)

pub returns-in_default-matches-5 : goal.returns-in_default-matches-5
returns-in_default-matches-5 c = kind_not_due _ _ c.letter_kind.ensures P _ c.in-P.is (λ o. c.in_default-matches-5.not-PlanLine o.0 o.1 o.2)

pub returns-in-Graph : goal.returns-in-Graph
unfolding kind_letter
returns-in-Graph c = kind_due _ _ c.letter_kind.ensures H _ c.in-H.is (omega arith) c.in-Graph.is

pub returns-in_default-matches-6 : goal.returns-in_default-matches-6
returns-in_default-matches-6 c = kind_not_due _ _ c.letter_kind.ensures H _ c.in-H.is c.in_default-matches-6.not-Graph

pub returns-in_default : goal.returns-in_default
returns-in_default c =
    let rest = c.in_default in
    none_due _ _ c.letter_kind.ensures c.requires rest.not-G rest.not-S rest.not-R rest.not-E rest.not-P rest.not-H _
