-- The tests of the nonterminal rule, and those of the join rule.
use mathlib.Core.Path.{◌≡◌, refl}
use lib.ListN.{length}
use borrow.Author.Rules.{rules}
use Rattle.rules.proofs.Inside.{node_inside}
use Rattle.rules.proofs.JoinWords.{asked_known, asked_nodes}
use Rattle.rules.proofs.RuleAnswers.{filled_active, filled_label, filled_made, joined_passive, joined_rule, joined_second, joined_made}
use Rattle.rules.proofs.second_map.Goals as goal

pub returns-then-y-eq0 : goal.returns-then-y-eq0
returns-then-y-eq0 c =
    let asks = c.requires.0 in
    filled_active _ _ _ asks.node _ _ _ asks.word c.if-w-eq-ASKS_EDGE.true refl c.if-y-eq0.true

pub returns-then-asked-y : goal.returns-then-asked-y
returns-then-asked-y c =
    let asks = c.requires.0 in
    filled_label _ _ _ asks.node _ _ _ asks.word c.if-w-eq-ASKS_EDGE.true refl c.if-y-eq0.false
    c.if-asked-y.true

pub plan_second_in-i-requires : goal.plan_second_in-i-requires
plan_second_in-i-requires c = node_inside c.requires.0.node

pub attach_by-requires : goal.attach_by-requires
attach_by-requires c =
    let asks = c.requires.0 in
    let second = c.plan_second_in-i.ensures in (
      asked_known _ _ _ _ asks.word c.if-w-eq-ASKS_EDGE.true asks.node _ second,
      asked_nodes _ _ _ _ asks.word c.if-w-eq-ASKS_EDGE.true asks.node _ second,
    )

pub returns-then-w-eq-ASKS_EDGE : goal.returns-then-w-eq-ASKS_EDGE
returns-then-w-eq-ASKS_EDGE c =
    let y = c.args.y in
    let eight : length y.nodes ≡ 8 = search rules in
    let asks = c.requires.0 in
    let second = c.plan_second_in-i.ensures in
    filled_made _ _ _ asks.node _ _ _ asks.word c.if-w-eq-ASKS_EDGE.true second c.if-y-eq0.false _
    c.if-asked-y.false eight c.attach_by.ensures

pub returns-then-y-ne0 : goal.returns-then-y-ne0
returns-then-y-ne0 c =
    let asks = c.requires.0 in
    joined_passive _ _ _ asks.node _ _ asks.word asks.inner c.if-w-eq-ASKS_EDGE.false c.if-y-ne0.true

pub returns-then-y-of : goal.returns-then-y-of
returns-then-y-of c =
    let asks = c.requires.0 in
    joined_rule _ _ _ asks.node _ _ asks.word asks.inner c.if-w-eq-ASKS_EDGE.false c.if-y-ne0.false
    c.if-y-of.true

pub returns-then-asked-y-2 : goal.returns-then-asked-y-2
returns-then-asked-y-2 c =
    let asks = c.requires.0 in
    joined_second _ _ _ asks.node _ _ asks.word asks.inner c.if-w-eq-ASKS_EDGE.false c.if-y-ne0.false
    c.if-asked-y-2.true

pub returns : goal.returns
returns c =
    let asks = c.requires.0 in
    joined_made _ _ _ asks.node _ _ asks.word asks.inner c.if-w-eq-ASKS_EDGE.false c.if-y-ne0.false _
    c.if-y-of.false c.if-asked-y-2.false (c.requires.1 c.if-y-ne0.false) refl
