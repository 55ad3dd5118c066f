-- The one plan node above the first item, the map of the second, and what two sets and maps make there.
use Rattle.rules.proofs.JoinWords.{child_kind, join_first, join_later}
use Rattle.rules.proofs.RuleAnswers.{gives_none, pair_not, pair_nowhere, pair_other, pair_neither, pair_unmade, pair_made}
use Rattle.rules.proofs.Covering.{first_holds, second_holds}
use Rattle.rules.proofs.combined.Goals as goal

pub returns-then-x-ne0 : goal.returns-then-x-ne0
returns-then-x-ne0 c = gives_none _ _ _ _ _ (pair_not _ _ _ _ c.if-x-ne0.true)

pub returns-then-q-ge-PER_RULE : goal.returns-then-q-ge-PER_RULE
returns-then-q-ge-PER_RULE c = gives_none _ _ _ _ _ (pair_nowhere _ _ _ _ c.if-x-ne0.false
    (c.parent_in-above.ensures.nowhere c.if-q-ge-PER_RULE.true))

pub returns-then-w-eq-ASKS_FIRST : goal.returns-then-w-eq-ASKS_FIRST
returns-then-w-eq-ASKS_FIRST c =
    let up = c.parent_in-above.ensures in
    let near = c.if-q-ge-PER_RULE.false in
    let later = join_later _ _ _ _ (up.join near) c.if-w-eq-ASKS_FIRST.true in
    gives_none _ _ _ _ _ (pair_other _ _ _ _ c.if-x-ne0.false _ (up.above near) later.0)

pub second_map-requires : goal.second_map-requires
second_map-requires c =
    let up = c.parent_in-above.ensures in
    let near = c.if-q-ge-PER_RULE.false in
    let known = (up.above near).known in (
      record {
        node = known;
        inner = child_kind _ _ _ known _ (up.join near).child;
        word = (join_first _ _ _ _ (up.join near) c.if-w-eq-ASKS_FIRST.false).1;
      },
      c.requires.1.bare,
    )

pub returns-in_err-s : goal.returns-in_err-s
returns-in_err-s c =
    let above = c.parent_in-above.ensures.above c.if-q-ge-PER_RULE.false in
    rw c.from_residual.ensures (gives_none _ _ _ _ _ (pair_neither _ _ _ _ c.if-x-ne0.false _ above c.in_err-s.ensures))

pub combine-requires : goal.combine-requires
combine-requires c =
    let up = c.parent_in-above.ensures in
    let near = c.if-q-ge-PER_RULE.false in
    let second = c.in_ok-s.ensures in
    record {
      accepted = c.args.t.now.tables.fit;
      node = (up.above near).known;
      table = c.args.t.now.graphed;
      opened = up.opened near;
      first_holds = λ s. first_holds _ _ _ c.if-x-ne0.false (c.requires.0.covering s);
      second_holds = λ s. second_holds _ _ _ _ _ _ second (c.requires.1.covering s);
      first_into = c.requires.0.into;
      second_into = second.into _ c.requires.1.into;
      first_bare = c.requires.0.bare c.if-x-ne0.false;
      second_bare = second.bare;
    }

pub returns-in_err-nodes : goal.returns-in_err-nodes
returns-in_err-nodes c =
    let up = c.parent_in-above.ensures in
    let near = c.if-q-ge-PER_RULE.false in
    let first = join_first _ _ _ _ (up.join near) c.if-w-eq-ASKS_FIRST.false in
    rw c.from_residual-in_err-nodes.ensures (gives_none _ _ _ _ _ (pair_unmade _ _ _ _ c.if-x-ne0.false _ (up.above near)
    _ c.in_ok-s.ensures first.0 c.in_err-nodes.ensures.makes))

pub returns : goal.returns
returns c =
    let up = c.parent_in-above.ensures in
    let near = c.if-q-ge-PER_RULE.false in
    let first = join_first _ _ _ _ (up.join near) c.if-w-eq-ASKS_FIRST.false in
    pair_made _ _ _ _ c.if-x-ne0.false _ (up.above near)
    _ c.in_ok-s.ensures first.0 _ _ _ c.in_ok-nodes.ensures.makes c.args.t.now.tables.fit
