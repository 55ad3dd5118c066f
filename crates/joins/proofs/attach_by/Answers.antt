-- From the last node on: the map so far is that of the rest of the edge, and the digits left are those of the nodes
-- before.
use mathlib.Core.Path.{refl, ap, ◌∙◌}
use mathlib.Core.List.{List}
use Prim.Native.Nat.{ℕ}
use lib.ListN.{take}
use Rattle.hrg.specs.Trees.{padded}
use Rattle.hrg.specs.Items.{attach}
use Rattle.places.specs.Laws.{length_places}
use Rattle.places.proofs.Reading.{none_places, places_packed}
use Rattle.questions.specs.Layout.{rank_at, rule_nodes, edge_label}
use Rattle.joins.specs.Joins.{edge_nodes}
use Rattle.joins.proofs.EdgeMaps.{word_rank, digits_from, digits_last, attach_none, attach_next, attach_done}
use Rattle.joins.proofs.attach_by.Goals as goal

pub loop-k-init : goal.loop-k-init
loop-k-init c =
    let edge = c.requires.0 in
    let word = c.requires.1 in (
      attach_none _ _ _ edge _ (length_places _) _ _ _ none_places refl (word_rank _ _ _ edge _ word).0,
      digits_from _ _ _ edge _ word,
    )

pub loop-k-preserved : goal.loop-k-preserved
loop-k-preserved c =
    let edge = c.requires.0 in
    let before = c.loop-k.invariant in
    let more = c.loop-k-test.true in
    let last = digits_last _ _ _ edge _ _ more before.0.0 before.1 in
    let next = attach_next _ _ _ edge _ (length_places _) _ _ _ more last.0 before.0 in (
      (next.0, rw (c.with_node-t.ensures, c.node_at.ensures.0) next.1),
      last.1,
    )

pub returns : goal.returns
returns c =
    let a = c.args in
    c.nodes_of.ensures
    ∙ attach_done _ _ _ c.requires.0 _ (length_places _)
    _ _ c.loop-k-test.false c.loop-k.invariant.0.1
    ∙ ap (λ (l : List ℕ). padded (attach (rule_nodes a.g.now a.r) (edge_nodes a.g.now a.r a.i)
    (take (rank_at a.g.now (edge_label a.g.now a.r a.i)) l)))
    (places_packed c.word_of-nodes.ensures)
