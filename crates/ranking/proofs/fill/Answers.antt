use native.Mathlib.Omega.{arith}
use Prim.Native.Nat.{ℕ, ◌+◌}
use mathlib.Core.Path.{sym, ◌∙◌}
use mathlib.Core.Path.{subst}
use mathlib.Core.List.{List}
use Rattle.records.specs.Words.{records_at}
use Rattle.records.proofs.WordLaws.{item_inside}
use Rattle.ranking.specs.Ranking.{Ranked}
use Rattle.ranking.proofs.Orders.{next_waits, next_handled, ranked_first, ranked_all, fresh_order}
use Rattle.ranking.proofs.SetLaws.{ranked_still}
use Rattle.ranking.proofs.fill.Goals as goal
use Rattle.ranking.proofs.fill.Goals.{then-not-is_handled, else-not-is_handled}

pub loop-j-init : goal.loop-j-init
loop-j-init c = ranked_first _ _ c.requires.0

pub is_handled-requires : goal.is_handled-requires
is_handled-requires c = item_inside c.args.chart.now
    c.loop-j.j (omega (arith, c.loop-j-test.true, c.item_count-n.ensures))

pub count_at-requires : goal.count_at-requires
count_at-requires c = item_inside c.args.chart.now c.loop-j.j
    (omega (arith, c.loop-j-test.true, c.item_count-n.ensures))

pub insert-requires : goal.insert-requires
insert-requires c = (
  c.loop-j.invariant.size,
  omega (
    arith,
    c.loop-j-test.true,
    c.requires.1,
    c.item_count-n.ensures,
  ),
)

pub loop-j-preserved : goal.loop-j-preserved
loop-j-preserved c =
    let w = c.args.chart.now in
    let l = c.loop-j in
    let now = records_at w l.j in
    let next = records_at w (l.j + 1) in
    elim c.if-not-is_handled.branch [
      | then-not-is_handled p ↦
          subst (λ (r : List ℕ). Ranked r next) (sym p.ranks-is)
          (p.insert.ensures now next l.invariant (fresh_order w l.j)
          (next_waits w l.j _ (sym c.is_handled.ensures ∙ p.if-not-is_handled.true) p.count_at.ensures))
      | else-not-is_handled p ↦
          subst (λ (r : List ℕ). Ranked r next) (sym p.ranks-is)
          (ranked_still l.ranks l.j now next l.invariant (fresh_order w l.j)
          (next_handled w l.j (sym c.is_handled.ensures ∙ p.if-not-is_handled.false)))
    ]

pub returns : goal.returns
returns c = ranked_all c.args.chart.now c.loop-j.ranks
    c.item_count-n.result c.loop-j.j c.item_count-n.ensures
    c.loop-j.auto.j-end c.loop-j-test.false c.loop-j.invariant
