-- The records so far, and where the next line begins.
use mathlib.Core.Path.{◌≡◌, refl, ap, ◌∙◌}
use mathlib.Core.List.{◌++◌}
use native.Mathlib.Omega.{arith}
use lib.ListN.{set, take, drop}
use lib.Seq.{length-take-le}
use Rattle.format.specs.Lines.{after_line}
use Rattle.filler.specs.Rows.{offset_of, filled_from, application_at}
use Rattle.filler.proofs.RowLaws.{filled_next, filled_front, offset_next}
use Rattle.filler.proofs.fill_row.Goals as goal

pub loop-row-init : goal.loop-row-init
unfolding offset_of filled_from
loop-row-init c = (refl, refl)

pub loop-row-preserved : goal.loop-row-preserved
loop-row-preserved c =
    let g = c.args.grammar.now in
    let text = c.args.text.now in
    let k = c.loop-row.row-index in
    let place = c.loop-row.invariant.0 in (
      offset_next text k _ (c.after_line-at.ensures ∙ ap (after_line text) place),
      ap (λ rows. set rows k c.application_at.result) c.loop-row.invariant.1
          ∙ filled_next g text k _ _ (c.application_at.ensures ∙ ap (application_at g text) place),
    )

pub returns : goal.returns
returns c =
    let g = c.args.grammar.now in
    let text = c.args.text.now in
    let n = c.args.n in
    let rows = c.args.rows.now in
    let end : c.loop-row.row-index ≡ n = omega (arith, length-take-le n rows c.requires) in
    ap (λ l. l ++ drop n rows) (c.loop-row.invariant.1 ∙ ap (λ k. filled_from g text k (take n rows)) end)
    ∙ filled_front g text n n rows (omega arith) c.requires
