use mathlib.Core.Path.{refl, sym, ◌∙◌}
use Rattle.records.specs.Words.{chart_of}
use Rattle.index.proofs.AddLaws.{inside, is_waiting, has_count, again_handled, again_less, again_more}
use Rattle.index.proofs.CoverLaws.{doubt_same}
use Rattle.records.proofs.WordLaws.{item_inside}
use Rattle.index.proofs.again.Goals as goal

pub is_handled-requires : goal.is_handled-requires
is_handled-requires c = item_inside c.args.chart.now
    c.args.j c.requires.0

pub returns-then-is_handled : goal.returns-then-is_handled
returns-then-is_handled c =
    let s = c.args in let r = again_handled s.chart.now
    s.index.now s.j s.x c.requires.0
    (sym c.is_handled.ensures ∙ c.if-is_handled.true) in (r.0, r.1, doubt_same s.index.now)

pub count_at-old-requires : goal.count_at-old-requires
count_at-old-requires c = item_inside c.args.chart.now c.args.j c.requires.0

pub returns-then-old-count : goal.returns-then-old-count
returns-then-old-count c =
    let s = c.args in
    let r = again_less s.chart.now s.index.now s.j s.x c.requires.0
    (sym c.is_handled.ensures ∙ c.if-is_handled.false) c.count_at-old.result
    c.count_at-old.ensures c.if-old-count.true in
    (r.0, r.1, doubt_same s.index.now)

pub recount-requires : goal.recount-requires
recount-requires c = c.requires.1

pub improve-requires : goal.improve-requires
improve-requires c = item_inside c.args.chart.now c.args.j c.requires.0

pub returns : goal.returns
returns c =
    let s = c.args in
    let p = c.requires in
    let z = sym c.is_handled.ensures ∙ c.if-is_handled.false in
    let m = c.count_at-old in
    let t = c.recount in (
      c.improve.ensures,
      λ keys ls I. again_more s.chart.now s.index.now s.j s.x p.0 z
          m.result m.ensures keys t.new.index ls c.if-old-count.false
          (t.ensures.0 keys ls (chart_of s.chart.now).records s.x I (inside s.chart.now s.j p.0)
          (is_waiting s.chart.now s.j p.0 z) (has_count s.chart.now s.j p.0 m.result
          m.ensures) refl),
      t.ensures.1,
    )
