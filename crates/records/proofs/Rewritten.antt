-- Words that stand for a chart, through one call after another: each makes of the words what it makes of the chart.
use Rattle.std.specs.Prelude.{Option, Some, None}
use Prim.Native.Nat.{ℕ, ◌+◌, ◌≤◌, ◌<◌}
use mathlib.Core.Path.{◌≡◌, sym, ap, ◌∙◌, subst}
use mathlib.Core.Logic.{◌≢◌}
use mathlib.Core.List.{List, [], ◌∷◌, ◌++◌}
use mathlib.Core.Bool.{◌||◌}
use native.Mathlib.Omega.{arith}
use native.Mathlib.Decide.{dec_lt}
use lib.Dec.{eqb, ltb, leb}
use lib.ListN.{length, length-append, get_or, set, length-set, get_or-append}
use lib.Seq.{get_or-set_same, get_or-set_other, get_or_at}
use borrow.Author.Tests.{ltb-true}
use Rattle.agenda.specs.declared.ChartItem.{ChartItem}
use Rattle.agenda.specs.declared.Record.{Record}
use Rattle.agenda.specs.Records.{is_handled}
use Rattle.agenda.specs.Consequences.{record_in, no_record}
use Rattle.agenda.specs.Steps.{Chart, improved, handled_now, last_same, least_waiting, handled_count, placed, added}
use Rattle.records.specs.Words.{Compact, capacity, item_count, records_at, chart_of, written, added_to, marked_at}
use Rattle.agenda.proofs.Adding.{cond_by}
use Rattle.records.proofs.Packing.{compact_improved, compact_handled}
use Rattle.records.proofs.WordLaws.{length_records}
use Rattle.records.proofs.Written.{AllCompact, Holds, add_written, handle_written, capacity_written, fits_written, chart_of_written, written_over}

-- ---- records stay compact
set_compact : (rs : List Record) (j : ℕ) (y : Record) → AllCompact rs → (j < length rs → Compact y) → AllCompact (set rs j y)
set_compact rs j y e h k l = go (dec_lt k j) (dec_lt j k)
  where
    else : k ≢ j → Compact (record_in (set rs j y) k)
    else d = subst Compact (sym (get_or-set_other rs j k y no_record d)) (e k (omega (arith, length-set rs j y)))

    go : Dec (k < j) → Dec (j < k) → Compact (record_in (set rs j y) k)
    go (yes d) q = else (λ z. omega arith)
    go (no d) (yes q) = else (λ z. omega arith)
    go (no d) (no q) =
        let b : j < length rs = omega (arith, length-set rs j y) in
        let z : k ≡ j = omega arith in
        subst (λ (i : ℕ). Compact (record_in (set rs j y) i)) (sym z) (subst Compact (sym (get_or-set_same rs j y no_record b)) (h b))

more_compact : (rs : List Record) (y : Record) → AllCompact rs → Compact y → AllCompact (rs ++ (y ∷ []))
more_compact rs y e h k l = go (dec_lt k (length rs))
  where
    go : Dec (k < length rs) → Compact (record_in (rs ++ (y ∷ [])) k)
    go (yes d) = subst Compact (sym (get_or-append rs (y ∷ []) no_record k d)) (e k d)
    go (no d) =
        let z : length rs ≡ k = omega (arith, length-append rs (y ∷ [])) in
        subst Compact (sym (get_or_at rs y [] no_record k z)) h

-- ---- one record more
-- the words hold the chart d, which has no fewer records than c
pub record Grown (w : List ℕ) (c d : Chart) : Type 0 where
  pub holds : Holds w d
  pub longer : length c.records ≤ length d.records

-- the chart with the record at j handled
abbrev pub handled_in : ℕ → Chart → Chart
handled_in j d = record { mark = d.mark; records = set d.records j (handled_now (record_in d.records j)) }

module _ (w : List ℕ) (c : Chart) (o : Holds w c) where
  stays : Grown w c c
  stays = record { holds = o; longer = omega arith }

  marks : (m : ℕ) → Grown w c (record { mark = m; records = c.records })
  marks m = record { holds = record { header = o.header; number = o.number; compact = o.compact }; longer = omega arith }

  sets : (j : ℕ) (y : Record) → (j < length c.records → Compact y) → Grown w c (record { mark = c.mark; records = set c.records j y })
  sets j y h =
      let l : length (set c.records j y) ≡ length c.records = length-set c.records j y in
      let n = o.number in
      record { holds = record { header = o.header; number = omega arith; compact = set_compact c.records j y o.compact h }; longer = omega arith }

  appends : (y : Record) → length c.records < capacity w → Compact y → Grown w c (record { mark = c.mark; records = c.records ++ (y ∷ []) })
  appends y h e =
      let l : length (c.records ++ (y ∷ [])) ≡ length c.records + 1 = length-append c.records (y ∷ []) in
      record { holds = record { header = o.header; number = omega arith; compact = more_compact c.records y o.compact e }; longer = omega arith }

  grown_placed : (x : Record) → Compact x → (f : Option ℕ) → Grown w c (placed (capacity w) x c f)
  unfolding placed
  grown_placed x e None = cond_by (Grown w c) (ltb (length c.records) (capacity w)) (λ t. appends x (ltb-true _ _ t) e) (λ t. marks 1)
  grown_placed x e (Some j) =
      cond_by (Grown w c) (is_handled (record_in c.records j) || leb (record_in c.records j).item.count x.item.count) (λ t. stays)
      (λ t. sets j (improved (record_in c.records j) x) (λ l. compact_improved (o.compact j l) e))

  pub grown_added : (x : Record) → Compact x → Grown w c (added (capacity w) x c)
  unfolding added
  grown_added x e = cond_by (Grown w c) (eqb c.mark 0) (λ t. grown_placed x e (last_same x.item c.records (length c.records))) (λ t. stays)

  -- what `add` makes of words that stand for c
  pub add_on : (v : List ℕ) (x : Record) → v ≡ written w c → Compact x → added_to v x ≡ written w (added (capacity w) x c)
  add_on v x p e =
      ap (λ (u : List ℕ). added_to u x) p
      ∙ add_written (written w c) x (fits_written w c o) e
      ∙ ap (λ n. written (written w c) (added n x (chart_of (written w c)))) (capacity_written w c o)
      ∙ ap (λ (d : Chart). written (written w c) (added (capacity w) x d)) (chart_of_written w c o)
      ∙ written_over w c o (added (capacity w) x c) (grown_added x e).longer

  -- ---- a record that becomes handled

  pub grown_handled : (j : ℕ) → Grown w c (handled_in j c)
  grown_handled j = sets j (handled_now (record_in c.records j)) (λ l. compact_handled (o.compact j l))

  counted : item_count (written w c) ≡ length c.records
  unfolding chart_of
  counted = sym (length_records (written w c) (item_count (written w c))) ∙ ap (λ (d : Chart). length d.records) (chart_of_written w c o)

  -- what `mark_handled` makes of words that stand for c
  pub handle_on : (v : List ℕ) (j : ℕ) → v ≡ written w c → j < length c.records → marked_at v j ≡ written w (handled_in j c)
  handle_on v j p l =
      ap (λ (u : List ℕ). marked_at u j) p
      ∙ handle_written (written w c) j (fits_written w c o) (omega (arith, counted))
      ∙ ap (λ (d : Chart). written (written w c) (handled_in j d)) (chart_of_written w c o)
      ∙ written_over w c o (handled_in j c) (grown_handled j).longer

-- ---- what is read of words that stand for a chart
module _ (w : List ℕ) (c : Chart) (o : Holds w c) (v : List ℕ) (p : v ≡ written w c) where
  pub count_on : item_count v ≡ length c.records
  count_on = ap item_count p ∙ counted w c o

  pub records_on : records_at v (item_count v) ≡ c.records
  unfolding chart_of
  records_on = ap (λ (u : List ℕ). records_at u (item_count u)) p ∙ ap (λ (d : Chart). d.records) (chart_of_written w c o)

  pub mark_on : get_or v 1 0 ≡ c.mark
  unfolding chart_of
  mark_on = ap (λ (u : List ℕ). get_or u 1 0) p ∙ ap (λ (d : Chart). d.mark) (chart_of_written w c o)

  pub capacity_on : capacity v ≡ capacity w
  capacity_on = ap capacity p ∙ capacity_written w c o

  -- the searches of the code are those of the model
  pub same_on : (x : ChartItem) → last_same x (records_at v (item_count v)) (item_count v) ≡ last_same x c.records (length c.records)
  same_on x = ap (λ (rs : List Record). last_same x rs (item_count v)) records_on ∙ ap (last_same x c.records) count_on

  pub least_on : least_waiting (records_at v (item_count v)) (item_count v) ≡ least_waiting c.records (length c.records)
  least_on = ap (λ (rs : List Record). least_waiting rs (item_count v)) records_on ∙ ap (least_waiting c.records) count_on

  pub handled_on : handled_count (records_at v (item_count v)) ≡ handled_count c.records
  handled_on = ap handled_count records_on
