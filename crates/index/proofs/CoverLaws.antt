-- The word that tells whether each record covers its open nodes: it stays or is set, and records come, are improved
-- or handled.
use Rattle.std.specs.Prelude.{Some}
use Prim.Native.Nat.{ℕ, ◌+◌, ◌≤◌, ◌<◌}
use mathlib.Core.Path.{◌≡◌, refl, sym, ap, ◌∙◌, subst}
use mathlib.Core.List.{List, [], ◌∷◌, ◌++◌}
use mathlib.Core.Bool.{Bool, true, false, ◌||◌}
use native.Mathlib.Omega.{arith}
use native.Mathlib.Numerals.{add-one}
use native.Mathlib.Decide.{dec_lt, ℕ_discrete}
use lib.Dec.{leb}
use lib.ListN.{length, length-append, set, length-set, get_or-append}
use lib.Seq.{get_or_at, get_or-set_same, get_or-set_other}
use Rattle.agenda.specs.declared.ChartItem.{ChartItem}
use Rattle.agenda.specs.declared.Record.{Record}
use Rattle.agenda.specs.Records.{is_handled}
use Rattle.agenda.specs.Consequences.{no_record, record_in}
use Rattle.agenda.specs.Steps.{Chart, improved, handled_now, placed}
use Rattle.records.specs.Words.{item_count, record_at, records_at, chart_of}
use Rattle.rules.specs.Coverage.{Covering}
use Rattle.chains.specs.Chains.{link_words}
use Rattle.ranking.specs.Ranking.{rank_words}
use Rattle.index.specs.Index.{index_words, doubt_place, doubt_of, Indexed, Covered, DoubtKept}
use Rattle.ranking.proofs.Parts.{part_set, put, word_behind}

-- ---- the word stays
pub doubt_same : (ix : List ℕ) → DoubtKept ix ix
doubt_same ix = record { word = refl }

pub doubt_on : (ix mid new : List ℕ) → DoubtKept ix mid → DoubtKept mid new → DoubtKept ix new
doubt_on ix mid new p q = record { word = q.word ∙ p.word }

-- a part in front of it is made anew
pub doubt_put : (a k : ℕ) (ix new : List ℕ) → length ix ≡ index_words → length new ≡ k → a + k ≤ doubt_place → DoubtKept ix (put a k ix new)
doubt_put a k ix new s e h = record { word = word_behind a k ix new (omega arith) e doubt_place (omega arith) }

-- ---- the word is set: the other indexes stay
pub indexed_doubted : (ix : List ℕ) (v : ℕ) (keys ls : List ℕ) (rs : List Record) → Indexed keys ix ls rs → Indexed keys (set ix doubt_place v) ls rs
indexed_doubted ix v keys ls rs I = record {
  size = length-set ix doubt_place v ∙ I.size;
  chained = rw (part_set 0 link_words doubt_place v ix (omega arith)) I.chained;
  ranked = rw (part_set link_words rank_words doubt_place v ix (omega arith)) I.ranked;
  listed = I.listed;
}

module _ (g h : List ℕ) where
  -- .. and nothing is said of the records
  pub covered_doubted : (ix : List ℕ) (rs : List Record) → length ix ≡ index_words → Covered g h (set ix doubt_place 1) rs
  covered_doubted ix rs s = record { each = λ z j l. absurd (omega (arith, get_or-set_same ix doubt_place 1 0 (omega arith))) }

  pub covered_kept : (ix new : List ℕ) (rs : List Record) → DoubtKept ix new → Covered g h ix rs → Covered g h new rs
  covered_kept ix new rs k C = record { each = λ z. C.each (sym k.word ∙ z) }

  -- ---- what covers is told of the item only, not of the count or the partners
  covering_improved : (y x : Record) → Covering g h y.item → Covering g h (improved y x).item
  covering_improved y x C = record { shown = λ v l o. let S = C.shown v l o in record { active = S.active; passive = S.passive } }

  -- a record that covers if the one does in whose place it comes
  covered_set : (ix : List ℕ) (rs : List Record) (j : ℕ) (y : Record) → (Covering g h (record_in rs j).item → Covering g h y.item) → Covered g h ix rs → Covered g h ix (set rs j y)
  covered_set ix rs j y f C = record { each = λ z k l. at z k (let q = length-set rs j y in omega arith) (ℕ_discrete k j) }
    where
      at : doubt_of ix ≡ 0 → (k : ℕ) → k < length rs → Dec (k ≡ j) → Covering g h (record_in (set rs j y) k).item
      at z k l (yes p) =
          subst (λ (z : Record). Covering g h z.item) (sym (ap (record_in (set rs j y)) p ∙ get_or-set_same rs j y no_record (omega arith))) (f (subst (λ i. Covering g h (record_in rs i).item) p (C.each z k l)))
      at z k l (no n) = subst (λ (z : Record). Covering g h z.item) (sym (get_or-set_other rs j k y no_record n)) (C.each z k l)

  pub covered_again : (ix : List ℕ) (cap : ℕ) (x : Record) (c : Chart) (j : ℕ) → Covered g h ix c.records → Covered g h ix (placed cap x c (Some j)).records
  unfolding placed
  covered_again ix cap x c j C = go (is_handled (record_in c.records j) || leb (record_in c.records j).item.count x.item.count) refl
    where
      go : (b : Bool) → (is_handled (record_in c.records j) || leb (record_in c.records j).item.count x.item.count) ≡ b → Covered g h ix (placed cap x c (Some j)).records
      go true e = rw e C
      go false e = rw e (covered_set ix c.records j (improved (record_in c.records j) x) (covering_improved (record_in c.records j) x) C)

  pub covered_handled : (ix : List ℕ) (rs : List Record) (j : ℕ) → Covered g h ix rs → Covered g h ix (set rs j (handled_now (record_in rs j)))
  covered_handled ix rs j = covered_set ix rs j (handled_now (record_in rs j)) (λ c. c)

  -- one record more
  pub covered_more : (ix : List ℕ) (x : Record) (rs : List Record) → Covered g h ix rs → (doubt_of ix ≡ 0 → Covering g h x.item) → Covered g h ix (rs ++ (x ∷ []))
  covered_more ix x rs C f = record { each = λ z j l. at z j (dec_lt j (length rs)) (let p = length-append rs (x ∷ []) in omega arith) }
    where
      at : doubt_of ix ≡ 0 → (j : ℕ) → Dec (j < length rs) → j ≤ length rs → Covering g h (record_in (rs ++ (x ∷ [])) j).item
      at z j (yes l) m = subst (λ (z : Record). Covering g h z.item) (sym (get_or-append rs (x ∷ []) no_record j l)) (C.each z j l)
      at z j (no l) m = subst (λ (z : Record). Covering g h z.item) (sym (get_or_at rs x [] no_record j (omega arith))) (f z)

  -- ---- the first records of words
  pub covered_first : (w ix : List ℕ) → Covered g h ix (records_at w 0)
  unfolding records_at
  covered_first w ix = record { each = λ z j l. absurd (omega arith) }

  pub covered_next : (w ix : List ℕ) (j : ℕ) (x : ChartItem) → x ≡ (record_at w j).item → Covering g h x → Covered g h ix (records_at w j) → Covered g h ix (records_at w (j + 1))
  unfolding records_at
  covered_next w ix j x e t C = rw add-one (covered_more ix (record_at w j) (records_at w j) C (λ z. subst (Covering g h) e t))

  pub covered_all : (w ix : List ℕ) (n j : ℕ) → n ≡ item_count w → j ≤ n → n ≤ j → Covered g h ix (records_at w j) → Covered g h ix (chart_of w).records
  unfolding chart_of
  covered_all w ix n j e a b C = subst (λ k. Covered g h ix (records_at w k)) (let q : j ≡ item_count w = omega arith in q) C
