-- The keys of a chart's records: where each stands, and that they stay as records come, are improved and handled.
use Prim.Native.Nat.{ℕ, zero, suc, ◌+◌, ◌*◌, ◌/◌, ◌≤◌, ◌<◌}
use mathlib.Core.Path.{◌≡◌, refl, sym, ap, ap₂, ◌∙◌, subst}
use mathlib.Core.List.{List, [], ◌∷◌, ◌++◌, append_assoc}
use mathlib.Core.Bool.{Bool, true, false, cond}
use native.Mathlib.Omega.{arith}
use lib.Dec.{eqb}
use lib.ListN.{length, length-append, get_or, set, get_or-append}
use lib.Seq.{get_or-append-add}
use Rattle.agenda.specs.declared.ChartItem.{ChartItem}
use Rattle.agenda.specs.declared.Record.{Record}
use Rattle.agenda.specs.Consequences.{record_in}
use Rattle.agenda.specs.Steps.{Chart, added_all}
use Rattle.agenda.proofs.Records.{bare}
use Rattle.agenda.proofs.Growth.{Grew, all_grown}
use Rattle.records.specs.Words.{Fits, capacity, chart_of, grown_by}
use Rattle.records.proofs.Grown.{Whole, grown_chart}
use Rattle.keys.specs.Keys.{passive_tag, places_from, mixed, image_of, five_keys, keys_by, word_for, uses_of, keys_of}
use Rattle.index.specs.Index.{keys_for}

module _ (keys : List ℕ) where
  -- ---- of one record
  pub keys_five : (x : ChartItem) → length (keys_of keys x) ≡ 5
  unfolding keys_of keys_by five_keys
  keys_five x = go (eqb (word_for keys 0 places_from x) 0)
    where
      go : (b : Bool)
          → length (cond b (five_keys (uses_of keys x) passive_tag x.of x.nodes) (mixed (word_for keys 0 places_from x / 16) (image_of (word_for keys 0 places_from x) x.nodes) ∷ 0 ∷ 0 ∷ 0 ∷ 0 ∷ [])) ≡ 5
      go true = refl
      go false = refl

  -- only what makes two records the same item tells
  pub keys_bare : (x y : Record) → bare x ≡ bare y → keys_of keys x.item ≡ keys_of keys y.item
  unfolding keys_of
  keys_bare x y e = ap (λ (z : ChartItem). keys_of keys z) e

  -- ---- of several
  pub keys_length : (rs : List Record) → length (keys_for keys rs) ≡ 5 * length rs
  unfolding keys_for
  keys_length [] = refl
  keys_length (x ∷ rs) = omega (arith, length-append (keys_of keys x.item) (keys_for keys rs), keys_five x.item, keys_length rs)

  pub keys_at : (rs : List Record) (j i : ℕ) → j < length rs → i < 5 → get_or (keys_for keys rs) (5 * j + i) 0 ≡ get_or (keys_of keys (record_in rs j).item) i 0
  unfolding keys_for
  keys_at [] j i h l = absurd (omega arith)
  keys_at (x ∷ rs) zero i h l =
      ap (λ n. get_or (keys_of keys x.item ++ keys_for keys rs) n 0) (let q : 5 * 0 + i ≡ i = omega arith in q)
      ∙ get_or-append (keys_of keys x.item) (keys_for keys rs) 0 i (omega (arith, keys_five x.item))
  keys_at (x ∷ rs) (suc j) i h l =
      ap (λ n. get_or (keys_of keys x.item ++ keys_for keys rs) n 0)
      (let q : 5 * suc j + i ≡ length (keys_of keys x.item) + (5 * j + i) = omega (arith, keys_five x.item) in q)
      ∙ get_or-append-add (keys_of keys x.item) (keys_for keys rs) (5 * j + i) 0
      ∙ keys_at rs j i (omega arith) l

  -- one record more
  pub keys_more : (rs : List Record) (x : Record) → keys_for keys (rs ++ (x ∷ [])) ≡ keys_for keys rs ++ keys_of keys x.item
  unfolding keys_for
  keys_more [] x = end (keys_of keys x.item)
    where
      end : (ks : List ℕ) → ks ++ [] ≡ ks
      end [] = refl
      end (k ∷ ks) = ap (λ (l : List ℕ). k ∷ l) (end ks)
  keys_more (y ∷ rs) x = ap (λ (ks : List ℕ). keys_of keys y.item ++ ks) (keys_more rs x) ∙ sym (append_assoc (keys_of keys y.item) (keys_for keys rs) (keys_of keys x.item))

  -- a record with the keys of the one in whose place it comes
  pub keys_set : (rs : List Record) (j : ℕ) (y : Record) → keys_of keys y.item ≡ keys_of keys (record_in rs j).item → keys_for keys (set rs j y) ≡ keys_for keys rs
  unfolding keys_for
  keys_set [] j y e = refl
  keys_set (x ∷ rs) zero y e = ap (λ (ks : List ℕ). ks ++ keys_for keys rs) e
  keys_set (x ∷ rs) (suc j) y e = ap (λ (ks : List ℕ). keys_of keys x.item ++ ks) (keys_set rs j y e)

  -- ---- keys that stay, with more behind them
  pub record KeysMore (rs ts : List Record) : Type 0 where
    pub more : List ℕ
    pub is : keys_for keys ts ≡ keys_for keys rs ++ more

  keys_same : (rs ts : List Record) → length rs ≤ length ts → ((k : ℕ) → k < length rs → bare (record_in ts k) ≡ bare (record_in rs k)) → KeysMore rs ts
  unfolding keys_for
  keys_same [] ts l e = record { more = keys_for keys ts; is = refl }
  keys_same (x ∷ rs) [] l e = absurd (omega arith)
  keys_same (x ∷ rs) (y ∷ ts) l e =
      let r = keys_same rs ts (omega arith) (λ k h. e (suc k) (omega arith)) in
      record {
        more = r.more;
        is = ap₂ (λ (a b : List ℕ). a ++ b) (keys_bare y x (e 0 (omega arith))) r.is ∙ sym (append_assoc (keys_of keys x.item) (keys_for keys rs) r.more);
      }

  pub keys_grew : (rs ts : List Record) → Grew rs ts → KeysMore rs ts
  keys_grew rs ts w = keys_same rs ts w.longer w.item

  pub keys_added : (cap : ℕ) (xs : List Record) (c : Chart) → KeysMore c.records (added_all cap xs c).records
  keys_added cap xs c = keys_grew c.records (added_all cap xs c).records (all_grown cap xs c)

  -- words that stand for a chart, with records added
  pub keys_grown : (w v : List ℕ) (xs : List Record) → Fits w → Whole xs → v ≡ grown_by w xs → KeysMore (chart_of w).records (chart_of v).records
  keys_grown w v xs f e q =
      subst (λ (c : Chart). KeysMore (chart_of w).records c.records) (sym (ap chart_of q ∙ grown_chart w f xs e)) (keys_added (capacity w) xs (chart_of w))
