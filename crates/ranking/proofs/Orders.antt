-- Which order a new, an improved or a handled record changes.
use Prim.Native.Nat.{ℕ, ◌+◌, ◌*◌, ◌≤◌, ◌<◌}
use mathlib.Core.Path.{◌≡◌, refl, sym, ap, ap₂, ◌∙◌, subst}
use mathlib.Core.Bool.{Bool, true, false, not, ◌&&◌}
use mathlib.Core.List.{List, [], ◌∷◌, ◌++◌}
use native.Mathlib.Omega.{arith}
use native.Mathlib.Decide.{dec_lt}
use native.Mathlib.Numerals.{add-one}
use lib.Dec.{ltb}
use lib.ListN.{length, set, length-set, length-append, get_or-append}
use lib.Seq.{get_or-set_same, get_or-set_other, get_or_at}
use borrow.Author.Tests.{lt-ltb, le-ltb}
use Rattle.agenda.specs.declared.Record.{Record}
use Rattle.agenda.specs.Records.{is_handled}
use Rattle.agenda.specs.Consequences.{record_in, no_record}
use Rattle.agenda.specs.Steps.{improved, handled_now}
use Rattle.records.specs.Words.{item_count, record_at, records_at, chart_of}
use Rattle.records.proofs.WordLaws.{length_records}
use Rattle.ranking.specs.Ranking.{order_of, waits_at, order_at, Ranked, Replaces}

-- ---- what a order is
pub order_positive : (j n : ℕ) → order_of true j n ≡ 4096 * n + j + 1
unfolding order_of
order_positive j n = refl

pub order_past : (rs : List Record) (j : ℕ) → length rs ≤ j → order_at rs j ≡ 0
unfolding order_at order_of waits_at
order_past rs j l = rw (le-ltb j (length rs) l)

pub order_handled : (rs : List Record) (j : ℕ) → is_handled (record_in rs j) ≡ true → order_at rs j ≡ 0
unfolding order_at order_of waits_at
order_handled rs j h = go (ltb j (length rs))
  where
    go : (t : Bool) → order_of (t && not (is_handled (record_in rs j))) j (record_in rs j).item.count ≡ 0
    go true = rw h
    go false = refl

pub order_waits : (rs : List Record) (j : ℕ) → j < length rs → is_handled (record_in rs j) ≡ false → order_at rs j ≡ 4096 * (record_in rs j).item.count + j + 1
unfolding order_at order_of waits_at
order_waits rs j l h = rw (lt-ltb j (length rs) l, h)

-- a order that is not 0 is that of a waiting record
pub order_some : (rs : List Record) (j : ℕ) → (order_at rs j ≡ 0 → ⊥) → (j < length rs) × (order_at rs j ≡ 4096 * (record_in rs j).item.count + j + 1)
order_some rs j n = go (dec_lt j (length rs)) (is_handled (record_in rs j)) refl
  where
    go : Dec (j < length rs) → (t : Bool) → is_handled (record_in rs j) ≡ t → (j < length rs) × (order_at rs j ≡ 4096 * (record_in rs j).item.count + j + 1)
    go (yes l) true h = absurd (n (order_handled rs j h))
    go (yes l) false h = (l, order_waits rs j l h)
    go (no l) t h = absurd (n (order_past rs j (omega arith)))

-- a order is told by whether its place is one of the records' and by the record there
order_by : (rs rs' : List Record) (k : ℕ) → ltb k (length rs') ≡ ltb k (length rs) → record_in rs' k ≡ record_in rs k → order_at rs' k ≡ order_at rs k
unfolding order_at waits_at
order_by rs rs' k e q = ap₂ (λ (t : Bool) (x : Record). order_of (t && not (is_handled x)) k x.item.count) e q

pub order_in : (rs : List Record) (j : ℕ) (x : Record) → j < length rs → record_in rs j ≡ x → order_at rs j ≡ order_of (not (is_handled x)) j x.item.count
unfolding order_at waits_at
order_in rs j x h e = ap₂ (λ (t : Bool) (y : Record). order_of (t && not (is_handled y)) j y.item.count) (lt-ltb j (length rs) h) e

pub waiting_order : (rs : List Record) (j n : ℕ) → j < length rs → is_handled (record_in rs j) ≡ false → n ≡ (record_in rs j).item.count → order_at rs j ≡ order_of true j n
waiting_order rs j n l h e = order_in rs j (record_in rs j) l refl ∙ ap₂ (λ (t : Bool) k. order_of (not t) j k) h (sym e)

pub order_out : (rs : List Record) (j n : ℕ) → length rs ≤ j → order_at rs j ≡ order_of false j n
unfolding order_at waits_at order_of
order_out rs j n h = rw (le-ltb j (length rs) h)

-- ---- a record more
pub appended_order : (rs : List Record) (x : Record) → Replaces (length rs) (order_of (not (is_handled x)) (length rs) x.item.count) rs (rs ++ (x ∷ []))
appended_order rs x = record {
  given = order_in (rs ++ (x ∷ [])) (length rs) x (simp length-append (omega arith)) (get_or_at rs x [] no_record (length rs) refl);
  others = λ k n. go k n (dec_lt k (length rs));
}
  where
    go : (k : ℕ) → (k ≡ length rs → ⊥) → Dec (k < length rs) → order_at (rs ++ (x ∷ [])) k ≡ order_at rs k
    go k n (yes h) =
        let l : k < length (rs ++ (x ∷ [])) = simp length-append (omega arith) in
        order_by rs (rs ++ (x ∷ [])) k (lt-ltb k _ l ∙ sym (lt-ltb k (length rs) h)) (get_or-append rs (x ∷ []) no_record k h)
    go k n (no h) =
        let l : length (rs ++ (x ∷ [])) ≤ k = simp length-append (omega arith) in
        order_out (rs ++ (x ∷ [])) k 0 l ∙ sym (order_out rs k 0 (omega arith))

-- ---- a record in the place of another
pub replaced_order : (rs : List Record) (j : ℕ) (x : Record) → j < length rs → Replaces j (order_of (not (is_handled x)) j x.item.count) rs (set rs j x)
replaced_order rs j x h = record {
  given = order_in (set rs j x) j x (simp length-set h) (get_or-set_same rs j x no_record h);
  others = λ k n. order_by rs (set rs j x) k (ap (ltb k) (length-set rs j x)) (get_or-set_other rs j k x no_record n);
}

-- an improved record waits as it did, with the count of x
pub improved_order : (rs : List Record) (j : ℕ) (x : Record) → j < length rs → is_handled (record_in rs j) ≡ false
    → Replaces j (order_of true j x.item.count) rs (set rs j (improved (record_in rs j) x))
improved_order rs j x h e = rw e at (replaced_order rs j (improved (record_in rs j) x) h)

-- a handled record waits no more
pub handled_order : (rs : List Record) (j : ℕ) → j < length rs → Replaces j 0 rs (set rs j (handled_now (record_in rs j)))
unfolding order_of
handled_order rs j h = replaced_order rs j (handled_now (record_in rs j)) h

-- ---- the first records of words, one more of them
next_order : (w : List ℕ) (j : ℕ) → Replaces j (order_of (not (is_handled (record_at w j))) j (record_at w j).item.count) (records_at w j) (records_at w (j + 1))
unfolding records_at
next_order w j =
    let more = records_at w j ++ (record_at w j ∷ []) in
    rw add-one (subst (λ k. Replaces k (order_of (not (is_handled (record_at w j))) k (record_at w j).item.count) (records_at w j) more) (length_records w j)
    (appended_order (records_at w j) (record_at w j)))

pub next_waits : (w : List ℕ) (j n : ℕ) → is_handled (record_at w j) ≡ false → n ≡ (record_at w j).item.count → Replaces j (order_of true j n) (records_at w j) (records_at w (j + 1))
next_waits w j n h e = rw e (rw h at (next_order w j))

pub next_handled : (w : List ℕ) (j : ℕ) → is_handled (record_at w j) ≡ true → Replaces j 0 (records_at w j) (records_at w (j + 1))
unfolding order_of
next_handled w j h = rw h at (next_order w j)

pub ranked_first : (w ranks : List ℕ) → Ranked ranks [] → Ranked ranks (records_at w 0)
unfolding records_at
ranked_first w ranks r = r

pub ranked_all : (w ranks : List ℕ) (n j : ℕ) → n ≡ item_count w → j ≤ n → n ≤ j → Ranked ranks (records_at w j) → Ranked ranks (chart_of w).records
unfolding chart_of
ranked_all w ranks n j e h l r = subst (λ k. Ranked ranks (records_at w k)) (let q : j ≡ item_count w = omega arith in q) r

-- nothing waits behind the first records
pub fresh_order : (w : List ℕ) (j : ℕ) → order_at (records_at w j) j ≡ 0
fresh_order w j = order_past (records_at w j) j (omega (arith, length_records w j))
