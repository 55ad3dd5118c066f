-- The least number of the set is that of the first waiting record of least count, which leaves it.
use Rattle.std.specs.Prelude.{Option, Some, None}
use Prim.Native.Nat.{ℕ, zero, suc, ◌+◌, ◌-◌, ◌*◌, ◌%◌, ◌≤◌, ◌<◌}
use mathlib.Core.Path.{◌≡◌, refl, sym, ap, ◌∙◌, subst}
use mathlib.Core.List.{List}
use mathlib.Core.Bool.{Bool, true, false, cond}
use native.Mathlib.Omega.{arith}
use native.Mathlib.Decide.{dec_lt}
use lib.Dec.{leb}
use lib.ListN.{length, get_or}
use borrow.Author.Tests.{eqb-true, eqb-false, le-leb, lt-leb}
use Rattle.agenda.specs.declared.Record.{Record}
use Rattle.agenda.specs.Records.{is_handled}
use Rattle.agenda.specs.Consequences.{record_in}
use Rattle.agenda.specs.Steps.{lesser, least_waiting}
use Rattle.records.specs.Words.{capacity, item_count, record_at, records_at, chart_of}
use Rattle.records.proofs.WordLaws.{length_records, record_in_lem, item_inside}
use Rattle.queues.specs.Queues.{holds, Removed, Least, Left, Empty, LeastTaken}
use Rattle.ranking.specs.Ranking.{order_of, order_at, set_of, Ranked, Replaces, taken_from}
use Rattle.ranking.proofs.Orders.{order_positive, order_handled, order_waits, order_some, handled_order}
use Rattle.ranking.proofs.Parts.{put}
use Rattle.ranking.proofs.SetLaws.{ranked_back, removed_set}

module _ (rs : List Record) where
  abbrev Waits : ℕ → Type 0
  Waits j = order_at rs j ≡ 0 → ⊥

  -- ---- the choice of a step: of the first n, the one of least order
  data Chosen (n : ℕ) : Option ℕ → Type 0 where
    chosen_none : ((k : ℕ) → k < n → order_at rs k ≡ 0) → Chosen n None
    chosen_at : (j : ℕ) → j < n → Waits j → ((k : ℕ) → k < n → Waits k → order_at rs j ≤ order_at rs k) → Chosen n (Some j)

  -- what holds of the first n and of the next
  one_more : (P : ℕ → Type 0) (n : ℕ) → ((k : ℕ) → k < n → P k) → P n → (k : ℕ) → k < suc n → P k
  one_more P n f x k h = go (dec_lt k n)
    where
      go : Dec (k < n) → P k
      go (yes l) = f k l
      go (no l) = rw (let e : k ≡ n = omega arith in e) x

  chosen_handled : (n : ℕ) (f : Option ℕ) → is_handled (record_in rs n) ≡ true → Chosen n f → Chosen (suc n) (lesser rs n f)
  unfolding lesser
  chosen_handled n None h (chosen_none a) = rw h (chosen_none (one_more (λ k. order_at rs k ≡ 0) n a (order_handled rs n h)))
  chosen_handled n (Some j) h (chosen_at i a b c) =
      rw h (chosen_at i (omega arith) b (one_more (λ k. Waits k → order_at rs j ≤ order_at rs k) n c (λ d. absurd (d (order_handled rs n h)))))

  chosen_waits : (n : ℕ) (f : Option ℕ) → n < length rs → n < 4096 → is_handled (record_in rs n) ≡ false → Chosen n f → Chosen (suc n) (lesser rs n f)
  unfolding lesser
  chosen_waits n None l m h (chosen_none a) =
      rw h (chosen_at n (omega arith) (λ q. omega (arith, order_waits rs n l h)) (one_more (λ k. Waits k → order_at rs n ≤ order_at rs k) n (λ k b d. absurd (d (a k b))) (λ d. omega arith)))
  chosen_waits n (Some j) l m h (chosen_at i a b c) = rw h (go (dec_lt (record_in rs n).item.count (record_in rs j).item.count))
    where
      own : order_at rs n ≡ 4096 * (record_in rs n).item.count + n + 1
      own = order_waits rs n l h

      best : order_at rs j ≡ 4096 * (record_in rs j).item.count + j + 1
      best = (order_some rs j b).1

      go : Dec ((record_in rs n).item.count < (record_in rs j).item.count) → Chosen (suc n) (cond (leb (record_in rs j).item.count (record_in rs n).item.count) (Some j) (Some n))
      go (yes d) =
          rw (lt-leb (record_in rs j).item.count (record_in rs n).item.count d)
          (chosen_at n (omega arith) (λ q. omega (arith, own)) (one_more (λ k. Waits k → order_at rs n ≤ order_at rs k) n (λ k t w. omega (arith, c k t w, own, best)) (λ w. omega arith)))
      go (no d) =
          rw (le-leb (record_in rs j).item.count (record_in rs n).item.count (omega arith))
          (chosen_at j (omega arith) b (one_more (λ k. Waits k → order_at rs j ≤ order_at rs k) n c (λ w. omega (arith, own, best))))

  chosen_next : (n : ℕ) (f : Option ℕ) → n < length rs → n < 4096 → Chosen n f → Chosen (suc n) (lesser rs n f)
  chosen_next n f l m C = go (is_handled (record_in rs n)) refl
    where
      go : (t : Bool) → is_handled (record_in rs n) ≡ t → Chosen (suc n) (lesser rs n f)
      go true h = chosen_handled n f h C
      go false h = chosen_waits n f l m h C

  chosen : (n : ℕ) → n ≤ length rs → n ≤ 4096 → Chosen n (least_waiting rs n)
  unfolding least_waiting
  chosen zero h m = chosen_none (λ k l. absurd (omega arith))
  chosen (suc n) h m = chosen_next n (least_waiting rs n) (omega arith) (omega arith) (chosen n (omega arith) (omega arith))

  -- ---- by the set
  -- no waiting record has a number below r where the set has none
  none_below : (w : List ℕ) (r : ℕ) → Ranked w rs → get_or w 0 0 < 2 → r ≤ 131072 → ((q : ℕ) → q < r → holds (set_of w) q ≡ false) → (j : ℕ) → j < 4096 → Waits j → order_at rs j ≤ 4096 * get_or w 1 0 + r → ⊥
  none_below w r R z t n j l d b =
      let s = (order_some rs j d).1 in
      let a = R.based z j d in
      let p = order_at rs j - 1 - 4096 * get_or w 1 0 in
      let at : p % 4096 ≡ j = omega arith in
      let less : p < r = omega arith in
      eqb-false (order_at rs (p % 4096)) (4096 * get_or w 1 0 + p + 1) (sym (R.held z p (omega arith)) ∙ n p less) (ap (order_at rs) at ∙ omega arith)

  -- .. so that none waits where an empty set holds every one
  none_held : (w : List ℕ) → Ranked w rs → get_or w 0 0 ≡ 0 → length rs ≤ 4096 → Empty (set_of w) → None ≡ least_waiting rs (length rs)
  none_held w R z m n = told (least_waiting rs (length rs)) (chosen (length rs) (omega arith) m)
    where
      told : (f : Option ℕ) → Chosen (length rs) f → None ≡ f
      told None (chosen_none a) = refl
      told (Some j) (chosen_at i a b c) = absurd (none_below w 131072 R (omega arith) (omega arith) n j (omega arith) b (R.whole z j))

  module _ (w : List ℕ) (r : ℕ) (R : Ranked w rs) (z : get_or w 0 0 < 2) (m : length rs ≤ 4096) (L : Least (set_of w) r) where
    order_least : order_at rs (r % 4096) ≡ 4096 * get_or w 1 0 + r + 1
    order_least = eqb-true _ _ (sym (R.held z r L.within) ∙ L.here)

    told : (f : Option ℕ) → Chosen (length rs) f → Some (r % 4096) ≡ f
    told None (chosen_none a) =
        let s = order_some rs (r % 4096) (λ q. omega (arith, order_least)) in
        absurd (omega (arith, a (r % 4096) s.0, order_least))
    told (Some j) (chosen_at i a b c) =
        let s = order_some rs (r % 4096) (λ q. omega (arith, order_least)) in
        let t = (order_some rs j b).1 in
        let u = c (r % 4096) s.0 (λ q. omega (arith, order_least)) in
        ap Some (go (dec_lt (order_at rs j) (order_at rs (r % 4096))) t u s.1)
      where
        go : Dec (order_at rs j < order_at rs (r % 4096)) → order_at rs j ≡ 4096 * (record_in rs j).item.count + j + 1 → order_at rs j ≤ order_at rs (r % 4096)
            → order_at rs (r % 4096) ≡ 4096 * (record_in rs (r % 4096)).item.count + r % 4096 + 1 → r % 4096 ≡ j
        go (yes d) t u s = absurd (none_below w r R z (omega (arith, L.within)) L.none j (omega arith) b (omega (arith, order_least)))
        go (no d) t u s = omega arith

    least_held : Some (r % 4096) ≡ least_waiting rs (length rs)
    least_held = told (least_waiting rs (length rs)) (chosen (length rs) (omega arith) m)

    -- .. and it leaves the set
    taken_held : (new : List ℕ) → Removed (set_of w) r new → Ranked (put 2 4229 w new) (taken_from rs (Some (r % 4096)))
    taken_held new I =
        let j = r % 4096 in
        let n = (record_in rs j).item.count in
        let s = order_some rs j (λ q. omega (arith, order_least)) in
        let e : r ≡ 4096 * (n - get_or w 1 0) + j = omega (arith, order_least, s.1) in
        removed_set w j n (omega arith) rs (taken_from rs (Some j)) R (s.1 ∙ sym (order_positive j n)) (handled_order rs j s.0) new (omega (arith, order_least, s.1))
        (subst (λ p. Removed (set_of w) p new) e I)

  -- ---- what was taken out of the set
  module _ (w new : List ℕ) (t : Option ℕ) (R : Ranked w rs) (z : get_or w 0 0 < 2) (m : length rs ≤ 4096) (L : LeastTaken (set_of w) t new) where
    pub number_taken : (p : ℕ) → t ≡ Some p → (Some (p % 4096) ≡ least_waiting rs (length rs)) × Ranked (put 2 4229 w new) (taken_from rs (Some (p % 4096)))
    number_taken p e =
        let G : Left (set_of w) p new = subst (λ (s : Option ℕ). LeastTaken (set_of w) s new) e L in
        (least_held w p R z m G.least, taken_held w p R z m G.least new G.removed)

    nothing_told : t ≡ None → Empty (set_of w) × (new ≡ set_of w)
    nothing_told e = subst (λ (s : Option ℕ). LeastTaken (set_of w) s new) e L

    pub nothing_taken : t ≡ None → Ranked (put 2 4229 w new) rs
    nothing_taken e = ranked_back w new rs R (nothing_told e).1

    pub nothing_waits : t ≡ None → get_or w 0 0 ≡ 0 → (None ≡ least_waiting rs (length rs)) × Ranked (put 2 4229 w new) rs
    nothing_waits e q = (none_held w R q m (nothing_told e).0, nothing_taken e)

-- ---- the records looked through
pub least_all : (w : List ℕ) (n : ℕ) (r : Option ℕ) → n ≡ item_count w → r ≡ least_waiting (records_at w n) n → r ≡ least_waiting (chart_of w).records (length (chart_of w).records)
unfolding chart_of
least_all w n r e q = q ∙ ap (λ k. least_waiting (records_at w k) k) e ∙ ap (least_waiting (records_at w (item_count w))) (sym (length_records w (item_count w)))

pub least_told : (w : List ℕ) (n : ℕ) (r f : Option ℕ) → r ≡ f → n ≡ item_count w → r ≡ least_waiting (records_at w n) n → f ≡ least_waiting (chart_of w).records (length (chart_of w).records)
least_told w n r f e q p = sym e ∙ least_all w n r q p

-- as many as the words say
pub few : (w : List ℕ) → length (chart_of w).records ≤ 4096 → item_count w ≤ 4096
unfolding chart_of
few w h = omega (arith, length_records w (item_count w))

-- .. and the one found leaves the words made anew
module _ (w : List ℕ) (j : ℕ) (m : length (chart_of w).records ≤ 4096) (p : Some j ≡ least_waiting (chart_of w).records (length (chart_of w).records)) where
  abbrev rs : List Record
  rs = (chart_of w).records

  waits : (n : ℕ) → Chosen rs n (Some j) → Waits rs j
  waits n (chosen_at i a b c) = b

  order_told : (j < length rs) × (order_at rs j ≡ 4096 * (record_in rs j).item.count + j + 1)
  order_told = order_some rs j (waits (length rs) (subst (Chosen rs (length rs)) (sym p) (chosen rs (length rs) (omega arith) m)))

  pub told_small : j < 4096
  told_small = omega (arith, order_told.0)

  -- it lies inside the words
  pub told_inside : j < capacity w
  unfolding chart_of
  told_inside = item_inside w j (omega (arith, order_told.0, length_records w (item_count w)))

  count_told : (n : ℕ) → n ≡ (record_at w j).item.count → (record_in rs j).item.count ≡ n
  unfolding chart_of
  count_told n e = ap (λ (x : Record). x.item.count) (record_in_lem w (item_count w) j (omega (arith, order_told.0, length_records w (item_count w)))) ∙ sym e

  pub taken_told : (n : ℕ) (new : List ℕ) → n ≡ (record_at w j).item.count → (order_at rs j ≡ order_of true j n → Replaces j 0 rs (taken_from rs (Some j)) → Ranked new (taken_from rs (Some j))) → Ranked new (taken_from rs (Some j))
  taken_told n new e f = f (order_told.1 ∙ sym (order_positive j (record_in rs j).item.count) ∙ ap (order_of true j) (count_told n e)) (handled_order rs j order_told.0)
