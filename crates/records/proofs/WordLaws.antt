-- A chart's words: records that are read and written, one turn of each loop over them.
use Rattle.std.specs.Prelude.{Option, Some, None}
use Prim.Native.Nat.{ℕ, zero, suc, ◌+◌, ◌-◌, ◌*◌, ◌/◌, ◌%◌, ◌≤◌, ◌<◌}
use mathlib.Core.Path.{◌≡◌, refl, sym, ap, ◌∙◌}
use mathlib.Core.Logic.{◌≢◌}
use mathlib.Core.List.{List, [], ◌∷◌, ◌++◌}
use mathlib.Core.Bool.{Bool, true, false, cond, ◌||◌}
use native.Mathlib.Omega.{arith}
use native.Mathlib.Decide.{dec_lt}
use native.Mathlib.Numerals.{add-one}
use lib.Dec.{leb}
use lib.ListN.{length, length-append, get_or, set, length-set, get_or-eq_default, get_or-append}
use lib.Seq.{set_out, set-get_or, set_comm, get_or_at, get_or-set_same, get_or-set_other}
use borrow.Author.Tests.{lt-ltb, le-ltb, le-leb, lt-leb, eq-eqb, ne_eqb}
use Rattle.hrg.specs.Counts.{flag}
use Rattle.agenda.specs.declared.ChartItem.{ChartItem}
use Rattle.agenda.specs.declared.Record.{Record}
use Rattle.agenda.specs.Records.{same_chart_item, is_handled}
use Rattle.agenda.specs.Consequences.{record_in, no_record}
use Rattle.agenda.specs.Steps.{improved, handled_now, last_same, lesser, least_waiting, handled_count}
use Rattle.records.specs.Words.{capacity, item_count, word_at, record_at, records_at, lesser_at, tail_of, words_of, put, saved, improved_at, appended_to, placed_in, added_to, marked_at}
use Rattle.records.proofs.Packing.{words_improved, words_handled}

-- ---- reading
pub past_end : (w : List ℕ) (i : ℕ) → length w ≤ i → 0 ≡ get_or w i 0
past_end w i h = sym (get_or-eq_default w 0 h)

pub word_past : (w : List ℕ) (j k : ℕ) → length w ≤ 4 * j → 0 ≡ word_at w j k
unfolding word_at
word_past w j k h = past_end w (2 + 4 * j + k) (omega arith)

pub word_from : (w : List ℕ) (j k : ℕ) (r : ℕ) → r ≡ get_or w (2 + 4 * j + k) 0 → r ≡ word_at w j k
unfolding word_at
word_from w j k r e = e

-- ---- writing
-- four words that are put into a list
module _ (w : List ℕ) (at : ℕ) (ws : List ℕ) where
  pub length_put : length (put w at ws) ≡ length w
  unfolding put
  length_put = simp length-set

  put_else : (i : ℕ) → i ≢ at + 0 → i ≢ at + 1 → i ≢ at + 2 → i ≢ at + 3 → get_or (put w at ws) i 0 ≡ get_or w i 0
  unfolding put
  put_else i a b c d = simp get_or-set_other

  pub put_before : (i : ℕ) → i < at → get_or (put w at ws) i 0 ≡ get_or w i 0
  put_before i h = put_else i (λ e. omega arith) (λ e. omega arith) (λ e. omega arith) (λ e. omega arith)

  pub put_behind : (i : ℕ) → at + 4 ≤ i → get_or (put w at ws) i 0 ≡ get_or w i 0
  put_behind i h = put_else i (λ e. omega arith) (λ e. omega arith) (λ e. omega arith) (λ e. omega arith)

  pub put_at : at + 4 ≤ length w → (k : ℕ) → k < 4 → get_or (put w at ws) (at + k) 0 ≡ get_or ws k 0
  unfolding put
  put_at i zero l =
      let x : at + 0 ≢ at + 3 = λ e. omega arith in
      let y : at + 0 ≢ at + 2 = λ e. omega arith in
      let z : at + 0 ≢ at + 1 = λ e. omega arith in
      let h : at + 0 < length w = omega arith in
      simp (get_or-set_other, get_or-set_same)
  put_at i (suc zero) l =
      let x : at + 1 ≢ at + 3 = λ e. omega arith in
      let y : at + 1 ≢ at + 2 = λ e. omega arith in
      let h : at + 1 < length (set w (at + 0) (get_or ws 0 0)) = simp length-set (omega arith) in
      simp (get_or-set_other, get_or-set_same)
  put_at i (suc (suc zero)) l =
      let x : at + 2 ≢ at + 3 = λ e. omega arith in
      let h : at + 2 < length (set (set w (at + 0) (get_or ws 0 0)) (at + 1) (get_or ws 1 0)) = simp length-set (omega arith) in
      simp (get_or-set_other, get_or-set_same)
  put_at i (suc (suc (suc zero))) l =
      let h : at + 3 < length (set (set (set w (at + 0) (get_or ws 0 0)) (at + 1) (get_or ws 1 0)) (at + 2) (get_or ws 2 0)) = simp length-set (omega arith) in
      simp get_or-set_same
  put_at i (suc (suc (suc (suc k)))) l = absurd (omega arith)

-- one of them is another than before
module _ (w : List ℕ) (j a : ℕ) where
  put_tail : put w (2 + 4 * j) (word_at w j 0 ∷ word_at w j 1 ∷ word_at w j 2 ∷ a ∷ []) ≡ set w (2 + 4 * j + 3) a
  unfolding put word_at
  put_tail = rw (set-get_or w (2 + 4 * j + 0) 0, set-get_or w (2 + 4 * j + 1) 0, set-get_or w (2 + 4 * j + 2) 0)

  put_head : put w (2 + 4 * j) (a ∷ word_at w j 1 ∷ word_at w j 2 ∷ word_at w j 3 ∷ []) ≡ set w (2 + 4 * j + 0) a
  unfolding put word_at
  put_head =
      let at = 2 + 4 * j + 0 in
      let same : (i : ℕ) → at ≢ i → set (set w at a) i (get_or w i 0) ≡ set w at a =
      λ i d. set_comm w at i a (get_or w i 0) d ∙ ap (λ (v : List ℕ). set v at a) (set-get_or w i 0)
      in
      rw (same (2 + 4 * j + 1) (λ e. omega arith), same (2 + 4 * j + 2) (λ e. omega arith), same (2 + 4 * j + 3) (λ e. omega arith))

pub save_some : (w v : List ℕ) (j : ℕ) (x : Record) → j < capacity w → v ≡ put w (2 + 4 * j) (words_of x) → v ≡ saved w j x
unfolding saved
save_some w v j x h e = rw (lt-ltb _ _ h) e

-- words as long as others hold as many items
pub same_capacity : (v w : List ℕ) → length v ≡ length w → capacity v ≡ capacity w
unfolding capacity
same_capacity v w e = ap (λ n. (n - 2) / 4) e

pub place_fits : (w : List ℕ) (j : ℕ) → j < capacity w → 2 + 4 * j + 4 ≤ length w
unfolding capacity
place_fits w j h = omega arith

-- there are never more items than places
pub count_fits : (w : List ℕ) → item_count w ≤ capacity w
unfolding item_count
count_fits w = omega arith

pub item_inside : (w : List ℕ) (j : ℕ) → j < item_count w → j < capacity w
item_inside w j h = omega (arith, count_fits w)

-- ---- records of the words
pub length_records : (w : List ℕ) (n : ℕ) → length (records_at w n) ≡ n
unfolding records_at
length_records w zero = refl
length_records w (suc n) = simp (length-append, length_records w n) (omega arith)

pub record_in_lem : (w : List ℕ) (n k : ℕ) → k < n → record_in (records_at w n) k ≡ record_at w k
unfolding records_at
record_in_lem w zero k h = absurd (omega arith)
record_in_lem w (suc n) k h = go (λ d. record_in_lem w n k d) (dec_lt k n)
  where
    go : (k < n → record_in (records_at w n) k ≡ record_at w k) → Dec (k < n) → get_or (records_at w n ++ (record_at w n ∷ [])) k no_record ≡ record_at w k
    go f (yes d) = get_or-append (records_at w n) (record_at w n ∷ []) no_record k (omega (arith, length_records w n)) ∙ f d
    go f (no d) =
        let q : k ≡ n = omega arith in
        rw q (get_or_at (records_at w n) (record_at w n) [] no_record n (length_records w n))

-- ---- the search for an item
module _ (w : List ℕ) (x : ChartItem) (n i k : ℕ) (h : k < n) (e : i ≡ k + 1) (t : Bool) (s : t ≡ same_chart_item x (record_at w k).item) where
  find_turn : last_same x (records_at w n) i ≡ cond t (Some k) (last_same x (records_at w n) k)
  unfolding last_same
  find_turn = rw (e, add-one) (rw (record_in_lem w n k h, ← s))

  pub find_hit : t ≡ true → Some k ≡ last_same x (records_at w n) i
  find_hit p = sym (find_turn ∙ rw p)

  pub find_miss : t ≡ false → last_same x (records_at w n) k ≡ last_same x (records_at w n) i
  find_miss p = sym (find_turn ∙ rw p)

pub find_end : (w : List ℕ) (x : ChartItem) (n i : ℕ) → i ≤ 0 → None ≡ last_same x (records_at w n) i
unfolding last_same
find_end w x n i h = rw (let p : i ≡ 0 = omega arith in p)

-- ---- the choice of a step
-- the one found is among the first n
pub data Below (n : ℕ) : Option ℕ → Type 0 where
  none : Below n None
  one : {j : ℕ} → j < n → Below n (Some j)

cond_below : (n : ℕ) (b : Bool) (f g : Option ℕ) → Below n f → Below n g → Below n (cond b f g)
cond_below n true f g p q = p
cond_below n false f g p q = q

more : (n : ℕ) (f : Option ℕ) → Below n f → Below (suc n) f
more n None none = none
more n (Some j) (one h) = one {j = j} (omega arith)

pub last_below : (x : ChartItem) (rs : List Record) (n : ℕ) → Below n (last_same x rs n)
unfolding last_same
last_below x rs zero = none
last_below x rs (suc n) = cond_below (suc n) (same_chart_item x (record_in rs n).item) (Some n) (last_same x rs n) (one {j = n} (omega arith)) (more n (last_same x rs n) (last_below x rs n))

lesser_below : (rs : List Record) (n : ℕ) (f : Option ℕ) → Below n f → Below (suc n) (lesser rs n f)
unfolding lesser
lesser_below rs n None b = cond_below (suc n) (is_handled (record_in rs n)) None (Some n) none (one {j = n} (omega arith))
lesser_below rs n (Some j) b = cond_below (suc n) (is_handled (record_in rs n) || leb (record_in rs j).item.count (record_in rs n).item.count) (Some j) (Some n) (more n (Some j) b) (one {j = n} (omega arith))

pub least_below : (rs : List Record) (n : ℕ) → Below n (least_waiting rs n)
unfolding least_waiting
least_below rs zero = none
least_below rs (suc n) = lesser_below rs n (least_waiting rs n) (least_below rs n)

below_place : (n j : ℕ) → Below n (Some j) → j < n
below_place n j (one h) = h

pub least_place : (rs : List Record) (n j : ℕ) → Some j ≡ least_waiting rs n → j < n
least_place rs n j e = below_place n j (rw e (least_below rs n))

lesser_at_lem : (w : List ℕ) (n i : ℕ) (f : Option ℕ) → i < n → Below i f → lesser_at w i f ≡ lesser (records_at w n) i f
unfolding lesser lesser_at
lesser_at_lem w n i None h b = rw (record_in_lem w n i h)
lesser_at_lem w n i (Some j) h (one l) = rw (record_in_lem w n i h, record_in_lem w n j (omega arith))

pub least_next : (w : List ℕ) (n i : ℕ) (f g : Option ℕ) → i < n → f ≡ least_waiting (records_at w n) i → g ≡ lesser_at w i f → g ≡ least_waiting (records_at w n) (i + 1)
unfolding least_waiting
least_next w n i f g h e p = rw add-one (p ∙ ap (lesser_at w i) e ∙ lesser_at_lem w n i (least_waiting (records_at w n) i) h (least_below (records_at w n) i))

pub least_start : (rs : List Record) → None ≡ least_waiting rs 0
unfolding least_waiting
least_start rs = refl

pub lesser_handled : (w : List ℕ) (i j : ℕ) → is_handled (record_at w i) ≡ true → Some j ≡ lesser_at w i (Some j)
unfolding lesser_at
lesser_handled w i j h = rw h

module _ (w : List ℕ) (i j : ℕ) (h : is_handled (record_at w i) ≡ false) where
  pub lesser_stays : (record_at w j).item.count ≤ (record_at w i).item.count → Some j ≡ lesser_at w i (Some j)
  unfolding lesser_at
  lesser_stays l = rw (h, le-leb (record_at w j).item.count (record_at w i).item.count l)

  pub lesser_moves : (record_at w i).item.count < (record_at w j).item.count → Some i ≡ lesser_at w i (Some j)
  unfolding lesser_at
  lesser_moves l = rw (h, lt-leb (record_at w j).item.count (record_at w i).item.count l)

-- no record waits before place i: the one there is handled, or it is the first that waits
module _ (w : List ℕ) (n i : ℕ) (h : i < n) (e : None ≡ least_waiting (records_at w n) i) where
  pub least_none : is_handled (record_at w i) ≡ true → None ≡ least_waiting (records_at w n) (i + 1)
  unfolding lesser_at
  least_none p = least_next w n i None None h e (rw p)

  pub least_one : is_handled (record_at w i) ≡ false → Some i ≡ least_waiting (records_at w n) (i + 1)
  unfolding lesser_at
  least_one p = least_next w n i None (Some i) h e (rw p)

-- ---- handled records
handled_append : (rs ss : List Record) → handled_count (rs ++ ss) ≡ handled_count rs + handled_count ss
unfolding handled_count
handled_append [] ss = omega arith
handled_append (x ∷ rs) ss = omega (arith, handled_append rs ss)

handled_turn : (w : List ℕ) (i : ℕ) → handled_count (records_at w (i + 1)) ≡ handled_count (records_at w i) + flag (is_handled (record_at w i))
unfolding records_at handled_count
handled_turn w i = rw add-one (omega (arith, handled_append (records_at w i) (record_at w i ∷ [])))

pub handled_start : (w : List ℕ) → 0 ≡ handled_count (records_at w 0)
unfolding records_at handled_count
handled_start w = refl

pub handled_more : (w : List ℕ) (i d : ℕ) → is_handled (record_at w i) ≡ true → d ≡ handled_count (records_at w i) → d + 1 ≡ handled_count (records_at w (i + 1))
handled_more w i d h p = omega (arith, handled_turn w i, ap flag h)

pub handled_same : (w : List ℕ) (i d : ℕ) → is_handled (record_at w i) ≡ false → d ≡ handled_count (records_at w i) → d ≡ handled_count (records_at w (i + 1))
handled_same w i d h p = omega (arith, handled_turn w i, ap flag h)

-- ---- one record more
module _ (w : List ℕ) (j : ℕ) (x : Record) where
  pub improve_handled : is_handled (record_at w j) ≡ true → w ≡ improved_at w j x
  unfolding improved_at
  improve_handled h = rw h

  module _ (z : is_handled (record_at w j) ≡ false) where
    pub improve_less : (record_at w j).item.count ≤ x.item.count → w ≡ improved_at w j x
    unfolding improved_at
    improve_less l = rw (z, le-leb (record_at w j).item.count x.item.count l)

    pub improve_more : j < capacity w → x.item.count < (record_at w j).item.count → set w (2 + 4 * j + 3) (tail_of x) ≡ improved_at w j x
    unfolding improved_at
    improve_more h l =
        rw (z, lt-leb (record_at w j).item.count x.item.count l)
        (save_some w _ j (improved (record_at w j) x) h (sym (put_tail w j (tail_of x)) ∙ ap (put w (2 + 4 * j)) (sym (words_improved w j x))))

short_capacity : (w : List ℕ) → length w < 2 → capacity w ≡ 0
unfolding capacity
short_capacity w h = omega arith

pub append_short : (w : List ℕ) (n : ℕ) (x : Record) → length w < 2 → w ≡ appended_to w n x
unfolding appended_to
append_short w n x h = rw (le-ltb n (capacity w) (omega (arith, short_capacity w h))) (sym (set_out w 1 1 (omega arith)))

pub append_full : (w : List ℕ) (n : ℕ) (x : Record) → capacity w ≤ n → set w 1 1 ≡ appended_to w n x
unfolding appended_to
append_full w n x h = rw (le-ltb n (capacity w) h)

pub append_room : (w v : List ℕ) (n : ℕ) (x : Record) → n < capacity w → v ≡ saved w n x → set v 0 (n + 1) ≡ appended_to w n x
unfolding appended_to
append_room w v n x h e =
    ap (λ (l : List ℕ). set l 0 (n + 1)) e ∙ sym (ap (λ (t : Bool). cond t (set (saved w n x) 0 (n + 1)) (set w 1 1)) (lt-ltb n (capacity w) h))

pub add_marked : (w : List ℕ) (x : Record) (m : ℕ) → m ≡ get_or w 1 0 → (m ≡ 0 → ⊥) → w ≡ added_to w x
unfolding added_to
add_marked w x m e h = rw (ne_eqb (get_or w 1 0) 0 (λ q. h (e ∙ q)))

module _ (w : List ℕ) (x : Record) (m n : ℕ) (f : Option ℕ) (me : m ≡ get_or w 1 0) (z : m ≡ 0) (ne : n ≡ item_count w) (fe : f ≡ last_same x.item (records_at w n) n) (v : List ℕ) where
  add_placed : v ≡ placed_in w x f → v ≡ added_to w x
  unfolding added_to
  add_placed p = rw (eq-eqb (get_or w 1 0) 0 (sym me ∙ z), ← ne, ← fe) p

  pub add_found : (j : ℕ) → f ≡ Some j → v ≡ improved_at w j x → v ≡ added_to w x
  unfolding placed_in
  add_found j p q = add_placed (rw p q)

  pub add_new : f ≡ None → v ≡ appended_to w n x → v ≡ added_to w x
  unfolding placed_in
  add_new p q = add_placed (rw (p, ← ne) q)

-- ---- a record that becomes handled
pub mark_none : (w : List ℕ) (j : ℕ) → capacity w ≤ j → w ≡ marked_at w j
unfolding marked_at saved
mark_none w j h = rw (le-ltb j (capacity w) h)

pub mark_some : (w : List ℕ) (j : ℕ) → j < capacity w → set w (2 + 4 * j + 0) (word_at w j 0 % 4294967296 + 4294967296) ≡ marked_at w j
unfolding marked_at
mark_some w j h =
    save_some w _ j (handled_now (record_at w j)) h
    (sym (put_head w j (word_at w j 0 % 4294967296 + 4294967296)) ∙ ap (put w (2 + 4 * j)) (sym (words_handled w j)))
