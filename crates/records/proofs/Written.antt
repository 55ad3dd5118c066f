-- Records that are saved in a chart's words, and what adding and handling a record make of the chart that the words
-- stand for.
use Rattle.std.specs.Prelude.{Option, Some, None}
use Prim.Native.Nat.{ℕ, zero, suc, ◌+◌, ◌-◌, ◌*◌, ◌/◌, ◌≤◌, ◌<◌, min}
use mathlib.Core.Path.{◌≡◌, refl, sym, ap, ap₂, ◌∙◌, subst}
use mathlib.Core.Logic.{◌≢◌}
use mathlib.Core.List.{List, [], ◌∷◌, ◌++◌, append_assoc, append-nil}
use mathlib.Core.Bool.{Bool, true, false, cond, ◌||◌}
use native.Mathlib.Omega.{arith}
use native.Mathlib.Decide.{dec_lt}
use lib.Dec.{eqb, ltb, leb}
use lib.ListN.{length, length-append, get_or, drop, set, length-set, length-drop, get_or-append}
use lib.Seq.{get_or-set_same, get_or-set_other, get_or-drop, get_or-append-add, get_or_at, ext_get_or, drop-cons}
use borrow.Author.Tests.{lt-ltb, ltb-true}
use Rattle.agenda.specs.declared.ChartItem.{ChartItem}
use Rattle.agenda.specs.declared.Record.{Record}
use Rattle.agenda.specs.Records.{is_handled}
use Rattle.agenda.specs.Consequences.{record_in, no_record}
use Rattle.agenda.specs.Steps.{Chart, improved, handled_now, last_same, placed, added}
use Rattle.records.specs.Words.{Fits, capacity, item_count, word_at, record_at, records_at, chart_of, words_of, Compact, put, saved, all_words, written, improved_at, appended_to, placed_in, added_to, marked_at}
use Rattle.records.proofs.Packing.{words_again, record_compact, record_read, compact_improved, compact_handled}
use Rattle.records.proofs.WordLaws.{length_put, put_before, put_behind, put_at, length_records, record_in_lem, place_fits, item_inside, Below, one, last_below}

-- words that agree at a place have the same record there
record_by : (v w : List ℕ) (j : ℕ) → ((k : ℕ) → k < 4 → get_or v (2 + 4 * j + k) 0 ≡ get_or w (2 + 4 * j + k) 0) → record_at v j ≡ record_at w j
unfolding record_at word_at
record_by v w j p = rw (p 0 (omega arith), p 1 (omega arith), p 2 (omega arith), p 3 (omega arith))

-- a record that is read has eight places
pub eight_nodes : (w : List ℕ) (j : ℕ) → length (record_at w j).item.nodes ≡ 8
eight_nodes w j = (record_compact w j).item.places.size

-- ---- a record that is saved
module _ (w : List ℕ) (j : ℕ) (x : Record) (h : j < capacity w) where
  saved_is : saved w j x ≡ put w (2 + 4 * j) (words_of x)
  unfolding saved
  saved_is = rw (lt-ltb j (capacity w) h)

  pub length_saved : length (saved w j x) ≡ length w
  length_saved = ap length saved_is ∙ length_put w (2 + 4 * j) (words_of x)

  pub saved_before : (i : ℕ) → i < 2 + 4 * j → get_or (saved w j x) i 0 ≡ get_or w i 0
  saved_before i l = ap (λ (v : List ℕ). get_or v i 0) saved_is ∙ put_before w (2 + 4 * j) (words_of x) i l

  pub saved_behind : (i : ℕ) → 2 + 4 * j + 4 ≤ i → get_or (saved w j x) i 0 ≡ get_or w i 0
  saved_behind i l = ap (λ (v : List ℕ). get_or v i 0) saved_is ∙ put_behind w (2 + 4 * j) (words_of x) i l

  saved_word : (k : ℕ) → k < 4 → word_at (saved w j x) j k ≡ get_or (words_of x) k 0
  unfolding word_at
  saved_word k l = ap (λ (v : List ℕ). get_or v (2 + 4 * j + k) 0) saved_is ∙ put_at w (2 + 4 * j) (words_of x) (place_fits w j h) k l

  -- the record is read again
  pub saved_same : Compact x → record_at (saved w j x) j ≡ x
  saved_same e = record_read x e (saved w j x) j saved_word

  -- the others stay
  pub saved_other : (k : ℕ) → k ≢ j → record_at (saved w j x) k ≡ record_at w k
  saved_other k ne = record_by (saved w j x) w k (λ i l. go i l (dec_lt k j))
    where
      go : (i : ℕ) → i < 4 → Dec (k < j) → get_or (saved w j x) (2 + 4 * k + i) 0 ≡ get_or w (2 + 4 * k + i) 0
      go i l (yes d) = saved_before (2 + 4 * k + i) (omega arith)
      go i l (no d) = saved_behind (2 + 4 * k + i) (omega arith)

-- a word of the header leaves the records
pub header_records : (w : List ℕ) (i a k : ℕ) → i < 2 → record_at (set w i a) k ≡ record_at w k
header_records w i a k h = record_by (set w i a) w k (λ m l. get_or-set_other w i (2 + 4 * k + m) a 0 (omega arith))

-- a record that was found among the items lies inside
at_below : (n j : ℕ) → Below n (Some j) → j < n
at_below n j (one h) = h

pub found_fits : (w : List ℕ) (x : ChartItem) (n j : ℕ) (f : Option ℕ) → n ≡ item_count w → f ≡ last_same x (records_at w n) n → f ≡ Some j → j < capacity w
unfolding item_count
found_fits w x n j f e p q =
    let b : j < n = at_below n j (subst (λ (g : Option ℕ). Below n g) (sym p ∙ q) (last_below x (records_at w n) n)) in
    omega arith

-- ---- words and the chart that they stand for
words_append : (xs ys : List Record) → all_words (xs ++ ys) ≡ all_words xs ++ all_words ys
unfolding all_words
words_append [] ys = refl
words_append (x ∷ xs) ys = ap (λ (l : List ℕ). words_of x ++ l) (words_append xs ys) ∙ sym (append_assoc (words_of x) (all_words xs) (all_words ys))

-- the words from a record on are its own and those behind it
four_more : (v : List ℕ) (a : ℕ) → a + 4 ≤ length v
    → drop a v ≡ get_or v (a + 0) 0 ∷ get_or v (a + 1) 0 ∷ get_or v (a + 2) 0 ∷ get_or v (a + 3) 0 ∷ drop (a + 4) v
four_more v a h =
    let p0 : a + 0 ≡ a = omega arith in
    let p1 : a + 1 ≡ suc a = omega arith in
    let p2 : a + 2 ≡ suc (suc a) = omega arith in
    let p3 : a + 3 ≡ suc (suc (suc a)) = omega arith in
    let p4 : a + 4 ≡ suc (suc (suc (suc a))) = omega arith in
    let next : (i : ℕ) → i < length v → drop i v ≡ get_or v i 0 ∷ drop (suc i) v = λ i l. drop-cons v i 0 l in
    rw (p0, p1, p2, p3, p4)
    (rw (next a (omega arith), next (suc a) (omega arith), next (suc (suc a)) (omega arith), next (suc (suc (suc a))) (omega arith)))

next_record : (v : List ℕ) (n : ℕ) → 2 + 4 * n + 4 ≤ length v → drop (2 + 4 * n) v ≡ words_of (record_at v n) ++ drop (2 + 4 * n + 4) v
unfolding word_at
next_record v n h = four_more v (2 + 4 * n) h ∙ ap (λ (l : List ℕ). l ++ drop (2 + 4 * n + 4) v) (sym (words_again v n))

all_records : (v : List ℕ) (n : ℕ) → 2 + 4 * n ≤ length v → drop 2 v ≡ all_words (records_at v n) ++ drop (2 + 4 * n) v
unfolding all_words records_at
all_records v zero h = refl
all_records v (suc n) h =
    all_records v n (omega arith)
    ∙ ap (λ (l : List ℕ). all_words (records_at v n) ++ l) (next_record v n (omega arith) ∙ ap (λ m. words_of (record_at v n) ++ drop m v) (let q : 2 + 4 * n + 4 ≡ 2 + 4 * suc n = omega arith in q))
    ∙ sym (append_assoc (all_words (records_at v n)) (words_of (record_at v n)) (drop (2 + 4 * suc n) v))
    ∙ ap (λ (l : List ℕ). l ++ drop (2 + 4 * suc n) v)
    (ap (λ (l : List ℕ). all_words (records_at v n) ++ l) (sym (append-nil (words_of (record_at v n)))) ∙ sym (words_append (records_at v n) (record_at v n ∷ [])))

two_words : (v : List ℕ) → 2 ≤ length v → v ≡ get_or v 0 0 ∷ get_or v 1 0 ∷ drop 2 v
two_words [] h = absurd (omega arith)
two_words (a ∷ []) h = absurd (omega arith)
two_words (a ∷ b ∷ l) h = refl

-- words v where w stood before, with the header and the records of the chart c, and behind them what w has
pub record Standing (v w : List ℕ) (c : Chart) (n : ℕ) : Type 0 where
  pub number : length c.records ≡ n
  pub room : 2 + 4 * n ≤ length v
  pub long : length v ≡ length w
  pub first : get_or v 0 0 ≡ n
  pub second : get_or v 1 0 ≡ c.mark
  pub at : (k : ℕ) → k < n → record_at v k ≡ record_in c.records k
  pub behind : (i : ℕ) → 2 + 4 * n ≤ i → get_or v i 0 ≡ get_or w i 0

same_records : (v : List ℕ) (rs : List Record) (n : ℕ) → length rs ≡ n → ((k : ℕ) → k < n → record_at v k ≡ record_in rs k) → records_at v n ≡ rs
same_records v rs n e p =
    ext_get_or no_record (records_at v n) rs (length_records v n ∙ sym e)
    (λ k l. record_in_lem v n k (omega (arith, length_records v n)) ∙ p k (omega (arith, length_records v n)))

same_behind : (v w : List ℕ) (a : ℕ) → length v ≡ length w → ((i : ℕ) → a ≤ i → get_or v i 0 ≡ get_or w i 0) → drop a v ≡ drop a w
same_behind v w a e p =
    ext_get_or 0 (drop a v) (drop a w) (simp length-drop (omega arith)) (λ i l. get_or-drop a v i 0 ∙ p (a + i) (omega arith) ∙ sym (get_or-drop a w i 0))

pub written_by : (v w : List ℕ) (c : Chart) (n : ℕ) → Standing v w c n → v ≡ written w c
unfolding written
written_by v w c n s =
    let a : 2 ≤ length v = omega (arith, s.room) in
    two_words v a
    ∙ ap (λ (l : List ℕ). get_or v 0 0 ∷ get_or v 1 0 ∷ l) (all_records v n s.room ∙ ap (λ (rs : List Record). all_words rs ++ drop (2 + 4 * n) v) (same_records v c.records n s.number s.at) ∙ ap (λ (l : List ℕ). all_words c.records ++ l) (same_behind v w (2 + 4 * n) s.long s.behind))
    ∙ ap (λ m. m ∷ get_or v 1 0 ∷ (all_words c.records ++ drop (2 + 4 * n) w)) s.first
    ∙ ap (λ m. n ∷ m ∷ (all_words c.records ++ drop (2 + 4 * n) w)) s.second
    ∙ ap (λ m. m ∷ c.mark ∷ (all_words c.records ++ drop (2 + 4 * m) w)) (sym s.number)

-- ---- a chart within its capacity
pub count_is : (w : List ℕ) → Fits w → item_count w ≡ get_or w 0 0
unfolding item_count
count_is w f = let l = f.number in omega arith

records_fit : (w : List ℕ) (n : ℕ) → 2 ≤ length w → n ≤ capacity w → 2 + 4 * n ≤ length w
unfolding capacity
records_fit w n a b = omega arith

abbrev chart_in : List ℕ → ℕ → Chart
chart_in w n = record { mark = get_or w 1 0; records = records_at w n }

module _ (w : List ℕ) (n : ℕ) (f : Fits w) (ne : n ≡ get_or w 0 0) where
  within : n ≤ capacity w
  within = let l = f.number in omega arith

  roomy : 2 + 4 * n ≤ length w
  roomy = records_fit w n f.header within

  -- the words stand for their own chart
  kept : w ≡ written w (chart_in w n)
  kept =
      written_by w w (chart_in w n) n
      (record { number = length_records w n; room = roomy; long = refl; first = sym ne; second = refl; at = λ k l. sym (record_in_lem w n k l); behind = λ i l. refl })

  -- one more item than there is place for
  marked : set w 1 1 ≡ written w (record { mark = 1; records = records_at w n })
  marked =
      let h = f.header in
      written_by (set w 1 1) w (record { mark = 1; records = records_at w n }) n
      (record {
        number = length_records w n;
        room = omega (arith, roomy, length-set w 1 1);
        long = length-set w 1 1;
        first = get_or-set_other w 1 0 1 0 (omega arith) ∙ sym ne;
        second = get_or-set_same w 1 1 0 (omega arith);
        at = λ k l. header_records w 1 1 k (omega arith) ∙ sym (record_in_lem w n k l);
        behind = λ i l. get_or-set_other w 1 i 1 0 (omega arith);
      })

  -- words that differ from w in one record
  module _ (j : ℕ) (h : j < n) (v : List ℕ) (y : Record) (long : length v ≡ length w) (same : record_at v j ≡ y)
      (before : (i : ℕ) → i < 2 + 4 * j → get_or v i 0 ≡ get_or w i 0) (behind : (i : ℕ) → 2 + 4 * j + 4 ≤ i → get_or v i 0 ≡ get_or w i 0) where
    record_else : (k : ℕ) → k ≢ j → record_at v k ≡ record_at w k
    record_else k d = record_by v w k (λ i l. go i l (dec_lt k j))
      where
        go : (i : ℕ) → i < 4 → Dec (k < j) → get_or v (2 + 4 * k + i) 0 ≡ get_or w (2 + 4 * k + i) 0
        go i l (yes q) = before (2 + 4 * k + i) (omega arith)
        go i l (no q) = behind (2 + 4 * k + i) (omega arith)

    one_record : (k : ℕ) → k < n → record_at v k ≡ record_in (set (records_at w n) j y) k
    one_record k l = go (dec_lt k j) (dec_lt j k)
      where
        else : k ≢ j → record_at v k ≡ record_in (set (records_at w n) j y) k
        else d = record_else k d ∙ sym (record_in_lem w n k l) ∙ sym (get_or-set_other (records_at w n) j k y no_record d)

        go : Dec (k < j) → Dec (j < k) → record_at v k ≡ record_in (set (records_at w n) j y) k
        go (yes d) q = else (λ z. omega arith)
        go (no d) (yes q) = else (λ z. omega arith)
        go (no d) (no q) =
            let z : k ≡ j = omega arith in
            subst (λ (i : ℕ). record_at v i ≡ record_in (set (records_at w n) j y) i) (sym z)
            (same ∙ sym (get_or-set_same (records_at w n) j y no_record (omega (arith, length_records w n))))

    replaced : v ≡ written w (record { mark = get_or w 1 0; records = set (records_at w n) j y })
    replaced =
        written_by v w (record { mark = get_or w 1 0; records = set (records_at w n) j y }) n
        (record {
          number = length-set (records_at w n) j y ∙ length_records w n;
          room = omega (arith, roomy);
          long = long;
          first = before 0 (omega arith) ∙ sym ne;
          second = before 1 (omega arith);
          at = one_record;
          behind = λ i l. behind i (omega arith);
        })

  pub saved_written : (j : ℕ) (y : Record) → j < n → Compact y → saved w j y ≡ written w (record { mark = get_or w 1 0; records = set (records_at w n) j y })
  saved_written j y h e =
      let c : j < capacity w = omega (arith, within) in
      replaced j h (saved w j y) y (length_saved w j y c) (saved_same w j y c e) (saved_before w j y c) (saved_behind w j y c)

  -- one record more behind the others
  appended : (x : Record) → n < capacity w → Compact x
      → set (saved w n x) 0 (n + 1) ≡ written w (record { mark = get_or w 1 0; records = records_at w n ++ (x ∷ []) })
  appended x h e =
      let s = saved w n x in
      let ls : length s ≡ length w = length_saved w n x h in
      let lv : length (set s 0 (n + 1)) ≡ length s = length-set s 0 (n + 1) in
      let fit : 2 + 4 * n + 4 ≤ length w = place_fits w n h in
      written_by (set s 0 (n + 1)) w (record { mark = get_or w 1 0; records = records_at w n ++ (x ∷ []) }) (n + 1)
      (record {
        number = simp length-append (omega (arith, length_records w n));
        room = omega arith;
        long = lv ∙ ls;
        first = get_or-set_same s 0 (n + 1) 0 (omega arith);
        second = get_or-set_other s 0 1 (n + 1) 0 (omega arith) ∙ saved_before w n x h 1 (omega arith);
        at = λ k l. header_records s 0 (n + 1) k (omega arith) ∙ go k (dec_lt k n) l;
        behind = λ i l. get_or-set_other s 0 i (n + 1) 0 (omega arith) ∙ saved_behind w n x h i (omega arith);
      })
    where
      go : (k : ℕ) → Dec (k < n) → k < n + 1 → record_at (saved w n x) k ≡ record_in (records_at w n ++ (x ∷ [])) k
      go k (yes d) l =
          saved_other w n x h k (λ z. omega arith) ∙ sym (record_in_lem w n k d)
          ∙ sym (get_or-append (records_at w n) (x ∷ []) no_record k (omega (arith, length_records w n)))
      go k (no d) l =
          let z : k ≡ n = omega arith in
          subst (λ (i : ℕ). record_at (saved w n x) i ≡ record_in (records_at w n ++ (x ∷ [])) i) (sym z)
          (saved_same w n x h e ∙ sym (get_or_at (records_at w n) x [] no_record n (length_records w n)))

-- ---- one record more
cond_both : (w : List ℕ) (t : Bool) (a b : List ℕ) (c d : Chart) → (t ≡ true → a ≡ written w c) → (t ≡ false → b ≡ written w d) → cond t a b ≡ written w (cond t c d)
cond_both w true a b c d p q = p refl
cond_both w false a b c d p q = q refl

module _ (w : List ℕ) (n : ℕ) (f : Fits w) (ne : n ≡ get_or w 0 0) (e : n ≡ item_count w) (x : Record) (ex : Compact x) where
  found_again : (j : ℕ) → j < n → improved_at w j x ≡ written w (placed (capacity w) x (chart_in w n) (Some j))
  unfolding improved_at placed
  found_again j h =
      subst
      (λ (y : Record). improved_at w j x ≡ written w (cond (is_handled y || leb y.item.count x.item.count) (chart_in w n) (record { mark = get_or w 1 0; records = set (records_at w n) j (improved y x) })))
      (sym (record_in_lem w n j h))
      (cond_both w (is_handled (record_at w j) || leb (record_at w j).item.count x.item.count) w (saved w j (improved (record_at w j) x)) (chart_in w n) (record { mark = get_or w 1 0; records = set (records_at w n) j (improved (record_at w j) x) })
      (λ t. kept w n f ne) (λ t. saved_written w n f ne j (improved (record_at w j) x) h (compact_improved (record_compact w j) ex)))

  new_one : appended_to w n x ≡ written w (placed (capacity w) x (chart_in w n) None)
  unfolding appended_to placed
  new_one =
      subst
      (λ m. appended_to w n x ≡ written w (cond (ltb m (capacity w)) (record { mark = get_or w 1 0; records = records_at w n ++ (x ∷ []) }) (record { mark = 1; records = records_at w n })))
      (sym (length_records w n))
      (cond_both w (ltb n (capacity w)) (set (saved w n x) 0 (n + 1)) (set w 1 1) (record { mark = get_or w 1 0; records = records_at w n ++ (x ∷ []) }) (record { mark = 1; records = records_at w n })
      (λ t. appended w n f ne x (ltb-true n (capacity w) t) ex) (λ t. marked w n f ne))

  placed_written : (d : Option ℕ) → Below n d → placed_in w x d ≡ written w (placed (capacity w) x (chart_in w n) d)
  unfolding placed_in
  placed_written None b = ap (λ m. appended_to w m x) (sym e) ∙ new_one
  placed_written (Some j) (one h) = found_again j h

  added_written : added_to w x ≡ written w (added (capacity w) x (chart_in w n))
  unfolding added_to added
  added_written =
      ap (λ m. cond (eqb (get_or w 1 0) 0) (placed_in w x (last_same x.item (records_at w m) m)) w) (sym e)
      ∙ subst
      (λ m. cond (eqb (get_or w 1 0) 0) (placed_in w x (last_same x.item (records_at w n) n)) w ≡ written w (cond (eqb (get_or w 1 0) 0) (placed (capacity w) x (chart_in w n) (last_same x.item (records_at w n) m)) (chart_in w n)))
      (sym (length_records w n))
      (cond_both w (eqb (get_or w 1 0) 0) (placed_in w x (last_same x.item (records_at w n) n)) w (placed (capacity w) x (chart_in w n) (last_same x.item (records_at w n) n)) (chart_in w n)
      (λ t. placed_written (last_same x.item (records_at w n) n) (last_below x.item (records_at w n) n)) (λ t. kept w n f ne))

-- `add` makes of words what `added` makes of the chart that they stand for
pub add_written : (w : List ℕ) (x : Record) → Fits w → Compact x → added_to w x ≡ written w (added (capacity w) x (chart_of w))
unfolding chart_of
add_written w x f ex = added_written w (item_count w) f (count_is w f) refl x ex

-- words stand for their own chart
pub chart_written : (w : List ℕ) → Fits w → w ≡ written w (chart_of w)
unfolding chart_of
chart_written w f = kept w (item_count w) f (count_is w f)

-- ---- a record that becomes handled
-- the number of items stays, and the record is handled
saved_count : (w : List ℕ) (j : ℕ) (x : Record) → j < capacity w → item_count (saved w j x) ≡ item_count w
unfolding item_count capacity
saved_count w j x h = ap₂ (λ a b. min a ((b - 2) / 4)) (saved_before w j x h 0 (omega arith)) (length_saved w j x h)

pub marked_count : (w : List ℕ) (j : ℕ) → j < item_count w → item_count (marked_at w j) ≡ item_count w
unfolding marked_at
marked_count w j l = saved_count w j (handled_now (record_at w j)) (item_inside w j l)

pub marked_handled : (w : List ℕ) (j : ℕ) → j < item_count w → is_handled (record_at (marked_at w j) j) ≡ true
unfolding marked_at
marked_handled w j l = ap is_handled (saved_same w j (handled_now (record_at w j)) (item_inside w j l) (compact_handled (record_compact w j)))

handle_in : (w : List ℕ) (n j : ℕ) → Fits w → n ≡ get_or w 0 0 → j < n
    → marked_at w j ≡ written w (record { mark = get_or w 1 0; records = set (records_at w n) j (handled_now (record_in (records_at w n) j)) })
unfolding marked_at
handle_in w n j f ne l =
    subst (λ (y : Record). marked_at w j ≡ written w (record { mark = get_or w 1 0; records = set (records_at w n) j (handled_now y) })) (sym (record_in_lem w n j l))
    (saved_written w n f ne j (handled_now (record_at w j)) l (compact_handled (record_compact w j)))

-- the step's first half: the record at j is handled
pub handle_written : (w : List ℕ) (j : ℕ) → Fits w → j < item_count w
    → marked_at w j ≡ written w (record { mark = (chart_of w).mark; records = set (chart_of w).records j (handled_now (record_in (chart_of w).records j)) })
unfolding chart_of
handle_written w j f l = handle_in w (item_count w) j f (count_is w f) l

-- ---- a chart that is written is read again
length_words : (x : Record) → length (words_of x) ≡ 4
unfolding words_of
length_words x = refl

length_all : (rs : List Record) → length (all_words rs) ≡ 4 * length rs
unfolding all_words
length_all [] = refl
length_all (x ∷ rs) = length-append (words_of x) (all_words rs) ∙ omega (arith, length_words x, length_all rs)

word_of_all : (rs : List Record) (t : List ℕ) (k i m : ℕ) → k < length rs → i < 4 → m ≡ 4 * k + i → get_or (all_words rs ++ t) m 0 ≡ get_or (words_of (record_in rs k)) i 0
unfolding all_words
word_of_all [] t k i m h l q = absurd (omega arith)
word_of_all (x ∷ rs) t zero i m h l q =
    let z : m ≡ i = omega arith in
    ap (λ (a : List ℕ). get_or a m 0) (append_assoc (words_of x) (all_words rs) t)
    ∙ get_or-append (words_of x) (all_words rs ++ t) 0 m (omega (arith, length_words x)) ∙ ap (λ a. get_or (words_of x) a 0) z
word_of_all (x ∷ rs) t (suc k) i m h l q =
    let z : m ≡ length (words_of x) + (4 * k + i) = omega (arith, length_words x) in
    ap (λ (a : List ℕ). get_or a m 0) (append_assoc (words_of x) (all_words rs) t)
    ∙ ap (λ a. get_or (words_of x ++ (all_words rs ++ t)) a 0) z
    ∙ get_or-append-add (words_of x) (all_words rs ++ t) (4 * k + i) 0
    ∙ word_of_all rs t k i (4 * k + i) (omega arith) l refl

-- each record can be read again
abbrev pub AllCompact : List Record → Type 0
AllCompact rs = (k : ℕ) → k < length rs → Compact (record_in rs k)

-- the words hold the chart
pub record Holds (w : List ℕ) (c : Chart) : Type 0 where
  pub header : 2 ≤ length w
  pub number : length c.records ≤ capacity w
  pub compact : AllCompact c.records

-- behind the records w stays
written_behind : (w : List ℕ) (c : Chart) (i : ℕ) → 2 + 4 * length c.records ≤ i → get_or (written w c) i 0 ≡ get_or w i 0
unfolding written
written_behind w c i h =
    let rs = c.records in
    let a = 2 + 4 * length rs in
    let z : i ≡ suc (suc (length (all_words rs) + (i - a))) = omega (arith, length_all rs) in
    let y : i ≡ a + (i - a) = omega arith in
    ap (λ m. get_or (written w c) m 0) z ∙ get_or-append-add (all_words rs) (drop a w) (i - a) 0 ∙ get_or-drop a w (i - a) 0 ∙ ap (λ m. get_or w m 0) (sym y)

module _ (w : List ℕ) (c : Chart) (o : Holds w c) where
  pub length_written : length (written w c) ≡ length w
  unfolding written
  length_written =
      let rs = c.records in
      let r : 2 + 4 * length rs ≤ length w = records_fit w (length rs) o.header o.number in
      omega (arith, length-append (all_words rs) (drop (2 + 4 * length rs) w), length_all rs, length-drop (2 + 4 * length rs) w)

  pub capacity_written : capacity (written w c) ≡ capacity w
  unfolding capacity
  capacity_written = ap (λ n. (n - 2) / 4) length_written

  written_first : get_or (written w c) 0 0 ≡ length c.records
  unfolding written
  written_first = refl

  written_second : get_or (written w c) 1 0 ≡ c.mark
  unfolding written
  written_second = refl

  written_word : (k : ℕ) → k < length c.records → (i : ℕ) → i < 4 → word_at (written w c) k i ≡ get_or (words_of (record_in c.records k)) i 0
  unfolding written word_at
  written_word k h i l =
      let z : 2 + 4 * k + i ≡ suc (suc (4 * k + i)) = omega arith in
      ap (λ m. get_or (written w c) m 0) z ∙ word_of_all c.records (drop (2 + 4 * length c.records) w) k i (4 * k + i) h l refl

  written_record : (k : ℕ) → k < length c.records → record_at (written w c) k ≡ record_in c.records k
  written_record k h = record_read (record_in c.records k) (o.compact k h) (written w c) k (written_word k h)

  pub fits_written : Fits (written w c)
  fits_written =
      let a = o.header in
      let b = o.number in
      record { header = omega (arith, length_written); number = omega (arith, capacity_written, written_first) }

  chart_by : (n : ℕ) → n ≡ length c.records → record { mark = get_or (written w c) 1 0; records = records_at (written w c) n } ≡ c
  chart_by n e =
      let p : records_at (written w c) n ≡ c.records = same_records (written w c) c.records n (sym e) (λ k l. written_record k (omega arith)) in
      λ i. record { mark = written_second i; records = p i }

  -- the chart is read again
  pub chart_of_written : chart_of (written w c) ≡ c
  unfolding chart_of
  chart_of_written = chart_by (item_count (written w c)) (count_is (written w c) fits_written ∙ written_first)

  -- where a chart with no fewer records is written over it, only that one is left
  pub written_over : (d : Chart) → length c.records ≤ length d.records → written (written w c) d ≡ written w d
  unfolding written
  written_over d l = ap (λ (r : List ℕ). length d.records ∷ d.mark ∷ (all_words d.records ++ r)) (same_behind (written w c) w (2 + 4 * length d.records) length_written behind)
    where
      behind : (i : ℕ) → 2 + 4 * length d.records ≤ i → get_or (written w c) i 0 ≡ get_or w i 0
      behind i h = written_behind w c i (omega arith)
