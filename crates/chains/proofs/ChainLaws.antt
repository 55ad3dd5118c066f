-- What is found on a chain is what a search through all records finds, and how chains are kept as records come.
use Rattle.std.specs.Prelude.{Some, None}
use Prim.Native.Nat.{ℕ, zero, suc, ◌+◌, ◌-◌, ◌*◌, ◌/◌, ◌%◌, ◌^◌, ◌≤◌, ◌<◌}
use mathlib.Core.Path.{◌≡◌, refl, sym, ap, ap₂, ◌∙◌, subst}
use mathlib.Core.Logic.{◌≢◌}
use mathlib.Core.List.{List, [], ◌∷◌, ◌++◌}
use mathlib.Core.Bool.{Bool, true, false, ◌||◌, cond, true≢false}
use native.Mathlib.Omega.{arith}
use native.Mathlib.Decide.{dec_lt}
use native.Mathlib.Numerals.{add-one}
use lib.Bits.{bit_and, and_block, and_zero_r}
use lib.Dec.{eqb}
use lib.Pow.{pow-lt}
use lib.ListN.{length, length-append, get_or, set, length-set, get_or-append}
use lib.Seq.{get_or-set_same, get_or-set_other, get_or_at}
use borrow.Author.Tests.{eq-eqb, ne_eqb, eqb-true, eqb-false}
use Rattle.agenda.specs.declared.ChartItem.{ChartItem}
use Rattle.agenda.specs.declared.Record.{Record}
use Rattle.agenda.specs.Records.{same_chart_item}
use Rattle.agenda.specs.Consequences.{record_in, no_record}
use Rattle.agenda.specs.Steps.{last_same, improved, handled_now}
use Rattle.agenda.proofs.Records.{same_bare}
use Rattle.agenda.proofs.Adding.{cond_by}
use Rattle.records.specs.Words.{capacity, item_count, record_at, records_at, chart_of}
use Rattle.records.proofs.WordLaws.{length_records, record_in_lem, item_inside}
use Rattle.masks.specs.Masks.{bit, member, disjoint, ◌∪◌, single}
use Rattle.masks.proofs.Laws.{member_false, member_union, member_single, false_member, bit_single_self, disjoint_sum, disjoint_holds}
use Rattle.chains.specs.Chains.{mixed, hash_of, bucket_of, bit_of, last_in, bits_in, link_of, Chained, linked, Cleared}

-- ---- hashes
pub bucket_below : (x : ChartItem) → bucket_of x < 4096
unfolding bucket_of hash_of
bucket_below x = omega arith

-- the hash makes the bucket and the bit
bucket_by : (x y : ChartItem) → hash_of x ≡ hash_of y → bucket_of x ≡ bucket_of y
unfolding bucket_of
bucket_by x y e = ap (λ h. h / 1048576) e

bit_by : (x y : ChartItem) → hash_of x ≡ hash_of y → bit_of x ≡ bit_of y
unfolding bit_of
bit_by x y e = ap (λ h. h / 65536 % 16) e

-- records of the same item have one hash
same_hash : (x y : ChartItem) → same_chart_item x y ≡ true → hash_of x ≡ hash_of y
unfolding hash_of mixed
same_hash x y h = ap hash_of (same_bare x y h)

-- so has a record that is improved or handled
improved_hash : (y x : Record) → hash_of (improved y x).item ≡ hash_of y.item
unfolding hash_of mixed
improved_hash y x = refl

handled_hash : (y : Record) → hash_of (handled_now y).item ≡ hash_of y.item
unfolding hash_of mixed
handled_hash y = refl

other_hash : (x y : ChartItem) (t : Bool) → same_chart_item x y ≡ t → (hash_of x ≡ hash_of y → ⊥) → same_chart_item x y ≡ false
other_hash x y true e h = absurd (h (same_hash x y e))
other_hash x y false e h = e

other_bucket : (x y : ChartItem) → (bucket_of y ≡ bucket_of x → ⊥) → same_chart_item x y ≡ false
other_bucket x y h = other_hash x y (same_chart_item x y) refl (λ e. h (bucket_by y x (sym e)))

other_bit : (x y : ChartItem) → (bit_of y ≡ bit_of x → ⊥) → same_chart_item x y ≡ false
other_bit x y h = other_hash x y (same_chart_item x y) refl (λ e. h (bit_by y x (sym e)))

-- ---- the last record of a bucket
module _ (b : ℕ) (rs : List Record) where
  pub last_own : (n : ℕ) → bucket_of (record_in rs n).item ≡ b → last_in b rs (suc n) ≡ n + 1
  unfolding last_in
  last_own n e = rw (eq-eqb (bucket_of (record_in rs n).item) b e)

  pub last_other : (n : ℕ) → (bucket_of (record_in rs n).item ≡ b → ⊥) → last_in b rs (suc n) ≡ last_in b rs n
  unfolding last_in
  last_other n h = rw (ne_eqb (bucket_of (record_in rs n).item) b h)

  pub last_below : (n : ℕ) → last_in b rs n ≤ n
  unfolding last_in
  last_below zero = omega arith
  last_below (suc n) = cond_by (λ k. k ≤ suc n) (eqb (bucket_of (record_in rs n).item) b) (λ t. omega arith) (λ t. omega (arith, last_below n))

  -- it is of the bucket itself
  pub last_last : (n : ℕ) → last_in b rs (last_in b rs n) ≡ last_in b rs n
  unfolding last_in
  last_last zero = refl
  last_last (suc n) =
      cond_by (λ k. last_in b rs k ≡ k) (eqb (bucket_of (record_in rs n).item) b)
      (λ t. rw add-one (rw t (add-one n)))
      (λ t. last_last n)

  pub own_bucket : (i k : ℕ) → i ≡ k + 1 → i ≡ last_in b rs i → bucket_of (record_in rs k).item ≡ b
  own_bucket i k e h = go (eqb (bucket_of (record_in rs k).item) b) refl
    where
      go : (t : Bool) → eqb (bucket_of (record_in rs k).item) b ≡ t → bucket_of (record_in rs k).item ≡ b
      go true p = eqb-true _ _ p
      go false p =
          let q : last_in b rs i ≡ last_in b rs k = ap (last_in b rs) (e ∙ add-one k) ∙ last_other k (eqb-false _ _ p) in
          absurd (omega (arith, last_below k))

-- only the hashes of the first n records tell
last_cong : (b : ℕ) (rs ss : List Record) (n : ℕ) → ((k : ℕ) → k < n → hash_of (record_in rs k).item ≡ hash_of (record_in ss k).item) → last_in b rs n ≡ last_in b ss n
unfolding last_in
last_cong b rs ss zero h = refl
last_cong b rs ss (suc n) h =
    ap₂ (λ (i m : ℕ). cond (eqb i b) (n + 1) m) (bucket_by (record_in rs n).item (record_in ss n).item (h n (omega arith))) (last_cong b rs ss n (λ k l. h k (omega arith)))

-- ---- the set of the bits of a bucket
module _ (b : ℕ) (rs : List Record) where
  bits_own : (n : ℕ) → bucket_of (record_in rs n).item ≡ b → bits_in b rs (suc n) ≡ bits_in b rs n ∪ single (bit_of (record_in rs n).item)
  unfolding bits_in
  bits_own n e = rw (eq-eqb (bucket_of (record_in rs n).item) b e)

  bits_other : (n : ℕ) → (bucket_of (record_in rs n).item ≡ b → ⊥) → bits_in b rs (suc n) ≡ bits_in b rs n
  unfolding bits_in
  bits_other n h = rw (ne_eqb (bucket_of (record_in rs n).item) b h)

  -- it is the one of the last record of the bucket and those before
  bits_last : (n : ℕ) → bits_in b rs (last_in b rs n) ≡ bits_in b rs n
  unfolding last_in
  bits_last zero = refl
  bits_last (suc n) =
      cond_by (λ k. bits_in b rs k ≡ bits_in b rs (suc n)) (eqb (bucket_of (record_in rs n).item) b)
      (λ t. ap (bits_in b rs) (add-one n))
      (λ t. bits_last n ∙ sym (bits_other n (eqb-false _ _ t)))

bits_cong : (b : ℕ) (rs ss : List Record) (n : ℕ) → ((k : ℕ) → k < n → hash_of (record_in rs k).item ≡ hash_of (record_in ss k).item) → bits_in b rs n ≡ bits_in b ss n
unfolding bits_in
bits_cong b rs ss zero h = refl
bits_cong b rs ss (suc n) h =
    let t = ap (λ i. eqb i b) (bucket_by (record_in rs n).item (record_in ss n).item (h n (omega arith))) in
    let m = bits_cong b rs ss n (λ k l. h k (omega arith)) in
    let e = bit_by (record_in rs n).item (record_in ss n).item (h n (omega arith)) in
    cc

-- ---- the word that leads to a record
module _ (b : ℕ) (rs : List Record) where
  link_place : (n : ℕ) → n < 8192 → link_of b rs n % 8192 ≡ last_in b rs n
  unfolding link_of
  link_place n h = omega (arith, last_below b rs n)

  link_bits : (n : ℕ) → n < 8192 → link_of b rs n / 8192 ≡ bits_in b rs n
  unfolding link_of
  link_bits n h = omega (arith, last_below b rs n)

  link_last : (n : ℕ) → link_of b rs (last_in b rs n) ≡ link_of b rs n
  unfolding link_of
  link_last n = ap₂ (λ (i m : ℕ). i + 8192 * m) (last_last b rs n) (bits_last b rs n)

  link_own : (n : ℕ) → n < 8192 → bucket_of (record_in rs n).item ≡ b → link_of b rs (suc n) ≡ n + 1 + 8192 * (link_of b rs n / 8192 ∪ single (bit_of (record_in rs n).item))
  unfolding link_of
  link_own n l e =
      ap₂ (λ (i m : ℕ). i + 8192 * m) (last_own b rs n e) (bits_own b rs n e ∙ ap (λ m. m ∪ single (bit_of (record_in rs n).item)) (sym (link_bits n l)))

  link_other : (n : ℕ) → (bucket_of (record_in rs n).item ≡ b → ⊥) → link_of b rs (suc n) ≡ link_of b rs n
  unfolding link_of
  link_other n h = ap₂ (λ (i m : ℕ). i + 8192 * m) (last_other b rs n h) (bits_other b rs n h)

link_cong : (b : ℕ) (rs ss : List Record) (n : ℕ) → ((k : ℕ) → k < n → hash_of (record_in rs k).item ≡ hash_of (record_in ss k).item) → link_of b rs n ≡ link_of b ss n
unfolding link_of
link_cong b rs ss n h = ap₂ (λ (i m : ℕ). i + 8192 * m) (last_cong b rs ss n h) (bits_cong b rs ss n h)

-- ---- a word against one bit above the place
module _ (i e m : ℕ) (l : e < 16) (q : m ≡ 8192 * 2 ^ e % 2 ^ 64) where
  tested : bit_and i m ≡ bit_and (i / 8192) (single e) * 8192
  unfolding single
  tested =
      let s : m ≡ 2 ^ e * 2 ^ 13 + 0 = omega (arith, pow-lt l) in
      let r : i ≡ i / 8192 * 2 ^ 13 + i % 8192 = omega arith in
      ap₂ bit_and r s ∙ and_block 13 (i / 8192) (2 ^ e) (i % 8192) 0 (omega arith) (omega arith)
      ∙ omega (arith, and_zero_r (i % 8192))

  pub bit_none : bit_and i m ≡ 0 → bit (i / 8192) e ≡ 0
  unfolding disjoint
  bit_none h =
      let z : bit_and (i / 8192) (single e) ≡ 0 = omega (arith, tested) in
      let d = disjoint_sum (i / 8192) (single e) (disjoint_holds (i / 8192) (single e) (rw z tt)) e in
      omega (arith, bit_single_self e)

-- a word that has a bit is not 0
pub bit_some : (i m : ℕ) → (bit_and i m ≡ 0 → ⊥) → i ≡ 0 → ⊥
bit_some i m h z = h (ap (λ k. bit_and k m) z)

-- a number that is not in a set with one member more
not_added : (m g e : ℕ) → bit (m ∪ single g) e ≡ 0 → (bit m e ≡ 0) × (g ≡ e → ⊥)
not_added m g e h =
    go (member m e) (eqb e g) refl refl (ap (λ t. member m e || t) (sym (member_single g e)) ∙ sym (member_union m (single g) e) ∙ false_member _ e h)
  where
    go : (s t : Bool) → member m e ≡ s → eqb e g ≡ t → (s || t) ≡ false → (bit m e ≡ 0) × (g ≡ e → ⊥)
    go true t p q r = absurd (true≢false r)
    go false true p q r = absurd (true≢false r)
    go false false p q r = (member_false m e p, λ z. eqb-false _ _ q (sym z))

-- ---- the search
module _ (x : ChartItem) (rs : List Record) where
  search_turn : (n : ℕ) (t : Bool) → same_chart_item x (record_in rs n).item ≡ t → last_same x rs (suc n) ≡ cond t (Some n) (last_same x rs n)
  unfolding last_same
  search_turn n t e = rw e

  -- the records of other buckets are passed over
  pub same_on_chain : (n : ℕ) → last_same x rs (last_in (bucket_of x) rs n) ≡ last_same x rs n
  unfolding last_in
  same_on_chain zero = refl
  same_on_chain (suc n) =
      cond_by (λ k. last_same x rs k ≡ last_same x rs (suc n)) (eqb (bucket_of (record_in rs n).item) (bucket_of x))
      (λ t. ap (last_same x rs) (add-one n))
      (λ t. same_on_chain n ∙ sym (search_turn n false (other_bucket x (record_in rs n).item (eqb-false _ _ t))))

  -- where the bit of x is missing no record is of its item
  none_on_chain : (n : ℕ) → bit (bits_in (bucket_of x) rs n) (bit_of x) ≡ 0 → last_same x rs n ≡ None
  unfolding last_same
  none_on_chain zero h = refl
  none_on_chain (suc n) h = go (none_on_chain n) (eqb (bucket_of (record_in rs n).item) (bucket_of x)) refl
    where
      go : (bit (bits_in (bucket_of x) rs n) (bit_of x) ≡ 0 → last_same x rs n ≡ None) → (t : Bool) → eqb (bucket_of (record_in rs n).item) (bucket_of x) ≡ t → last_same x rs (suc n) ≡ None
      go back true p =
          let d = not_added (bits_in (bucket_of x) rs n) (bit_of (record_in rs n).item) (bit_of x) (ap (λ m. bit m (bit_of x)) (sym (bits_own (bucket_of x) rs n (eqb-true _ _ p))) ∙ h) in
          search_turn n false (other_bit x (record_in rs n).item d.1) ∙ back d.0
      go back false p =
          let d = eqb-false _ _ p in
          search_turn n false (other_bucket x (record_in rs n).item d) ∙ back (ap (λ m. bit m (bit_of x)) (sym (bits_other (bucket_of x) rs n d)) ∙ h)

-- n is 0 or the place + 1 of a record on the chain of x, and what is found from there on is what is found at all
pub record OnChain (x : ChartItem) (rs : List Record) (n : ℕ) : Type 0 where
  pub low : n ≤ length rs
  pub own : n ≡ last_in (bucket_of x) rs n
  pub found : last_same x rs n ≡ last_same x rs (length rs)

-- .. and i is the word that leads there
pub record Leads (x : ChartItem) (rs : List Record) (i : ℕ) : Type 0 where
  pub at : OnChain x rs (i % 8192)
  pub word : i ≡ link_of (bucket_of x) rs (i % 8192)

-- from what is found of the first n
leads : (x : ChartItem) (rs : List Record) (n i : ℕ) → length rs ≤ 4096 → n ≤ length rs → last_same x rs n ≡ last_same x rs (length rs) → i ≡ link_of (bucket_of x) rs n → Leads x rs i
leads x rs n i f h e p =
    let q : i % 8192 ≡ last_in (bucket_of x) rs n = ap (λ k. k % 8192) p ∙ link_place (bucket_of x) rs n (omega arith) in
    record {
      at = subst (OnChain x rs) (sym q) (record {
        low = omega (arith, last_below (bucket_of x) rs n);
        own = sym (last_last (bucket_of x) rs n);
        found = same_on_chain x rs n ∙ e;
      });
      word = p ∙ sym (link_last (bucket_of x) rs n) ∙ ap (link_of (bucket_of x) rs) (sym q);
    }

pub chain_start : (x : ChartItem) (rs : List Record) (links : List ℕ) → Chained links rs → (h i : ℕ) → h ≡ hash_of x → i ≡ get_or links (h / 1048576) 0 → Leads x rs i
unfolding bucket_of
chain_start x rs links c h i e p =
    leads x rs (length rs) i c.few (omega arith) refl (p ∙ ap (λ k. get_or links (k / 1048576) 0) e ∙ c.last (bucket_of x) (bucket_below x))

module _ (x : ChartItem) (rs : List Record) (i : ℕ) (o : Leads x rs i) (n : i ≡ 0 → ⊥) where
  pub chain_some : i % 8192 ≡ 0 → ⊥
  unfolding link_of last_in bits_in
  chain_some e = n (o.word ∙ ap (link_of (bucket_of x) rs) e)

  place : i % 8192 ≡ i % 8192 - 1 + 1
  place = omega (arith, chain_some)

  turn : (t : Bool) → same_chart_item x (record_in rs (i % 8192 - 1)).item ≡ t → last_same x rs (i % 8192) ≡ cond t (Some (i % 8192 - 1)) (last_same x rs (i % 8192 - 1))
  turn t e = ap (last_same x rs) (place ∙ add-one (i % 8192 - 1)) ∙ search_turn x rs (i % 8192 - 1) t e

  pub chain_hit : same_chart_item x (record_in rs (i % 8192 - 1)).item ≡ true → Some (i % 8192 - 1) ≡ last_same x rs (length rs)
  chain_hit e = sym (turn true e) ∙ o.at.found

  module _ (links : List ℕ) (c : Chained links rs) (e : same_chart_item x (record_in rs (i % 8192 - 1)).item ≡ false) (m : ℕ) (p : m ≡ get_or links (4095 + i % 8192) 0) where
    back : m ≡ link_of (bucket_of x) rs (i % 8192 - 1)
    back =
        let q : 4095 + i % 8192 ≡ 4096 + (i % 8192 - 1) = omega (arith, place) in
        let l = o.at.low in
        p ∙ ap (λ k. get_or links k 0) q ∙ c.previous (i % 8192 - 1) (omega (arith, place))
        ∙ ap (λ b. link_of b rs (i % 8192 - 1)) (own_bucket (bucket_of x) rs (i % 8192) (i % 8192 - 1) place o.at.own)

    pub chain_next : Leads x rs m
    chain_next = let l = o.at.low in leads x rs (i % 8192 - 1) m c.few (omega arith) (sym (turn false e) ∙ o.at.found) back

    pub chain_less : m % 8192 < i % 8192
    chain_less =
        let l = o.at.low in
        let f = c.few in
        let b = last_below (bucket_of x) rs (i % 8192 - 1) in
        omega (arith, place, ap (λ k. k % 8192) back, link_place (bucket_of x) rs (i % 8192 - 1) (omega arith))

-- the set has not the bit of x, so none of its item is left
pub chain_end : (x : ChartItem) (rs : List Record) (i h : ℕ) → Leads x rs i → h ≡ hash_of x → bit (i / 8192) (h / 65536 % 16) ≡ 0 → None ≡ last_same x rs (length rs)
unfolding bit_of
chain_end x rs i h o e z =
    let q : i / 8192 ≡ bits_in (bucket_of x) rs (i % 8192) = ap (λ k. k / 8192) o.word ∙ link_bits (bucket_of x) rs (i % 8192) (omega arith) in
    sym (none_on_chain x rs (i % 8192) (ap₂ bit (sym q) (ap (λ k. k / 65536 % 16) (sym e)) ∙ z)) ∙ o.at.found

-- the records of words
pub counted : (w : List ℕ) → length (chart_of w).records ≡ item_count w
unfolding chart_of
counted w = length_records w (item_count w)

-- a place on a chain lies inside the words
pub inside : (w : List ℕ) (i : ℕ) → i ≤ length (chart_of w).records → (i ≡ 0 → ⊥) → i - 1 < capacity w
inside w i l h = item_inside w (i - 1) (omega (arith, counted w))

pub same_in : (x : ChartItem) (w : List ℕ) (k : ℕ) (t u : Bool) → k < length (chart_of w).records → t ≡ same_chart_item x (record_at w k).item → t ≡ u → same_chart_item x (record_in (chart_of w).records k).item ≡ u
unfolding chart_of
same_in x w k t u h e y = ap (λ (y : Record). same_chart_item x y.item) (record_in_lem w (item_count w) k (omega (arith, counted w))) ∙ sym e ∙ y

-- what `find` finds is what `records::find` finds among all items of the words
pub same_found : (x : ChartItem) (w : List ℕ) → last_same x (chart_of w).records (length (chart_of w).records) ≡ last_same x (records_at w (item_count w)) (item_count w)
unfolding chart_of
same_found x w = ap (last_same x (records_at w (item_count w))) (length_records w (item_count w))

-- ---- chains that are kept
-- where the hashes stay
chained_kept : (links : List ℕ) (rs ss : List Record) → Chained links rs → length rs ≡ length ss → ((k : ℕ) → k < length rs → hash_of (record_in rs k).item ≡ hash_of (record_in ss k).item) → Chained links ss
chained_kept links rs ss c e h = record {
  words = c.words;
  few = let l = c.few in omega arith;
  last = λ b l. c.last b l ∙ link_cong b rs ss (length rs) h ∙ ap (link_of b ss) e;
  previous = λ j l.
      c.previous j (omega arith)
      ∙ ap (λ b. link_of b rs j) (bucket_by (record_in rs j).item (record_in ss j).item (h j (omega arith)))
      ∙ link_cong (bucket_of (record_in ss j).item) rs ss j (λ k m. h k (omega arith));
}

-- where a record is replaced by one of its hash
chained_set : (links : List ℕ) (rs : List Record) (j : ℕ) (y : Record) → Chained links rs → hash_of y.item ≡ hash_of (record_in rs j).item → Chained links (set rs j y)
chained_set links rs j y c e = chained_kept links rs (set rs j y) c (sym (length-set rs j y)) (λ k l. go k l (dec_lt k j) (dec_lt j k))
  where
    else : (k : ℕ) → k ≢ j → hash_of (record_in rs k).item ≡ hash_of (record_in (set rs j y) k).item
    else k d = ap (λ (z : Record). hash_of z.item) (sym (get_or-set_other rs j k y no_record d))

    go : (k : ℕ) → k < length rs → Dec (k < j) → Dec (j < k) → hash_of (record_in rs k).item ≡ hash_of (record_in (set rs j y) k).item
    go k l (yes d) q = else k (λ z. omega arith)
    go k l (no d) (yes q) = else k (λ z. omega arith)
    go k l (no d) (no q) =
        let z : k ≡ j = omega arith in
        let b : j < length rs = omega arith in
        ap (λ i. hash_of (record_in rs i).item) z ∙ sym e ∙ ap (λ (z : Record). hash_of z.item) (sym (get_or-set_same rs j y no_record b)) ∙ ap (λ i. hash_of (record_in (set rs j y) i).item) (sym z)

pub chained_improved : (links : List ℕ) (rs : List Record) (j : ℕ) (x : Record) → Chained links rs → Chained links (set rs j (improved (record_in rs j) x))
chained_improved links rs j x c = chained_set links rs j (improved (record_in rs j) x) c (improved_hash (record_in rs j) x)

pub chained_handled : (links : List ℕ) (rs : List Record) (j : ℕ) → Chained links rs → Chained links (set rs j (handled_now (record_in rs j)))
chained_handled links rs j c = chained_set links rs j (handled_now (record_in rs j)) c (handled_hash (record_in rs j))

-- ---- one record more
module _ (rs : List Record) (x : Record) where
  in_front : (k : ℕ) → k < length rs → record_in rs k ≡ record_in (rs ++ (x ∷ [])) k
  in_front k l = sym (get_or-append rs (x ∷ []) no_record k l)

  at_end : record_in (rs ++ (x ∷ [])) (length rs) ≡ x
  at_end = get_or_at rs x [] no_record (length rs) refl

  longer : length (rs ++ (x ∷ [])) ≡ suc (length rs)
  longer = length-append rs (x ∷ []) ∙ add-one (length rs)

  same_word : (b n : ℕ) → n ≤ length rs → link_of b rs n ≡ link_of b (rs ++ (x ∷ [])) n
  same_word b n h = link_cong b rs (rs ++ (x ∷ [])) n (λ k l. ap (λ (z : Record). hash_of z.item) (in_front k (omega arith)))

-- two words that are set, one after the other
module _ (l : List ℕ) (i a j d : ℕ) where
  length_twice : length (set (set l i a) j d) ≡ length l
  length_twice = length-set (set l i a) j d ∙ length-set l i a

  twice_second : j < length l → get_or (set (set l i a) j d) j 0 ≡ d
  twice_second h = get_or-set_same (set l i a) j d 0 (omega (arith, length-set l i a))

  twice_first : i ≢ j → i < length l → get_or (set (set l i a) j d) i 0 ≡ a
  twice_first n h = get_or-set_other (set l i a) j i d 0 n ∙ get_or-set_same l i a 0 h

  twice_other : (k : ℕ) → k ≢ i → k ≢ j → get_or (set (set l i a) j d) k 0 ≡ get_or l k 0
  twice_other k m n = get_or-set_other (set l i a) j k d 0 n ∙ get_or-set_other l i k a 0 m

module _ (links : List ℕ) (rs : List Record) (x : Record) (h : ℕ) (c : Chained links rs) (e : h ≡ hash_of x.item) (few : length rs < 4096) where
  small : h / 1048576 < 4096
  unfolding bucket_of
  small = omega (arith, e, bucket_below x.item)

  own : bucket_of (record_in (rs ++ (x ∷ [])) (length rs)).item ≡ h / 1048576
  unfolding bucket_of
  own = ap (λ (z : Record). bucket_of z.item) (at_end rs x) ∙ ap (λ k. k / 1048576) (sym e)

  own_link : length rs + 1 + 8192 * (get_or links (h / 1048576) 0 / 8192 ∪ single (h / 65536 % 16)) ≡ link_of (h / 1048576) (rs ++ (x ∷ [])) (suc (length rs))
  unfolding bit_of
  own_link =
      ap₂ (λ (k m : ℕ). length rs + 1 + 8192 * (k / 8192 ∪ single (m / 65536 % 16)))
      (c.last (h / 1048576) small ∙ same_word rs x (h / 1048576) (length rs) (omega arith))
      (e ∙ ap (λ (z : Record). hash_of z.item) (sym (at_end rs x)))
      ∙ sym (link_own (h / 1048576) (rs ++ (x ∷ [])) (length rs) (omega arith) own)

  wide : length links ≡ 8192
  wide = c.words

  own_word : get_or (linked links (length rs) h) (h / 1048576) 0 ≡ length rs + 1 + 8192 * (get_or links (h / 1048576) 0 / 8192 ∪ single (h / 65536 % 16))
  unfolding linked
  own_word = twice_second links (4096 + length rs) _ (h / 1048576) _ (omega (arith, wide, small))

  new_word : get_or (linked links (length rs) h) (4096 + length rs) 0 ≡ get_or links (h / 1048576) 0
  unfolding linked
  new_word = twice_first links (4096 + length rs) _ (h / 1048576) _ (λ z. omega (arith, small)) (omega (arith, wide))

  other_word : (k : ℕ) → k ≢ 4096 + length rs → k ≢ h / 1048576 → get_or (linked links (length rs) h) k 0 ≡ get_or links k 0
  unfolding linked
  other_word k p q = twice_other links (4096 + length rs) _ (h / 1048576) _ k p q

  last_more : (d : ℕ) → d < 4096 → get_or (linked links (length rs) h) d 0 ≡ link_of d (rs ++ (x ∷ [])) (suc (length rs))
  last_more d l = go (eqb (h / 1048576) d) refl
    where
      go : (t : Bool) → eqb (h / 1048576) d ≡ t → get_or (linked links (length rs) h) d 0 ≡ link_of d (rs ++ (x ∷ [])) (suc (length rs))
      go true p =
          let q : h / 1048576 ≡ d = eqb-true _ _ p in
          ap (λ k. get_or (linked links (length rs) h) k 0) (sym q) ∙ own_word ∙ own_link
          ∙ ap (λ k. link_of k (rs ++ (x ∷ [])) (suc (length rs))) q
      go false p =
          let q : h / 1048576 ≡ d → ⊥ = eqb-false _ _ p in
          other_word d (λ z. omega arith) (λ z. q (sym z)) ∙ c.last d l ∙ same_word rs x d (length rs) (omega arith)
          ∙ sym (link_other d (rs ++ (x ∷ [])) (length rs) (λ z. q (sym own ∙ z)))

  previous_more : (j : ℕ) → j ≤ length rs → get_or (linked links (length rs) h) (4096 + j) 0 ≡ link_of (bucket_of (record_in (rs ++ (x ∷ [])) j).item) (rs ++ (x ∷ [])) j
  previous_more j l = go (dec_lt j (length rs))
    where
      go : Dec (j < length rs) → get_or (linked links (length rs) h) (4096 + j) 0 ≡ link_of (bucket_of (record_in (rs ++ (x ∷ [])) j).item) (rs ++ (x ∷ [])) j
      go (yes d) =
          other_word (4096 + j) (λ z. omega arith) (λ z. omega (arith, small)) ∙ c.previous j d
          ∙ ap (λ (y : Record). link_of (bucket_of y.item) rs j) (in_front rs x j d) ∙ same_word rs x _ j l
      go (no d) =
          let z : j ≡ length rs = omega arith in
          ap (λ k. get_or (linked links (length rs) h) (4096 + k) 0) z ∙ new_word ∙ c.last (h / 1048576) small
          ∙ same_word rs x (h / 1048576) (length rs) (omega arith)
          ∙ ap (λ d. link_of d (rs ++ (x ∷ [])) (length rs)) (sym own)
          ∙ ap (λ k. link_of (bucket_of (record_in (rs ++ (x ∷ [])) k).item) (rs ++ (x ∷ [])) k) (sym z)

  length_linked : length (linked links (length rs) h) ≡ 8192
  unfolding linked
  length_linked = length_twice links (4096 + length rs) _ (h / 1048576) _ ∙ wide

  -- record x, the last one, joins its bucket
  pub chained_more : Chained (linked links (length rs) h) (rs ++ (x ∷ []))
  chained_more = record {
    words = length_linked;
    few = omega (arith, longer rs x);
    last = λ d l. last_more d l ∙ ap (link_of d (rs ++ (x ∷ []))) (sym (longer rs x));
    previous = λ j l. previous_more j (omega (arith, longer rs x));
  }

-- ---- chains made anew
pub chained_none : (links : List ℕ) → Cleared links → Chained links []
unfolding link_of last_in bits_in
chained_none links c = record {
  words = c.words;
  few = omega arith;
  last = λ b l. c.empty b l;
  previous = λ j l. absurd (omega arith);
}

-- the first records of words, one more of them
pub chained_next : (w links next : List ℕ) (n j h : ℕ) (x : ChartItem) → Chained links (records_at w j) → n ≡ item_count w → j < n → n ≤ 4096 → x ≡ (record_at w j).item
    → h ≡ hash_of x → next ≡ linked links j h → Chained next (records_at w (j + 1))
unfolding records_at
chained_next w links next n j h x c i f few e p q =
    let l : length (records_at w j) ≡ j = length_records w j in
    let z : next ≡ linked links (length (records_at w j)) h = q ∙ ap (λ k. linked links k h) (sym l) in
    rw add-one (subst (λ (m : List ℕ). Chained m (records_at w j ++ (record_at w j ∷ []))) (sym z)
    (chained_more links (records_at w j) (record_at w j) h c (p ∙ ap hash_of e) (omega arith)))

pub chained_all : (w links : List ℕ) (n j : ℕ) → n ≡ item_count w → j ≤ n → n ≤ j → Chained links (records_at w j) → Chained links (chart_of w).records
unfolding chart_of
chained_all w links n j e h l c = subst (λ k. Chained links (records_at w k)) (let q : j ≡ item_count w = omega arith in q) c

pub chained_first : (w links : List ℕ) → Cleared links → Chained links (records_at w 0)
unfolding records_at
chained_first w links c = chained_none links c
