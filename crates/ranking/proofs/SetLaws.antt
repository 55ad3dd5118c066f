-- The set as a record comes, goes or stays as it was.
use Prim.Native.Nat.{ℕ, ◌+◌, ◌-◌, ◌*◌, ◌%◌, ◌≤◌, ◌<◌}
use mathlib.Core.Path.{◌≡◌, sym, ap, ◌∙◌, subst}
use mathlib.Core.Bool.{Bool, true, false}
use mathlib.Core.List.{List, []}
use native.Mathlib.Omega.{arith}
use native.Mathlib.Decide.{ℕ_discrete}
use lib.Dec.{eqb}
use lib.ListN.{length, get_or, set, take, length-set}
use lib.Seq.{get_or-set_same, get_or-set_other, drop-set-lt}
use borrow.Author.Tests.{eq-eqb, ne_eqb}
use Rattle.agenda.specs.declared.Record.{Record}
use Rattle.queues.specs.Queues.{holds, Levels, Inserted, Removed, Cleared}
use Rattle.agenda.specs.Consequences.{record_in}
use Rattle.agenda.specs.Steps.{handled_now}
use Rattle.ranking.specs.Ranking.{order_of, order_at, set_of, Based, Held, Whole, Ranked, Blank, Replaces}
use Rattle.ranking.proofs.Orders.{order_positive, order_past, order_some, handled_order}
use Rattle.queues.proofs.LevelLaws.{zero_levels}
use Rattle.ranking.proofs.Parts.{length_part, part_zeros, put, length_put, put_same, word_before}

-- ---- the same records, as far as they are ranked
pub ranked_same : (w : List ℕ) (rs rs' : List Record) → ((k : ℕ) → order_at rs' k ≡ order_at rs k) → Ranked w rs → Ranked w rs'
ranked_same w rs rs' e R = record {
  size = R.size;
  levels = R.levels;
  based = λ z j n. rw (e j) (R.based z j (λ q. n (e j ∙ q)));
  held = λ z p h. R.held z p h ∙ sym (ap (λ k. eqb k (4096 * get_or w 1 0 + p + 1)) (e (p % 4096)));
  whole = λ z j. rw (e j) (R.whole z j);
}

-- a order that was 0 and is 0
pub ranked_still : (w : List ℕ) (j : ℕ) (rs rs' : List Record) → Ranked w rs → order_at rs j ≡ 0 → Replaces j 0 rs rs' → Ranked w rs'
ranked_still w j rs rs' R z E = ranked_same w rs rs' (λ k. go k (ℕ_discrete k j)) R
  where
    go : (k : ℕ) → Dec (k ≡ j) → order_at rs' k ≡ order_at rs k
    go k (yes e) = rw e (E.given ∙ sym z)
    go k (no n) = E.others k n

-- words that say nothing
pub ranked_marked : (w : List ℕ) → length w ≡ 4231 → (rs : List Record) → Ranked (set w 0 2) rs
ranked_marked w e rs = record {
  size = length-set w 0 2 ∙ e;
  levels = λ z. absurd (omega (arith, marked));
  based = λ z. absurd (omega (arith, marked));
  held = λ z. absurd (omega (arith, marked));
  whole = λ z. absurd (omega (arith, marked));
}
  where
    marked : get_or (set w 0 2) 0 0 ≡ 2
    marked = get_or-set_same w 0 2 0 (omega arith)

-- words whose set may lack records
ranked_parted : (w : List ℕ) (rs : List Record) → length w ≡ 4231 → Levels (set_of w) → Based (get_or w 1 0) rs → Held (get_or w 1 0) (set_of w) rs → Ranked (set w 0 1) rs
ranked_parted w rs s a b c = record {
  size = length-set w 0 1 ∙ s;
  levels = λ z. rw same a;
  based = λ z. rw base b;
  held = λ z. rw (base, same) c;
  whole = λ z. absurd (omega (arith, get_or-set_same w 0 1 0 (omega arith)));
}
  where
    base : get_or (set w 0 1) 1 0 ≡ get_or w 1 0
    base = get_or-set_other w 0 1 1 0 (λ q. omega arith)

    same : set_of (set w 0 1) ≡ set_of w
    same = ap (take 4229) (drop-set-lt 2 w 0 1 (omega arith))

-- ---- the set is lent
module _ (w new : List ℕ) (s : length w ≡ 4231) (e : length new ≡ 4229) where
  pub put_size : length (put 2 4229 w new) ≡ 4231
  put_size = length_put 2 4229 w new (omega arith) e ∙ s

  ranked_put : (rs : List Record) → (get_or w 0 0 < 2 → Levels new) → (get_or w 0 0 < 2 → Based (get_or w 1 0) rs) → (get_or w 0 0 < 2 → Held (get_or w 1 0) new rs)
      → (get_or w 0 0 ≡ 0 → Whole (get_or w 1 0) rs) → Ranked (put 2 4229 w new) rs
  ranked_put rs a b c d =
      let stale = word_before 2 4229 w new (omega arith) e 0 (omega arith) in
      let base = word_before 2 4229 w new (omega arith) e 1 (omega arith) in
      let same = put_same 2 4229 w new (omega arith) e in
      record {
        size = put_size;
        levels = λ z. rw same (a (omega arith));
        based = λ z. rw base (b (omega arith));
        held = λ z. rw (base, same) (c (omega arith));
        whole = λ z. rw base (d (sym stale ∙ z));
      }

-- .. and comes back as it was
pub ranked_back : (w new : List ℕ) (rs : List Record) → Ranked w rs → new ≡ set_of w → Ranked (put 2 4229 w new) rs
ranked_back w new rs R e = ranked_put w new R.size (ap length e ∙ length_part 2 4229 w (omega (arith, R.size))) rs (λ z. rw e (R.levels z)) R.based (λ z. rw e (R.held z)) R.whole

-- ---- one record waits with a count, in rs' and not in rs
module _ (j n base : ℕ) (rs rs' : List Record) (none : order_at rs j ≡ 0) (some : order_at rs' j ≡ 4096 * n + j + 1) (others : (k : ℕ) → (k ≡ j → ⊥) → order_at rs' k ≡ order_at rs k) (h : j < 4096) where
  -- every other number tells the same
  other_number : (p : ℕ) → (4096 * base + p ≡ 4096 * n + j → ⊥) → eqb (order_at rs (p % 4096)) (4096 * base + p + 1) ≡ eqb (order_at rs' (p % 4096)) (4096 * base + p + 1)
  other_number p d = go (ℕ_discrete (p % 4096) j)
    where
      go : Dec (p % 4096 ≡ j) → eqb (order_at rs (p % 4096)) (4096 * base + p + 1) ≡ eqb (order_at rs' (p % 4096)) (4096 * base + p + 1)
      go (yes e) =
          ne_eqb (order_at rs (p % 4096)) (4096 * base + p + 1) (λ q. let z : order_at rs (p % 4096) ≡ 0 = ap (order_at rs) e ∙ none in omega arith)
          ∙ sym (ne_eqb (order_at rs' (p % 4096)) (4096 * base + p + 1) (λ q. d (let z : order_at rs' (p % 4096) ≡ 4096 * n + j + 1 = ap (order_at rs') e ∙ some in omega arith)))
      go (no e) = ap (λ k. eqb k (4096 * base + p + 1)) (sym (others (p % 4096) e))

  -- its own number tells that it waits
  own_number_is : (p : ℕ) → 4096 * base + p ≡ 4096 * n + j → eqb (order_at rs' (p % 4096)) (4096 * base + p + 1) ≡ true
  own_number_is p q = eq-eqb (order_at rs' (p % 4096)) (4096 * base + p + 1) (ap (order_at rs') (let e : p % 4096 ≡ j = omega arith in e) ∙ some ∙ omega arith)

  own_none : (p : ℕ) → 4096 * base + p ≡ 4096 * n + j → eqb (order_at rs (p % 4096)) (4096 * base + p + 1) ≡ false
  own_none p q = ne_eqb (order_at rs (p % 4096)) (4096 * base + p + 1) (λ t. let z : order_at rs (p % 4096) ≡ 0 = ap (order_at rs) (let e : p % 4096 ≡ j = omega arith in e) ∙ none in omega arith)

  based_more : base ≤ n → Based base rs → Based base rs'
  based_more l B k d = go (ℕ_discrete k j)
    where
      go : Dec (k ≡ j) → 4096 * base + k < order_at rs' k
      go (yes e) = rw e (omega arith)
      go (no e) = rw (others k e) (B k (λ q. d (others k e ∙ q)))

  based_less : Based base rs' → Based base rs
  based_less B k d = go (ℕ_discrete k j)
    where
      go : Dec (k ≡ j) → 4096 * base + k < order_at rs k
      go (yes e) = absurd (d (ap (order_at rs) e ∙ none))
      go (no e) = rw (← others k e) (B k (λ q. d (sym (others k e) ∙ q)))

  whole_more : n < base + 32 → Whole base rs → Whole base rs'
  whole_more l W k = go (ℕ_discrete k j)
    where
      go : Dec (k ≡ j) → order_at rs' k ≤ 4096 * base + 131072
      go (yes e) = rw e (omega arith)
      go (no e) = rw (others k e) (W k)

  whole_less : Whole base rs' → Whole base rs
  whole_less W k = go (ℕ_discrete k j)
    where
      go : Dec (k ≡ j) → order_at rs k ≤ 4096 * base + 131072
      go (yes e) = rw e (omega arith)
      go (no e) = rw (← others k e) (W k)

  -- a count that is not in the set
  held_far : (ws : List ℕ) → base + 32 ≤ n → Held base ws rs → Held base ws rs'
  held_far ws l H p b = H p b ∙ other_number p (λ q. omega arith)

  held_near : (ws : List ℕ) → base + 32 ≤ n → Held base ws rs' → Held base ws rs
  held_near ws l H p b = H p b ∙ sym (other_number p (λ q. omega arith))

  held_more : (ws new : List ℕ) (m : ℕ) → 4096 * base + m ≡ 4096 * n + j → Inserted ws m new → Held base ws rs → Held base new rs'
  held_more ws new m e I H p b = go (ℕ_discrete p m)
    where
      go : Dec (p ≡ m) → holds new p ≡ eqb (order_at rs' (p % 4096)) (4096 * base + p + 1)
      go (yes q) = ap (holds new) q ∙ I.self ∙ sym (own_number_is p (omega arith))
      go (no q) = I.others p b q ∙ H p b ∙ other_number p (λ t. q (omega arith))

  held_less : (ws new : List ℕ) (m : ℕ) → 4096 * base + m ≡ 4096 * n + j → Removed ws m new → Held base ws rs' → Held base new rs
  held_less ws new m e I H p b = go (ℕ_discrete p m)
    where
      go : Dec (p ≡ m) → holds new p ≡ eqb (order_at rs (p % 4096)) (4096 * base + p + 1)
      go (yes q) = ap (holds new) q ∙ I.self ∙ sym (own_none p (omega arith))
      go (no q) = I.others p b q ∙ H p b ∙ sym (other_number p (λ t. q (omega arith)))

-- ---- a record comes
module _ (w : List ℕ) (j n : ℕ) (h : j < 4096) (rs rs' : List Record) (R : Ranked w rs) (z : order_at rs j ≡ 0) (E : Replaces j (order_of true j n) rs rs') where
  come : order_at rs' j ≡ 4096 * n + j + 1
  come = E.given ∙ order_positive j n

  based_come : get_or w 1 0 ≤ n → get_or w 0 0 < 2 → Based (get_or w 1 0) rs'
  based_come l q = based_more j n (get_or w 1 0) rs rs' z come E.others h l (R.based q)

  held_come : get_or w 1 0 + 32 ≤ n → get_or w 0 0 < 2 → Held (get_or w 1 0) (set_of w) rs'
  held_come l q = held_far j n (get_or w 1 0) rs rs' z come E.others h (set_of w) l (R.held q)

  -- a count far above the base: the first that the set lacks, and one more
  pub inserted_first : get_or w 1 0 + 32 ≤ n → get_or w 0 0 ≡ 0 → Ranked (set w 0 1) rs'
  inserted_first l q = ranked_parted w rs' R.size (R.levels (omega arith)) (based_come (omega arith) (omega arith)) (held_come l (omega arith))

  pub inserted_far : get_or w 1 0 + 32 ≤ n → (get_or w 0 0 ≡ 0 → ⊥) → Ranked w rs'
  inserted_far l d = record { size = R.size; levels = R.levels; based = based_come (omega arith); held = held_come l; whole = λ q. absurd (d q) }

  pub inserted_set : (new : List ℕ) → get_or w 1 0 ≤ n → n < get_or w 1 0 + 32 → Inserted (set_of w) (4096 * (n - get_or w 1 0) + j) new → Ranked (put 2 4229 w new) rs'
  inserted_set new l m I =
      ranked_put w new R.size I.size rs' (λ q. I.levels (R.levels q)) (based_come l)
      (λ q. held_more j n (get_or w 1 0) rs rs' z come E.others h (set_of w) new (4096 * (n - get_or w 1 0) + j) (omega arith) I (R.held q))
      (λ q. whole_more j n (get_or w 1 0) rs rs' z come E.others h m (R.whole q))

-- ---- a record goes
module _ (w : List ℕ) (j n : ℕ) (h : j < 4096) (rs rs' : List Record) (R : Ranked w rs) (z : order_at rs j ≡ order_of true j n) (E : Replaces j 0 rs rs') where
  went : order_at rs j ≡ 4096 * n + j + 1
  went = z ∙ order_positive j n

  back : (k : ℕ) → (k ≡ j → ⊥) → order_at rs k ≡ order_at rs' k
  back k d = sym (E.others k d)

  based_gone : get_or w 0 0 < 2 → Based (get_or w 1 0) rs'
  based_gone q = based_less j n (get_or w 1 0) rs' rs E.given went back h (R.based q)

  whole_gone : get_or w 0 0 ≡ 0 → Whole (get_or w 1 0) rs'
  whole_gone q = whole_less j n (get_or w 1 0) rs' rs E.given went back h (R.whole q)

  -- no waiting record is below the base
  pub removed_none : n < get_or w 1 0 → Ranked w rs'
  removed_none l = record { size = R.size; levels = R.levels; based = based_gone; held = λ q. absurd (omega (arith, R.based q j (λ t. omega (arith, went)), went)); whole = whole_gone }

  pub removed_far : get_or w 1 0 + 32 ≤ n → Ranked w rs'
  removed_far l = record {
    size = R.size;
    levels = R.levels;
    based = based_gone;
    held = λ q. held_near j n (get_or w 1 0) rs' rs E.given went back h (set_of w) l (R.held q);
    whole = whole_gone;
  }

  pub removed_set : (new : List ℕ) → get_or w 1 0 ≤ n → Removed (set_of w) (4096 * (n - get_or w 1 0) + j) new → Ranked (put 2 4229 w new) rs'
  removed_set new l I =
      ranked_put w new R.size I.size rs' (λ q. I.levels (R.levels q)) based_gone
      (λ q. held_less j n (get_or w 1 0) rs' rs E.given went back h (set_of w) new (4096 * (n - get_or w 1 0) + j) (omega arith) I (R.held q)) whole_gone

-- ---- a record has another count: it goes, and comes
pub recounted : (j old n : ℕ) (rs rs' : List Record) (u v w : List ℕ) → ((xs ys : List Record) → Ranked u xs → order_at xs j ≡ order_of true j old → Replaces j 0 xs ys → Ranked v ys)
    → ((xs ys : List Record) → Ranked v xs → order_at xs j ≡ 0 → Replaces j (order_of true j n) xs ys → Ranked w ys)
    → Ranked u rs → order_at rs j ≡ order_of true j old → Replaces j (order_of true j n) rs rs' → Ranked w rs'
recounted j old n rs rs' u v w f g R z E =
    let gone = set rs j (handled_now (record_in rs j)) in
    let H = handled_order rs j (order_some rs j (λ q. omega (arith, z, order_positive j old))).0 in
    g gone rs' (f rs gone R z H) H.given (record { given = E.given; others = λ k d. E.others k d ∙ sym (H.others k d) })

-- ---- no records
ranked_empty : (w : List ℕ) → length w ≡ 4231 → Cleared (set_of w) → Ranked w []
ranked_empty w s C = record {
  size = s;
  levels = λ q. C.levels;
  based = λ q j d. absurd (d (order_past [] j (omega arith)));
  held = λ q p b. C.none p ∙ sym (ne_eqb (order_at [] (p % 4096)) (4096 * get_or w 1 0 + p + 1) (λ t. let z = order_past [] (p % 4096) (omega arith) in omega arith));
  whole = λ q j. omega (arith, order_past [] j (omega arith));
}

-- .. where the set was cleared
pub ranked_none : (w new : List ℕ) → length w ≡ 4231 → Cleared new → Ranked (put 2 4229 w new) []
ranked_none w new s C =
    ranked_empty (put 2 4229 w new) (length_put 2 4229 w new (omega arith) C.levels.size ∙ s) (subst Cleared (sym (put_same 2 4229 w new (omega arith) C.levels.size)) C)

-- .. where all is 0
pub ranked_blank : (w : List ℕ) → Blank w → Ranked w []
ranked_blank w B =
    let l = B.size in
    ranked_empty w B.size (zero_levels (set_of w) (length_part 2 4229 w (omega arith)) (λ n h. part_zeros 2 4229 w (omega arith) B.zeros n))

-- ---- a record that is placed waits or does not
pub placed_some : (t : Bool) (j n : ℕ) (rs rs' : List Record) → t ≡ true → Replaces j (order_of t j n) rs rs' → Replaces j (order_of true j n) rs rs'
placed_some t j n rs rs' h E = rw h at E

pub placed_none : (t : Bool) (j n : ℕ) (rs rs' : List Record) → t ≡ false → Replaces j (order_of t j n) rs rs' → Replaces j 0 rs rs'
unfolding order_of
placed_none t j n rs rs' h E = rw h at E

-- ---- the words are made anew
pub renewed_size : (w : List ℕ) (base : ℕ) → length w ≡ 4231 → length (set (set w 0 0) 1 base) ≡ 4231
renewed_size w base s = length-set (set w 0 0) 1 base ∙ length-set w 0 0 ∙ s
