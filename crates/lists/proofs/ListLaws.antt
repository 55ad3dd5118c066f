-- The first entry of a key at or after a place, and how lists are kept as entries come.
use Prim.Native.Nat.{ℕ, zero, suc, ◌+◌, ◌-◌, ◌≤◌, ◌<◌}
use mathlib.Core.Path.{◌≡◌, refl, sym, ap, ◌∙◌, subst}
use mathlib.Core.Logic.{◌≢◌}
use mathlib.Core.List.{List, [], ◌∷◌, ◌++◌, append_assoc, append-nil}
use mathlib.Core.Bool.{Bool, true, false, cond, ◌&&◌}
use native.Mathlib.Omega.{arith}
use native.Mathlib.Decide.{dec_lt, ℕ_discrete}
use lib.Dec.{eqb, leb}
use native.Mathlib.Nat.{add_assoc}
use native.Mathlib.Numerals.{add-one}
use Rattle.std.proofs.lemmas.List.{drop_all}
use lib.ListN.{length, drop, length-append, get_or, set, length-set, replicate, length-replicate, get_or-replicate, get_or-append}
use lib.Seq.{drop-cons, get_or-set_same, get_or-set_other, get_or_at, ext_get_or}
use borrow.Author.Tests.{eq-eqb, ne_eqb, le-leb, eqb-true, leb-true}
use Rattle.lists.specs.Lists.{list_words, first_to, first_from, IsLast, Listed, Unlisted, Linkable, tail_of, appended, entered, Ready, entered_all, Within}
use Rattle.lists.specs.Cursors.{alone}

-- ---- tests
cond_by : {A : Type 0} (P : A → Type 0) (t : Bool) {x y : A} → (t ≡ true → P x) → (t ≡ false → P y) → P (cond t x y)
cond_by P true f g = f refl
cond_by P false f g = g refl

apart : {t : Bool} → t ≡ true → t ≡ false → ⊥
apart p q = let z : ◌≡◌ {A = ℕ} 0 1 = cc in omega arith

both : (s t : Bool) → s && t ≡ true → (s ≡ true) × (t ≡ true)
both true true e = (refl, refl)
both true false e = absurd (apart e refl)
both false t e = absurd (apart e refl)

-- ---- the first entry
-- r is the place + 1 of the first entry at or after e, of the first n, whose key is b; 0 for none
pub record IsFirst (b : ℕ) (keys : List ℕ) (e n r : ℕ) : Type 0 where
  pub low : r ≤ n
  pub own : 0 < r → (e < r) × (get_or keys (r - 1) 0 ≡ b)
  pub least : (i : ℕ) → e ≤ i → i < n → get_or keys i 0 ≡ b → (0 < r) × (r ≤ i + 1)

module _ (b : ℕ) (keys : List ℕ) (e : ℕ) where
  module _ (n k : ℕ) (p : IsFirst b keys e n k) where
    hit : eqb k 0 && (leb e n && eqb (get_or keys n 0) b) ≡ true → IsFirst b keys e (suc n) (n + 1)
    hit t =
        let s = both _ _ t in
        let u = both _ _ s.1 in
        let z : k ≡ 0 = eqb-true _ _ s.0 in
        let l : e ≤ n = leb-true _ _ u.0 in
        let q : n + 1 - 1 ≡ n = omega arith in
        record {
          low = omega arith;
          own = λ o. (omega arith, ap (λ i. get_or keys i 0) q ∙ eqb-true _ _ u.1);
          least = λ i a d h. (omega arith, here z i a d h (dec_lt i n));
        }
      where
        here : k ≡ 0 → (i : ℕ) → e ≤ i → i < suc n → get_or keys i 0 ≡ b → Dec (i < n) → n + 1 ≤ i + 1
        here z i a d h (yes m) = let o = p.least i a m h in absurd (omega (arith, o.0))
        here z i a d h (no m) = omega arith

    miss : eqb k 0 && (leb e n && eqb (get_or keys n 0) b) ≡ false → IsFirst b keys e (suc n) k
    miss t = record { low = omega (arith, p.low); own = p.own; least = λ i a d h. there i a d h (dec_lt i n) (dec_lt 0 k) }
      where
        there : (i : ℕ) → e ≤ i → i < suc n → get_or keys i 0 ≡ b → Dec (i < n) → Dec (0 < k) → (0 < k) × (k ≤ i + 1)
        there i a d h (yes m) y = p.least i a m h
        there i a d h (no m) (yes y) = (y, omega (arith, p.low))
        there i a d h (no m) (no y) =
            let q : i ≡ n = omega arith in
            let z : k ≡ 0 = omega arith in
            let l : e ≤ n = omega arith in
            let o : get_or keys n 0 ≡ b = ap (λ j. get_or keys j 0) (sym q) ∙ h in
            let s : eqb k 0 && (leb e n && eqb (get_or keys n 0) b) ≡ true = simp (eq-eqb k 0 z, le-leb e n l, eq-eqb _ _ o) in
            absurd (apart s t)

  pub first_to_is : (n : ℕ) → IsFirst b keys e n (first_to b keys e n)
  unfolding first_to
  first_to_is zero = record { low = omega arith; own = λ p. absurd (omega arith); least = λ i p q h. absurd (omega arith) }
  first_to_is (suc n) =
      let k = first_to b keys e n in
      let p = first_to_is n in
      cond_by (IsFirst b keys e (suc n)) (eqb k 0 && (leb e n && eqb (get_or keys n 0) b)) (hit n k p) (miss n k p)

-- there is one such r
pub first_only : (b : ℕ) (keys : List ℕ) (e n r s : ℕ) → IsFirst b keys e n r → IsFirst b keys e n s → r ≡ s
first_only b keys e n r s p q = go (dec_lt 0 r) (dec_lt 0 s)
  where
    before : (r s : ℕ) → IsFirst b keys e n r → IsFirst b keys e n s → 0 < s → (0 < r) × (r ≤ s)
    before r s p q h =
        let o = q.own h in
        let m = p.least (s - 1) (omega (arith, o.0)) (omega (arith, q.low)) o.1 in
        (m.0, omega (arith, m.1))

    go : Dec (0 < r) → Dec (0 < s) → r ≡ s
    go (yes x) (yes y) = omega (arith, (before r s p q y).1, (before s r q p x).1)
    go (yes x) (no y) = absurd (y (before s r q p x).0)
    go (no x) (yes y) = absurd (x (before r s p q y).0)
    go (no x) (no y) = omega arith

pub first_of_lem : (b : ℕ) (keys : List ℕ) (e : ℕ) → IsFirst b keys e (length keys) (first_from b keys e)
unfolding first_from
first_of_lem b keys e = first_to_is b keys e (length keys)

pub first_by : (b : ℕ) (keys : List ℕ) (e r : ℕ) → IsFirst b keys e (length keys) r → r ≡ first_from b keys e
first_by b keys e r p = first_only b keys e (length keys) r (first_from b keys e) p (first_of_lem b keys e)

module _ (b : ℕ) (keys : List ℕ) (e : ℕ) where
  pub first_hit : (k : ℕ) → first_from b keys e ≡ k + 1
      → (e ≤ k) × (k < length keys) × (get_or keys k 0 ≡ b) × ((i : ℕ) → e ≤ i → i < k → get_or keys i 0 ≡ b → ⊥)
  first_hit k h =
      let p = first_of_lem b keys e in
      let o = p.own (omega arith) in
      let q : first_from b keys e - 1 ≡ k = omega arith in
      (omega (arith, o.0), omega (arith, p.low), ap (λ j. get_or keys j 0) (sym q) ∙ o.1, λ i a d m. let z = p.least i a (omega (arith, p.low)) m in omega (arith, z.1))

  pub first_none : first_from b keys e ≡ 0 → (i : ℕ) → e ≤ i → i < length keys → get_or keys i 0 ≡ b → ⊥
  first_none h i a d m = let z = (first_of_lem b keys e).least i a d m in omega (arith, z.0)

  -- none is found where there is none
  pub first_empty : ((i : ℕ) → e ≤ i → i < length keys → get_or keys i 0 ≡ b → ⊥) → 0 ≡ first_from b keys e
  first_empty h = first_by b keys e 0 (record { low = omega arith; own = λ p. absurd (omega arith); least = λ i a d m. absurd (h i a d m) })

  -- one is found where there is one
  pub first_some : (i : ℕ) → e ≤ i → i < length keys → get_or keys i 0 ≡ b → 0 < first_from b keys e
  first_some i a d m = ((first_of_lem b keys e).least i a d m).0

  -- entries that come later change nothing where one is found
  pub first_kept : (more : List ℕ) → 0 < first_from b keys e → first_from b keys e ≡ first_from b (keys ++ more) e
  first_kept more h = first_by b (keys ++ more) e (first_from b keys e) (record { low = omega (arith, p.low, length-append keys more); own = own; least = λ i a d m. least i a d m (dec_lt i (length keys)) })
    where
      p : IsFirst b keys e (length keys) (first_from b keys e)
      p = first_of_lem b keys e

      own : 0 < first_from b keys e → (e < first_from b keys e) × (get_or (keys ++ more) (first_from b keys e - 1) 0 ≡ b)
      own o = ((p.own o).0, get_or-append keys more 0 (first_from b keys e - 1) (omega (arith, p.low)) ∙ (p.own o).1)

      least : (i : ℕ) → e ≤ i → i < length (keys ++ more) → get_or (keys ++ more) i 0 ≡ b → Dec (i < length keys) → (0 < first_from b keys e) × (first_from b keys e ≤ i + 1)
      least i a d m (yes l) = p.least i a l (sym (get_or-append keys more 0 i l) ∙ m)
      least i a d m (no l) = (h, omega (arith, p.low))

  pub first_append : (more : List ℕ) (k : ℕ) → first_from b keys e ≡ k + 1 → first_from b (keys ++ more) e ≡ k + 1
  first_append more k h = sym (first_kept more (omega arith)) ∙ h

-- ---- one entry more
module _ (keys : List ℕ) (x : ℕ) where
  pub longer : length (keys ++ (x ∷ [])) ≡ length keys + 1
  longer = length-append keys (x ∷ [])

  in_front : (i : ℕ) → i < length keys → get_or (keys ++ (x ∷ [])) i 0 ≡ get_or keys i 0
  in_front i l = get_or-append keys (x ∷ []) 0 i l

  at_end : (i : ℕ) → i ≡ length keys → get_or (keys ++ (x ∷ [])) i 0 ≡ x
  at_end i q = get_or_at keys x [] 0 i (sym q)

  -- what has key b has it among the others, or is the new entry
  module _ (b e : ℕ) where
    new_own : b ≢ x → (i : ℕ) → i < length (keys ++ (x ∷ [])) → get_or (keys ++ (x ∷ [])) i 0 ≡ b → i < length keys
    new_own h i d m = go (dec_lt i (length keys))
      where
        go : Dec (i < length keys) → i < length keys
        go (yes l) = l
        go (no l) = absurd (h (sym m ∙ at_end i (omega (arith, longer))))

    first_other : b ≢ x → first_from b keys e ≡ first_from b (keys ++ (x ∷ [])) e
    first_other h = go (dec_lt 0 (first_from b keys e))
      where
        go : Dec (0 < first_from b keys e) → first_from b keys e ≡ first_from b (keys ++ (x ∷ [])) e
        go (yes p) = first_kept b keys e (x ∷ []) p
        go (no p) =
            let z : first_from b keys e ≡ 0 = omega arith in
            z ∙ first_empty b (keys ++ (x ∷ [])) e (λ i a d m. let l = new_own h i d m in first_none b keys e z i a l (sym (in_front i l) ∙ m))

    first_new : b ≡ x → e ≤ length keys → ((i : ℕ) → e ≤ i → i < length keys → get_or keys i 0 ≡ b → ⊥) → length keys + 1 ≡ first_from b (keys ++ (x ∷ [])) e
    first_new q h none = first_by b (keys ++ (x ∷ [])) e (length keys + 1) (record {
      low = omega (arith, longer);
      own = λ p. (omega arith, at_end (length keys + 1 - 1) (omega arith) ∙ sym q);
      least = λ i a d m. (omega arith, go i a m (dec_lt i (length keys)));
    })
      where
        go : (i : ℕ) → e ≤ i → get_or (keys ++ (x ∷ [])) i 0 ≡ b → Dec (i < length keys) → length keys + 1 ≤ i + 1
        go i a m (yes l) = absurd (none i a l (sym (in_front i l) ∙ m))
        go i a m (no l) = omega arith

    last_other : (r : ℕ) → b ≢ x → IsLast b keys r → IsLast b (keys ++ (x ∷ [])) r
    last_other r h p = record {
      low = omega (arith, longer, p.low);
      own = λ o. in_front (r - 1) (omega (arith, p.low)) ∙ p.own o;
      most = λ i d m. let l = new_own h i d m in p.most i l (sym (in_front i l) ∙ m);
    }

    last_new : b ≡ x → IsLast b (keys ++ (x ∷ [])) (length keys + 1)
    last_new q = record {
      low = omega (arith, longer);
      own = λ o. at_end (length keys + 1 - 1) (omega arith) ∙ sym q;
      most = λ i d m. omega (arith, longer);
    }

-- ---- the words that an entry sets
-- three words that are set, one after the other
module _ (l : List ℕ) (i j m a d : ℕ) where
  thrice_third : m < length l → get_or (set (set (set l i a) j a) m d) m 0 ≡ d
  thrice_third h = get_or-set_same (set (set l i a) j a) m d 0 (simp length-set h)

  thrice_second : j ≢ m → j < length l → get_or (set (set (set l i a) j a) m d) j 0 ≡ a
  thrice_second n h = get_or-set_other (set (set l i a) j a) m j d 0 n ∙ get_or-set_same (set l i a) j a 0 (simp length-set h)

  thrice_first : i ≢ m → i ≢ j → i < length l → get_or (set (set (set l i a) j a) m d) i 0 ≡ a
  thrice_first n q h = get_or-set_other (set (set l i a) j a) m i d 0 n ∙ get_or-set_other (set l i a) j i a 0 q ∙ get_or-set_same l i a 0 h

  thrice_other : (k : ℕ) → k ≢ i → k ≢ j → k ≢ m → get_or (set (set (set l i a) j a) m d) k 0 ≡ get_or l k 0
  thrice_other k n q r = get_or-set_other (set (set l i a) j a) m k d 0 r ∙ get_or-set_other (set l i a) j k a 0 q ∙ get_or-set_other l i k a 0 n

pub tail_first : (ws : List ℕ) (b l : ℕ) → l ≡ get_or ws (2049 + b) 0 → l ≡ 0 → b ≡ tail_of ws b
unfolding tail_of
tail_first ws b l e h = rw (eq-eqb (get_or ws (2049 + b) 0) 0 (sym e ∙ h))

pub tail_next : (ws : List ℕ) (b l : ℕ) → l ≡ get_or ws (2049 + b) 0 → l ≢ 0 → 4097 + l ≡ tail_of ws b
unfolding tail_of
tail_next ws b l e h = rw (ne_eqb (get_or ws (2049 + b) 0) 0 (λ q. h (e ∙ q))) (ap (λ i. 4097 + i) e)

module _ (ws : List ℕ) (e b : ℕ) (k : Linkable ws e b) (pos : 0 < b) where
  -- it is no word of a last entry
  tail_not : (d : ℕ) → d ≤ 2048 → 2049 + d ≢ tail_of ws b
  tail_not d h q = go (ℕ_discrete (get_or ws (2049 + b) 0) 0)
    where
      go : Dec (get_or ws (2049 + b) 0 ≡ 0) → ⊥
      go (yes z) = omega (arith, tail_first ws b _ refl z, k.key)
      go (no z) = omega (arith, tail_next ws b _ refl z, z)

  pub tail_below : tail_of ws b < list_words
  tail_below = go (ℕ_discrete (get_or ws (2049 + b) 0) 0)
    where
      go : Dec (get_or ws (2049 + b) 0 ≡ 0) → tail_of ws b < list_words
      go (yes z) = omega (arith, tail_first ws b _ refl z, k.key)
      go (no z) = omega (arith, tail_next ws b _ refl z, k.last pos)

  pub length_appended : length (appended ws e b) ≡ list_words
  unfolding appended
  length_appended = simp length-set k.size

  word_other : (i : ℕ) → i ≢ tail_of ws b → i ≢ 2049 + b → i ≢ 4098 + e → get_or (appended ws e b) i 0 ≡ get_or ws i 0
  unfolding appended
  word_other i p q r = thrice_other ws (tail_of ws b) (2049 + b) (4098 + e) (e + 1) 0 i p q r

  word_new : get_or (appended ws e b) (4098 + e) 0 ≡ 0
  unfolding appended
  word_new = thrice_third ws (tail_of ws b) (2049 + b) (4098 + e) (e + 1) 0 (omega (arith, k.size, k.entry))

  word_last : get_or (appended ws e b) (2049 + b) 0 ≡ e + 1
  unfolding appended
  word_last = thrice_second ws (tail_of ws b) (2049 + b) (4098 + e) (e + 1) 0 (λ z. omega (arith, k.key)) (omega (arith, k.size, k.key))

  word_tail : tail_of ws b ≢ 4098 + e → get_or (appended ws e b) (tail_of ws b) 0 ≡ e + 1
  unfolding appended
  word_tail h = thrice_first ws (tail_of ws b) (2049 + b) (4098 + e) (e + 1) 0 h (λ z. tail_not b k.key (sym z)) (omega (arith, k.size, tail_below))

-- ---- no entry
pub unlisted_zeros : Unlisted (replicate list_words 0)
unlisted_zeros = record { size = length-replicate {A = ℕ} list_words 0; empty = λ i h. get_or-replicate {A = ℕ} list_words i 0 0 h }

pub listed_none : (ws : List ℕ) → Unlisted ws → Listed ws []
listed_none ws u = record {
  size = u.size;
  few = omega arith;
  none = u.empty 0 (omega arith);
  first = λ b p h. u.empty b (omega arith) ∙ first_empty b [] 0 (λ i a d m. omega arith);
  last = λ b p h. subst (IsLast b []) (sym (u.empty (2049 + b) (omega arith))) (record { low = omega arith; own = λ o. absurd (omega arith); most = λ i d m. absurd (omega arith) });
  next = λ e d p h. absurd (omega arith);
}

-- ---- an entry on no list
pub listed_skip : (ws keys : List ℕ) → Listed ws keys → length keys < 20480 → Listed ws (keys ++ (0 ∷ []))
listed_skip ws keys c h = record {
  size = c.size;
  few = omega (arith, longer keys 0);
  none = c.none;
  first = λ b p l. c.first b p l ∙ first_other keys 0 b 0 (λ z. omega arith);
  last = λ b p l. last_other keys 0 b 0 _ (λ z. omega arith) (c.last b p l);
  next = λ e d p l. next e d p l (dec_lt e (length keys));
}
  where
    next : (e : ℕ) → e < length (keys ++ (0 ∷ [])) → 0 < get_or (keys ++ (0 ∷ [])) e 0 → get_or (keys ++ (0 ∷ [])) e 0 ≤ 2048
        → Dec (e < length keys) → get_or ws (4098 + e) 0 ≡ first_from (get_or (keys ++ (0 ∷ [])) e 0) (keys ++ (0 ∷ [])) (e + 1)
    next e d p l (yes m) =
        let q = in_front keys 0 e m in
        c.next e m (omega arith) (omega arith) ∙ first_other keys 0 (get_or keys e 0) (e + 1) (λ z. omega arith)
        ∙ ap (λ b. first_from b (keys ++ (0 ∷ [])) (e + 1)) (sym q)
    next e d p l (no m) = absurd (omega (arith, at_end keys 0 e (omega (arith, longer keys 0))))

-- ---- an entry at the end of a list
pub linkable : (ws keys : List ℕ) (b : ℕ) → Listed ws keys → length keys < 20480 → b ≤ 2048 → Linkable ws (length keys) b
linkable ws keys b c h l = record { size = c.size; entry = h; key = l; last = λ p. omega (arith, (c.last b p l).low, c.few) }

module _ (ws keys : List ℕ) (b : ℕ) (c : Listed ws keys) (h : length keys < 20480) (pos : 0 < b) (small : b ≤ 2048) where
  can : Linkable ws (length keys) b
  can = linkable ws keys b c h small

  module _ (l : ℕ) (is : l ≡ get_or ws (2049 + b) 0) (p : IsLast b keys l) where
    tail_new : tail_of ws b ≢ 4098 + length keys
    tail_new q = go (ℕ_discrete l 0)
      where
        go : Dec (l ≡ 0) → ⊥
        go (yes z) = omega (arith, tail_first ws b l is z, small)
        go (no z) = omega (arith, tail_next ws b l is z, p.low)

    tail_other : (d : ℕ) → d ≤ 2048 → d ≢ b → d ≢ tail_of ws b
    tail_other d r e q = go (ℕ_discrete l 0)
      where
        go : Dec (l ≡ 0) → ⊥
        go (yes z) = e (q ∙ sym (tail_first ws b l is z))
        go (no z) = omega (arith, tail_next ws b l is z)

    first_more : (d : ℕ) → 0 < d → d ≤ 2048 → get_or (appended ws (length keys) b) d 0 ≡ first_from d (keys ++ (b ∷ [])) 0
    first_more d q r = go (ℕ_discrete d b) (ℕ_discrete l 0)
      where
        kept : d ≢ tail_of ws b → get_or (appended ws (length keys) b) d 0 ≡ first_from d keys 0
        kept n = word_other ws (length keys) b can pos d n (λ z. omega arith) (λ z. omega arith) ∙ c.first d q r

        go : Dec (d ≡ b) → Dec (l ≡ 0) → get_or (appended ws (length keys) b) d 0 ≡ first_from d (keys ++ (b ∷ [])) 0
        go (yes e) (yes z) =
            ap (λ i. get_or (appended ws (length keys) b) i 0) (e ∙ tail_first ws b l is z) ∙ word_tail ws (length keys) b can pos tail_new
            ∙ first_new keys b d 0 e (omega arith) (λ i a m o. let y = p.most i m (o ∙ e) in omega arith)
        go (yes e) (no z) =
            kept (λ y. omega (arith, tail_next ws b l is z))
            ∙ first_kept d keys 0 (b ∷ []) (first_some d keys 0 (l - 1) (omega arith) (omega (arith, p.low, z)) (p.own (omega (arith, z)) ∙ sym e))
        go (no e) z = kept (tail_other d r e) ∙ first_other keys b d 0 e

    last_more : (d : ℕ) → 0 < d → d ≤ 2048 → IsLast d (keys ++ (b ∷ [])) (get_or (appended ws (length keys) b) (2049 + d) 0)
    last_more d q r = go (ℕ_discrete d b)
      where
        go : Dec (d ≡ b) → IsLast d (keys ++ (b ∷ [])) (get_or (appended ws (length keys) b) (2049 + d) 0)
        go (yes e) =
            let y : get_or (appended ws (length keys) b) (2049 + d) 0 ≡ length keys + 1 =
            ap (λ i. get_or (appended ws (length keys) b) (2049 + i) 0) e ∙ word_last ws (length keys) b can pos in
            subst (IsLast d (keys ++ (b ∷ []))) (sym y) (last_new keys b d 0 e)
        go (no e) =
            let y : get_or (appended ws (length keys) b) (2049 + d) 0 ≡ get_or ws (2049 + d) 0 =
            word_other ws (length keys) b can pos (2049 + d) (tail_not ws (length keys) b can pos d r) (λ z. e (omega arith)) (λ z. omega arith) in
            subst (IsLast d (keys ++ (b ∷ []))) (sym y) (last_other keys b d 0 _ e (c.last d q r))

    -- an entry before the new one, of key x
    next_kept : (e x : ℕ) → e < length keys → get_or keys e 0 ≡ x → 0 < x → x ≤ 2048 → get_or (appended ws (length keys) b) (4098 + e) 0 ≡ first_from x (keys ++ (b ∷ [])) (e + 1)
    next_kept e x m f q r = go (ℕ_discrete x b) (ℕ_discrete (e + 1) l)
      where
        kept : 4098 + e ≢ tail_of ws b → get_or (appended ws (length keys) b) (4098 + e) 0 ≡ first_from x keys (e + 1)
        kept n =
            word_other ws (length keys) b can pos (4098 + e) n (λ z. omega arith) (λ z. omega arith)
            ∙ c.next e m (omega arith) (omega arith) ∙ ap (λ i. first_from i keys (e + 1)) f

        else : x ≢ b → 4098 + e ≡ tail_of ws b → Dec (l ≡ 0) → ⊥
        else g y (yes z) = omega (arith, tail_first ws b l is z)
        else g y (no z) =
            let i : e ≡ l - 1 = omega (arith, tail_next ws b l is z) in
            g (sym f ∙ ap (λ j. get_or keys j 0) i ∙ p.own (omega (arith, z)))

        go : Dec (x ≡ b) → Dec (e + 1 ≡ l) → get_or (appended ws (length keys) b) (4098 + e) 0 ≡ first_from x (keys ++ (b ∷ [])) (e + 1)
        go (yes g) (yes y) =
            let z : 4098 + e ≡ tail_of ws b = omega (arith, tail_next ws b l is (λ o. omega arith)) in
            ap (λ i. get_or (appended ws (length keys) b) i 0) z ∙ word_tail ws (length keys) b can pos tail_new
            ∙ first_new keys b x (e + 1) g (omega arith) (λ i a d o. let w = p.most i d (o ∙ g) in omega arith)
        go (yes g) (no y) =
            let w : e < l = p.most e m (f ∙ g) in
            let v : e + 1 < l = omega (arith, y) in
            kept (λ z. omega (arith, tail_next ws b l is (λ o. omega arith)))
            ∙ first_kept x keys (e + 1) (b ∷ []) (first_some x keys (e + 1) (l - 1) (omega arith) (omega (arith, p.low)) (p.own (omega arith) ∙ sym g))
        go (no g) y = kept (λ z. else g z (ℕ_discrete l 0)) ∙ first_other keys b x (e + 1) g

    next_more : (e : ℕ) → e < length (keys ++ (b ∷ [])) → 0 < get_or (keys ++ (b ∷ [])) e 0 → get_or (keys ++ (b ∷ [])) e 0 ≤ 2048
        → get_or (appended ws (length keys) b) (4098 + e) 0 ≡ first_from (get_or (keys ++ (b ∷ [])) e 0) (keys ++ (b ∷ [])) (e + 1)
    next_more e d q r = go (dec_lt e (length keys))
      where
        go : Dec (e < length keys) → get_or (appended ws (length keys) b) (4098 + e) 0 ≡ first_from (get_or (keys ++ (b ∷ [])) e 0) (keys ++ (b ∷ [])) (e + 1)
        go (yes m) = next_kept e _ m (sym (in_front keys b e m)) q r
        go (no m) =
            let y : e ≡ length keys = omega (arith, longer keys b) in
            ap (λ i. get_or (appended ws (length keys) b) (4098 + i) 0) y ∙ word_new ws (length keys) b can pos
            ∙ first_empty _ (keys ++ (b ∷ [])) (e + 1) (λ i a g o. omega (arith, longer keys b))

    more : Listed (appended ws (length keys) b) (keys ++ (b ∷ []))
    more = record {
      size = length_appended ws (length keys) b can pos;
      few = omega (arith, longer keys b);
      none = word_other ws (length keys) b can pos 0 (tail_other 0 (omega arith) (λ z. omega arith)) (λ z. omega arith) (λ z. omega arith) ∙ c.none;
      first = first_more;
      last = last_more;
      next = next_more;
    }

pub listed_more : (ws keys : List ℕ) (b : ℕ) → Listed ws keys → length keys < 20480 → 0 < b → b ≤ 2048 → Listed (appended ws (length keys) b) (keys ++ (b ∷ []))
listed_more ws keys b c h pos small = more ws keys b c h pos small (get_or ws (2049 + b) 0) refl (c.last b pos small)

-- ---- an entry with any key
pub enter_none : (ws : List ℕ) (e b : ℕ) → b ≡ 0 → ws ≡ entered ws e b
unfolding entered
enter_none ws e b h = rw (eq-eqb b 0 h)

pub enter_some : (ws v : List ℕ) (e b : ℕ) → b ≢ 0 → v ≡ appended ws e b → v ≡ entered ws e b
unfolding entered
enter_some ws v e b h p = rw (ne_eqb b 0 h) p

pub listed_ready : (ws keys : List ℕ) → Listed ws keys → Ready ws
listed_ready ws keys c = record { size = c.size; lasts = λ b p h. omega (arith, (c.last b p h).low, c.few) }

pub ready_link : (ws : List ℕ) (e b : ℕ) → Ready ws → e < 20480 → b ≤ 2048 → Linkable ws e b
ready_link ws e b r h l = record { size = r.size; entry = h; key = l; last = λ p. r.lasts b p l }

pub ready_next : (ws v : List ℕ) (e b : ℕ) → Ready ws → e < 20480 → b ≤ 2048 → v ≡ entered ws e b → Ready v
ready_next ws v e b r h l q = subst Ready (sym q) (go (ℕ_discrete b 0))
  where
    k : Linkable ws e b
    k = ready_link ws e b r h l

    lasts : 0 < b → (d : ℕ) → 0 < d → d ≤ 2048 → Dec (d ≡ b) → get_or (appended ws e b) (2049 + d) 0 ≤ 20480
    lasts p d o m (yes y) = let z = ap (λ i. get_or (appended ws e b) (2049 + i) 0) y ∙ word_last ws e b k p in omega (arith, z)
    lasts p d o m (no y) =
        let z = word_other ws e b k p (2049 + d) (tail_not ws e b k p d m) (λ w. y (omega arith)) (λ w. omega arith) in
        omega (arith, z, r.lasts d o m)

    go : Dec (b ≡ 0) → Ready (entered ws e b)
    go (yes z) = subst Ready (enter_none ws e b z) r
    go (no z) =
        let p : 0 < b = omega (arith, z) in
        subst Ready (enter_some ws (appended ws e b) e b z refl) (record { size = length_appended ws e b k p; lasts = λ d o m. lasts p d o m (ℕ_discrete d b) })

pub listed_entered : (ws keys : List ℕ) (e b : ℕ) → Listed ws keys → e ≡ length keys → e < 20480 → b ≤ 2048 → Listed (entered ws e b) (keys ++ (b ∷ []))
listed_entered ws keys e b c q h l = subst (λ i. Listed (entered ws i b) (keys ++ (b ∷ []))) (sym q) (go (ℕ_discrete b 0))
  where
    go : Dec (b ≡ 0) → Listed (entered ws (length keys) b) (keys ++ (b ∷ []))
    go (yes z) =
        subst (λ (v : List ℕ). Listed v (keys ++ (b ∷ []))) (enter_none ws (length keys) b z)
        (subst (λ i. Listed ws (keys ++ (i ∷ []))) (sym z) (listed_skip ws keys c (omega arith)))
    go (no z) =
        subst (λ (v : List ℕ). Listed v (keys ++ (b ∷ []))) (enter_some ws (appended ws (length keys) b) (length keys) b z refl)
        (listed_more ws keys b c (omega arith) (omega (arith, z)) l)

-- ---- the five entries of a record
-- a property of five places
pub five : (P : ℕ → Type 0) → P 0 → P 1 → P 2 → P 3 → P 4 → (i : ℕ) → i < 5 → P i
five P a b c d e zero h = a
five P a b c d e (suc zero) h = b
five P a b c d e (suc (suc zero)) h = c
five P a b c d e (suc (suc (suc zero))) h = d
five P a b c d e (suc (suc (suc (suc zero)))) h = e
five P a b c d e (suc (suc (suc (suc (suc i))))) h = absurd (omega arith)

pub within_five : (m a b c d e : ℕ) → a ≤ m → b ≤ m → c ≤ m → d ≤ m → e ≤ m → Within m (a ∷ b ∷ c ∷ d ∷ e ∷ [])
within_five m a b c d e p q r s t = five (λ i. get_or (a ∷ b ∷ c ∷ d ∷ e ∷ []) i 0 ≤ m) p q r s t

-- a list of five is its five elements
pub five_elements : (xs : List ℕ) → length xs ≡ 5 → get_or xs 0 0 ∷ get_or xs 1 0 ∷ get_or xs 2 0 ∷ get_or xs 3 0 ∷ get_or xs 4 0 ∷ [] ≡ xs
five_elements xs e =
    let ys : List ℕ = get_or xs 0 0 ∷ get_or xs 1 0 ∷ get_or xs 2 0 ∷ get_or xs 3 0 ∷ get_or xs 4 0 ∷ [] in
    sym (ext_get_or 0 xs ys e (λ i l. five (λ k. get_or xs k 0 ≡ get_or ys k 0) refl refl refl refl refl i (omega arith)))

-- .. by what each one is
pub five_each : (xs : List ℕ) (f : ℕ → ℕ) → length xs ≡ 5 → ((i : ℕ) → i < 5 → get_or xs i 0 ≡ f i) → xs ≡ f 0 ∷ f 1 ∷ f 2 ∷ f 3 ∷ f 4 ∷ []
five_each xs f n h =
    rw (← five_elements xs n, h 0 (omega arith), h 1 (omega arith), h 2 (omega arith), h 3 (omega arith), h 4 (omega arith))

-- entries from e on, one for each key
unfoldable pub entered_from : List ℕ → ℕ → List ℕ → List ℕ
entered_from ws e [] = ws
entered_from ws e (b ∷ bs) = entered_from (entered ws e b) (e + 1) bs

entered_five : (ws : List ℕ) (e : ℕ) (bs : List ℕ) → length bs ≡ 5 → entered_from ws e bs ≡ entered_all ws e bs
unfolding entered_from entered_all
entered_five ws e bs n = subst (λ xs. entered_from ws e xs ≡ entered_all ws e xs) (five_elements bs n) (simp add_assoc)

-- the loop over the keys goes on, and ends
pub entered_turn : (ws v : List ℕ) (e i : ℕ) (bs : List ℕ) → i < length bs → v ≡ entered ws (e + i) (get_or bs i 0)
    → entered_from v (e + (i + 1)) (drop (i + 1) bs) ≡ entered_from ws (e + i) (drop i bs)
unfolding entered_from
entered_turn ws v e i bs h p =
    let next : e + (i + 1) ≡ e + i + 1 = omega arith in
    rw (drop-cons bs i 0 h, p, next, add-one i)

pub entered_end : (ws v : List ℕ) (e i : ℕ) (bs : List ℕ) → length bs ≡ 5 → 5 ≤ i → entered_from v (e + i) (drop i bs) ≡ entered_from ws e bs → v ≡ entered_all ws e bs
unfolding entered_from
entered_end ws v e i bs n h p = rw (drop_all i bs (omega arith)) at p ∙ entered_five ws e bs n

listed_from : (ws keys : List ℕ) (e : ℕ) (bs : List ℕ) → Listed ws keys → e ≡ length keys → e + length bs ≤ 20480 → ((i : ℕ) → i < length bs → get_or bs i 0 ≤ 2048)
    → Listed (entered_from ws e bs) (keys ++ bs)
unfolding entered_from
listed_from ws keys e [] c q h l = rw append-nil c
listed_from ws keys e (b ∷ bs) c q h l =
    let more = listed_entered ws keys e b c q (omega arith) (l 0 (omega arith)) in
    subst (λ ks. Listed (entered_from (entered ws e b) (e + 1) bs) ks) (append_assoc keys (b ∷ []) bs)
    (listed_from (entered ws e b) (keys ++ (b ∷ [])) (e + 1) bs more (omega (arith, longer keys b)) (omega arith) (λ i m. l (suc i) (omega arith)))

pub listed_entered_all : (ws keys : List ℕ) (e : ℕ) (bs : List ℕ) → Listed ws keys → e ≡ length keys → e + 5 ≤ 20480 → Within 2048 bs → length bs ≡ 5
    → Listed (entered_all ws e bs) (keys ++ bs)
listed_entered_all ws keys e bs c q h l n =
    rw (← entered_five ws e bs n) (listed_from ws keys e bs c q (omega arith) (λ i m. l i (omega arith)))

-- .. where only the first has a key
pub entered_one_by : (ws v : List ℕ) (e b : ℕ) → v ≡ entered ws e b → v ≡ entered_all ws e (alone b)
unfolding entered_all entered
entered_one_by ws v e b p = p
