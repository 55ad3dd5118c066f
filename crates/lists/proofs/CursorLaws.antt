-- Cursors that go through five lists: no entry is missed, and they come to an end.
use Prim.Native.Nat.{ℕ, ◌+◌, ◌-◌, ◌*◌, ◌/◌, ◌≤◌, ◌<◌}
use mathlib.Core.Path.{◌≡◌, refl, sym, ap, ◌∙◌, subst}
use mathlib.Core.Logic.{◌≢◌}
use mathlib.Core.List.{List, ◌++◌}
use mathlib.Core.Bool.{Bool, true, false, false≢true}
use native.Mathlib.Omega.{arith}
use native.Mathlib.Decide.{dec_lt, ℕ_discrete}
use lib.ListN.{length, length-append, get_or, get_or-append}
use borrow.Author.Tests.{eq-eqb, ne_eqb, le-leb, lt-leb, lt-ltb, le-ltb}
use Rattle.std.proofs.Common.{fold, drop}
use Rattle.std.proofs.lemmas.List.{drop_all}
use Rattle.lists.specs.Lists.{first_from, Listed, Within}
use Rattle.lists.specs.Cursors.{alone, starts_of, nearer, nearest_of, least_of, after_of, moved_on, passed_of, Points, Ahead, Skims, stays, goes, SkimsAll, left_of, left_all}
use Rattle.lists.proofs.ListLaws.{IsFirst, first_of_lem, five, five_elements}

-- ---- the nearer of two
pub nearer_end : (m c : ℕ) → c ≡ 0 → m ≡ nearer m c
unfolding nearer
nearer_end m c h = rw (eq-eqb c 0 h)

pub nearer_same : (m c : ℕ) → c ≢ 0 → m ≤ c → m ≡ nearer m c
unfolding nearer
nearer_same m c h l = rw (ne_eqb c 0 h, le-leb m c l)

pub nearer_cursor : (m c : ℕ) → c ≢ 0 → c < m → c ≡ nearer m c
unfolding nearer
nearer_cursor m c h l = rw (ne_eqb c 0 h, lt-leb m c l)

-- it is not after either, and it is one of them
pub record Nearer (m c r : ℕ) : Type 0 where
  pub most : r ≤ m
  pub pos : 0 < m → 0 < r
  pub low : 0 < c → r ≤ c
  pub past : (d : ℕ) → d < m → (0 < c → d < c) → d < r

pub nearer_is : (m c : ℕ) → Nearer m c (nearer m c)
nearer_is m c = go (ℕ_discrete c 0) (dec_lt c m)
  where
    go : Dec (c ≡ 0) → Dec (c < m) → Nearer m c (nearer m c)
    go (yes z) l = subst (Nearer m c) (nearer_end m c z) (record { most = omega arith; pos = λ p. p; low = λ p. absurd (omega arith); past = λ d p q. p })
    go (no z) (yes l) = subst (Nearer m c) (nearer_cursor m c z l) (record { most = omega arith; pos = λ p. omega (arith, z); low = λ p. omega arith; past = λ d p q. q (omega (arith, z)) })
    go (no z) (no l) = subst (Nearer m c) (nearer_same m c z (omega (arith, l))) (record { most = omega arith; pos = λ p. p; low = λ p. omega (arith, l); past = λ d p q. p })

-- ---- the nearest of five
pub record Nearest (cs : List ℕ) (r : ℕ) : Type 0 where
  pub most : r ≤ 20481
  pub pos : 0 < r
  pub low : (i : ℕ) → i < 5 → 0 < get_or cs i 0 → r ≤ get_or cs i 0
  pub past : (d : ℕ) → d < 20481 → ((i : ℕ) → i < 5 → 0 < get_or cs i 0 → d < get_or cs i 0) → d < r

pub nearest_is : (cs : List ℕ) → Nearest cs (nearest_of cs)
unfolding nearest_of
nearest_is cs =
    let a = nearer_is 20481 (get_or cs 0 0) in
    let b = nearer_is (nearer 20481 (get_or cs 0 0)) (get_or cs 1 0) in
    let c = nearer_is (nearer (nearer 20481 (get_or cs 0 0)) (get_or cs 1 0)) (get_or cs 2 0) in
    let d = nearer_is (nearer (nearer (nearer 20481 (get_or cs 0 0)) (get_or cs 1 0)) (get_or cs 2 0)) (get_or cs 3 0) in
    let e = nearer_is (nearer (nearer (nearer (nearer 20481 (get_or cs 0 0)) (get_or cs 1 0)) (get_or cs 2 0)) (get_or cs 3 0)) (get_or cs 4 0) in
    record {
      most = omega (arith, a.most, b.most, c.most, d.most, e.most);
      pos = e.pos (d.pos (c.pos (b.pos (a.pos (omega arith)))));
      low = five (λ i. 0 < get_or cs i 0 → nearest_of cs ≤ get_or cs i 0)
          (λ p. omega (arith, a.low p, b.most, c.most, d.most, e.most))
          (λ p. omega (arith, b.low p, c.most, d.most, e.most))
          (λ p. omega (arith, c.low p, d.most, e.most))
          (λ p. omega (arith, d.low p, e.most))
          (λ p. e.low p);
      past = λ x h q.
          e.past x
          (d.past x (c.past x (b.past x (a.past x h (q 0 (omega arith))) (q 1 (omega arith))) (q 2 (omega arith))) (q 3 (omega arith)))
          (q 4 (omega arith));
    }

pub nearest_pos : (cs : List ℕ) (m : ℕ) → m ≡ nearest_of cs → (0 < m) × (m ≤ 20481)
nearest_pos cs m e = (omega (arith, (nearest_is cs).pos), omega (arith, (nearest_is cs).most))

nearest_fold : (cs : List ℕ) → length cs ≡ 5 → fold nearer 20481 cs ≡ nearest_of cs
unfolding nearest_of
nearest_fold cs n = subst (λ xs. fold nearer 20481 xs ≡ nearest_of xs) (five_elements cs n) refl

-- a loop over the five that has come to their end
pub nearest_end : (cs : List ℕ) (m i : ℕ) → length cs ≡ 5 → 5 ≤ i → fold nearer m (drop i cs) ≡ fold nearer 20481 cs → m ≡ nearest_of cs
nearest_end cs m i n h p = rw (drop_all i cs (omega arith)) at p ∙ nearest_fold cs n

pub least_by : (cs : List ℕ) (m : ℕ) → m ≡ nearest_of cs → ((m - 1) / 5 ≡ least_of cs) × ((m - 1) / 5 ≤ 4096)
unfolding least_of
least_by cs m e = (ap (λ i. (i - 1) / 5) e, omega (arith, (nearest_pos cs m e).1))

pub least_few : (cs : List ℕ) → least_of cs ≤ 4096
unfolding least_of
least_few cs = (least_by cs (nearest_of cs) refl).1

-- ---- one cursor goes on
module _ (ws : List ℕ) (to c : ℕ) where
  pub moved_end : c ≡ 0 → 0 ≡ moved_on ws to c
  unfolding moved_on
  moved_end h = rw (eq-eqb c 0 h) (sym h)

  pub moved_stays : c ≢ 0 → to < c → c ≡ moved_on ws to c
  unfolding moved_on
  moved_stays h l = rw (ne_eqb c 0 h, lt-ltb to c l)

  pub moved_next : c ≢ 0 → c ≤ to → after_of ws c ≡ moved_on ws to c
  unfolding moved_on
  moved_next h l = rw (ne_eqb c 0 h, le-ltb to c l)

point_none : (quiet : ℕ → Bool) (keys : List ℕ) (b from to : ℕ) → ((e : ℕ) → from ≤ e → e < to → quiet (e / 5) ≡ false → 0 < b → get_or keys e 0 ≡ b → ⊥) → Points quiet keys b from to 0
point_none quiet keys b from to h = record { low = omega arith; own = λ p. absurd (omega arith); ahead = λ e a d s p m. absurd (h e a d s p m) }

-- what is found at or after e
point_first : (quiet : ℕ → Bool) (keys : List ℕ) (b e from to r : ℕ) → 0 < b → e ≤ from → to ≤ length keys → IsFirst b keys e (length keys) r → Points quiet keys b from to r
point_first quiet keys b e from to r pos h l p = record {
  low = p.low;
  own = λ o. (pos, (p.own o).1);
  ahead = λ i a d s q m. p.least i (omega arith) (omega arith) m;
}

module _ (quiet : ℕ → Bool) (ws keys : List ℕ) (c : Listed ws keys) (b : ℕ) (small : b ≤ 2048) (to : ℕ) (room : to ≤ length keys) where
  point_start : Points quiet keys b 0 to (get_or ws b 0)
  point_start = go (ℕ_discrete b 0)
    where
      go : Dec (b ≡ 0) → Points quiet keys b 0 to (get_or ws b 0)
      go (yes z) = subst (Points quiet keys b 0 to) (sym (ap (λ i. get_or ws i 0) z ∙ c.none)) (point_none quiet keys b 0 to (λ e a d s p m. omega arith))
      go (no z) =
          let p : 0 < b = omega (arith, z) in
          subst (Points quiet keys b 0 to) (sym (c.first b p small)) (point_first quiet keys b 0 0 to _ p (omega arith) room (first_of_lem b keys 0))

  module _ (from x : ℕ) (p : Points quiet keys b from to x) where
    -- the next entry is the first one of its key behind the cursor
    next_is : 0 < x → IsFirst b keys x (length keys) (after_of ws x)
    next_is h =
        let o = p.own h in
        let n : 4097 + x ≡ 4098 + (x - 1) = omega arith in
        let s : x - 1 + 1 ≡ x = omega arith in
        let y : after_of ws x ≡ first_from b keys x =
        ap (λ i. get_or ws i 0) n ∙ c.next (x - 1) (omega (arith, p.low)) (omega (arith, o.0, o.1)) (omega (arith, o.1))
        ∙ ap (λ i. first_from i keys (x - 1 + 1)) o.1 ∙ ap (λ i. first_from b keys i) s in
        subst (IsFirst b keys x (length keys)) (sym y) (first_of_lem b keys x)

    point_moved : (bound later : ℕ) → from ≤ later → bound ≤ later → Points quiet keys b later to (moved_on ws bound x)
    point_moved bound later f g = go (ℕ_discrete x 0) (dec_lt bound x)
      where
        go : Dec (x ≡ 0) → Dec (bound < x) → Points quiet keys b later to (moved_on ws bound x)
        go (yes z) l =
            subst (Points quiet keys b later to) (moved_end ws bound x z)
            (point_none quiet keys b later to (λ e a d s q m. omega (arith, (p.ahead e (omega arith) d s q m).0)))
        go (no z) (yes l) =
            subst (Points quiet keys b later to) (moved_stays ws bound x z l)
            (record { low = p.low; own = p.own; ahead = λ e a d s q m. p.ahead e (omega arith) d s q m })
        go (no z) (no l) =
            let h : 0 < x = omega (arith, z) in
            subst (Points quiet keys b later to) (moved_next ws bound x z (omega (arith, l)))
            (point_first quiet keys b x later to _ (p.own h).0 (omega (arith, l)) room (next_is h))

    -- a cursor at an entry of a quiet record goes on
    point_on : 0 < x → quiet ((x - 1) / 5) ≡ true → Points quiet keys b from to (after_of ws x)
    point_on h s = record {
      low = (next_is h).low;
      own = λ o. ((p.own h).0, ((next_is h).own o).1);
      ahead = λ e a d t q m. go e d t m (p.ahead e a d t q m).1 (dec_lt e x);
    }
      where
        go : (e : ℕ) → e < to → quiet (e / 5) ≡ false → get_or keys e 0 ≡ b → x ≤ e + 1 → Dec (e < x) → (0 < after_of ws x) × (after_of ws x ≤ e + 1)
        go e d t m l (yes g) =
            let same : (x - 1) / 5 ≡ e / 5 = ap (λ i. i / 5) (let o : x - 1 ≡ e = omega arith in o) in
            absurd (false≢true (sym t ∙ sym (ap quiet same) ∙ s))
        go e d t m l (no g) = (next_is h).least e (omega (arith, g)) (omega arith) m

-- ---- what is left
left_end : (c : ℕ) → c ≡ 0 → left_of c ≡ 0
unfolding left_of
left_end c h = rw (eq-eqb c 0 h)

left_some : (c : ℕ) → c ≢ 0 → left_of c ≡ 20481 - c
unfolding left_of
left_some c h = rw (ne_eqb c 0 h)

-- it does not grow, and it falls where the cursor goes on
record Falls (bound c r : ℕ) : Type 0 where
  same : left_of r ≤ left_of c
  less : 0 < c → c ≤ bound → left_of r < left_of c

module _ (quiet : ℕ → Bool) (ws keys : List ℕ) (c : Listed ws keys) (b : ℕ) (small : b ≤ 2048) (from to : ℕ) (room : to ≤ length keys) (x : ℕ) (p : Points quiet keys b from to x) (bound : ℕ) where
  next_less : x ≢ 0 → left_of (after_of ws x) < left_of x
  next_less z = go (ℕ_discrete (after_of ws x) 0)
    where
      n : IsFirst b keys x (length keys) (after_of ws x)
      n = next_is quiet ws keys c b small to room from x p (omega (arith, z))

      go : Dec (after_of ws x ≡ 0) → left_of (after_of ws x) < left_of x
      go (yes y) = omega (arith, left_end _ y, left_some x z, p.low, c.few)
      go (no y) = omega (arith, left_some _ y, left_some x z, n.low, (n.own (omega (arith, y))).0, c.few)

  cursor_falls : Falls bound x (moved_on ws bound x)
  cursor_falls = go (ℕ_discrete x 0) (dec_lt bound x)
    where
      go : Dec (x ≡ 0) → Dec (bound < x) → Falls bound x (moved_on ws bound x)
      go (yes z) l = subst (Falls bound x) (z ∙ moved_end ws bound x z) (record { same = omega arith; less = λ h d. absurd (omega arith) })
      go (no z) (yes l) = subst (Falls bound x) (moved_stays ws bound x z l) (record { same = omega arith; less = λ h d. absurd (omega arith) })
      go (no z) (no l) = subst (Falls bound x) (moved_next ws bound x z (omega (arith, l))) (record { same = omega (arith, next_less z); less = λ h d. next_less z })

-- ---- five cursors
pub ahead_start : (quiet : ℕ → Bool) (ws keys query : List ℕ) (n : ℕ) (cs : List ℕ) → Listed ws keys → Within 2048 query → 5 * n ≤ length keys → cs ≡ starts_of ws query → Ahead quiet keys query n 0 cs
unfolding starts_of
ahead_start quiet ws keys query n cs c small room e = subst (λ (ds : List ℕ). Ahead quiet keys query n 0 ds) (sym e) (record {
  room = room;
  small = small;
  points = five (λ i. Points quiet keys (get_or query i 0) 0 (5 * n) (get_or (starts_of ws query) i 0)) (at 0 (omega arith)) (at 1 (omega arith)) (at 2 (omega arith)) (at 3 (omega arith)) (at 4 (omega arith));
})
  where
    at : (i : ℕ) → i < 5 → Points quiet keys (get_or query i 0) 0 (5 * n) (get_or ws (get_or query i 0) 0)
    at i l = point_start quiet ws keys c (get_or query i 0) (small i l) (5 * n) room

-- cursors are entries
pub ahead_within : (quiet : ℕ → Bool) (keys query : List ℕ) (n done : ℕ) (cs : List ℕ) → Ahead quiet keys query n done cs → length keys ≤ 20480 → Within 20480 cs
ahead_within quiet keys query n done cs a h i l = omega (arith, (a.points i l).low)

-- no record is missed before the least one: none of its entries has a key of the query
pub least_none : (quiet : ℕ → Bool) (keys query : List ℕ) (n done : ℕ) (cs : List ℕ) → Ahead quiet keys query n done cs
    → (k : ℕ) → done ≤ k → k < least_of cs → k < n → quiet k ≡ false → (e : ℕ) → 5 * k ≤ e → e < 5 * k + 5 → (i : ℕ) → i < 5 → 0 < get_or query i 0 → get_or keys e 0 ≡ get_or query i 0 → ⊥
unfolding least_of
least_none quiet keys query n done cs a k d h l s e f g i j p m =
    let at : e / 5 ≡ k = omega arith in
    let y = (a.points i j).ahead e (omega arith) (omega arith) (ap quiet at ∙ s) p m in
    omega (arith, (nearest_is cs).low i j y.0, y.1)

-- record k is dealt with, and the cursors pass it
pub ahead_passed : (quiet : ℕ → Bool) (ws keys query : List ℕ) (n done later k : ℕ) (cs ds : List ℕ) → Listed ws keys → Ahead quiet keys query n done cs → done ≤ later → k < later → ds ≡ passed_of ws cs k
    → Ahead quiet keys query n later ds
unfolding passed_of
ahead_passed quiet ws keys query n done later k cs ds c a h l e = subst (λ (xs : List ℕ). Ahead quiet keys query n later xs) (sym e) (record {
  room = a.room;
  small = a.small;
  points = five (λ i. Points quiet keys (get_or query i 0) (5 * later) (5 * n) (get_or (passed_of ws cs k) i 0)) (at 0 (omega arith)) (at 1 (omega arith)) (at 2 (omega arith)) (at 3 (omega arith)) (at 4 (omega arith));
})
  where
    at : (i : ℕ) → i < 5 → Points quiet keys (get_or query i 0) (5 * later) (5 * n) (moved_on ws (5 * k + 5) (get_or cs i 0))
    at i j = point_moved quiet ws keys c (get_or query i 0) (a.small i j) (5 * n) a.room (5 * done) (get_or cs i 0) (a.points i j) (5 * k + 5) (5 * later) (omega arith) (omega arith)

-- entries may come at the end while the cursors go through the first n records
pub ahead_grown : (quiet : ℕ → Bool) (keys more query : List ℕ) (n done : ℕ) (cs : List ℕ) → Ahead quiet keys query n done cs → Ahead quiet (keys ++ more) query n done cs
ahead_grown quiet keys more query n done cs a = record { room = omega (arith, a.room, longer); small = a.small; points = at }
  where
    longer : length (keys ++ more) ≡ length keys + length more
    longer = length-append keys more

    at : (i : ℕ) → i < 5 → Points quiet (keys ++ more) (get_or query i 0) (5 * done) (5 * n) (get_or cs i 0)
    at i j =
        let p = a.points i j in
        record {
          low = omega (arith, p.low, longer);
          own = λ o. ((p.own o).0, get_or-append keys more 0 (get_or cs i 0 - 1) (omega (arith, p.low)) ∙ (p.own o).1);
          ahead = λ e f g s q m. p.ahead e f g s q (sym (get_or-append keys more 0 e (omega (arith, a.room))) ∙ m);
        }

-- a cursor is at the least record
least_there : (cs : List ℕ) (k : ℕ) → k ≡ least_of cs → k < 4096 → ((i : ℕ) → i < 5 → 0 < get_or cs i 0 → 5 * k + 5 < get_or cs i 0) → ⊥
unfolding least_of
least_there cs k e h all = omega (arith, (nearest_is cs).past (5 * k + 5) (omega arith) all)

-- a sum of five falls where none of them grows and not all stay
sum_falls : (a b c d e v w x y z : ℕ) → v ≤ a → w ≤ b → x ≤ c → y ≤ d → z ≤ e
    → ((v < a → ⊥) → (w < b → ⊥) → (x < c → ⊥) → (y < d → ⊥) → (z < e → ⊥) → ⊥) → v + w + x + y + z < a + b + c + d + e
sum_falls a b c d e v w x y z p q r s t f = go (dec_lt (v + w + x + y + z) (a + b + c + d + e))
  where
    go : Dec (v + w + x + y + z < a + b + c + d + e) → v + w + x + y + z < a + b + c + d + e
    go (yes h) = h
    go (no h) = absurd (f (λ l. h (omega arith)) (λ l. h (omega arith)) (λ l. h (omega arith)) (λ l. h (omega arith)) (λ l. h (omega arith)))

-- the measure falls
pub left_falls : (quiet : ℕ → Bool) (ws keys query : List ℕ) (n done k : ℕ) (cs ds : List ℕ) → Listed ws keys → Ahead quiet keys query n done cs → k ≡ least_of cs → k < n → ds ≡ passed_of ws cs k
    → left_all ds < left_all cs
unfolding passed_of left_all
left_falls quiet ws keys query n done k cs ds c a e h q =
    subst (λ (xs : List ℕ). left_all xs < left_all cs) (sym q)
    (sum_falls _ _ _ _ _ _ _ _ _ _ (at 0 (omega arith)).same (at 1 (omega arith)).same (at 2 (omega arith)).same (at 3 (omega arith)).same (at 4 (omega arith)).same
    (λ f0 f1 f2 f3 f4.
    least_there cs k e (omega (arith, a.room, c.few))
    (five (λ i. 0 < get_or cs i 0 → 5 * k + 5 < get_or cs i 0)
    (still 0 (omega arith) f0) (still 1 (omega arith) f1) (still 2 (omega arith) f2) (still 3 (omega arith) f3) (still 4 (omega arith) f4))))
  where
    at : (i : ℕ) → i < 5 → Falls (5 * k + 5) (get_or cs i 0) (moved_on ws (5 * k + 5) (get_or cs i 0))
    at i j = cursor_falls quiet ws keys c (get_or query i 0) (a.small i j) (5 * done) (5 * n) a.room (get_or cs i 0) (a.points i j) (5 * k + 5)

    still : (i : ℕ) → i < 5 → (left_of (moved_on ws (5 * k + 5) (get_or cs i 0)) < left_of (get_or cs i 0) → ⊥) → 0 < get_or cs i 0 → 5 * k + 5 < get_or cs i 0
    still i j f p = go (dec_lt (5 * k + 5) (get_or cs i 0))
      where
        go : Dec (5 * k + 5 < get_or cs i 0) → 5 * k + 5 < get_or cs i 0
        go (yes l) = l
        go (no l) = absurd (f ((at i j).less p (omega (arith, l))))

-- ---- cursors that skim over quiet records
-- those that are quiet may be told in another way
pub skims_by : (quiet hushed : ℕ → Bool) (ws : List ℕ) (n c r : ℕ) → ((k : ℕ) → k < n → quiet k ≡ hushed k) → Skims quiet ws n c r → Skims hushed ws n c r
skims_by quiet hushed ws n c r same (stays _ e) = stays r e
skims_by quiet hushed ws n c r same (goes _ d s p l q e) = goes r d (skims_by quiet hushed ws n c d same s) p l (sym (same ((d - 1) / 5) (omega arith)) ∙ q) e

-- cursors may stay where they are
pub skims_none : (quiet : ℕ → Bool) (ws : List ℕ) (n : ℕ) (cs : List ℕ) → SkimsAll quiet ws n cs cs
skims_none quiet ws n cs i l = stays _ refl

-- no entry is missed, and the cursor does not go back
record Skimmed (quiet : ℕ → Bool) (keys : List ℕ) (b from to c r : ℕ) : Type 0 where
  points : Points quiet keys b from to r
  same : left_of r ≤ left_of c

module _ (quiet : ℕ → Bool) (ws keys : List ℕ) (listed : Listed ws keys) (b : ℕ) (small : b ≤ 2048) (from to : ℕ) (room : to ≤ length keys) (n c : ℕ) (p : Points quiet keys b from to c) where
  skimmed : (r : ℕ) → Skims quiet ws n c r → Skimmed quiet keys b from to c r
  skimmed r (stays _ e) = subst (Skimmed quiet keys b from to c) (sym e) (record { points = p; same = omega arith })
  skimmed r (goes _ d s h l q e) =
      let o = skimmed d s in
      subst (Skimmed quiet keys b from to c) (sym e) (record {
        points = point_on quiet ws keys listed b small to room from d o.points h q;
        same = omega (arith, o.same, next_less quiet ws keys listed b small from to room d o.points 0 (λ z. omega arith));
      })

module _ (quiet : ℕ → Bool) (ws keys query : List ℕ) (n done : ℕ) (cs ds : List ℕ) (listed : Listed ws keys) (a : Ahead quiet keys query n done cs) (s : SkimsAll quiet ws n cs ds) where
  at : (i : ℕ) → i < 5 → Skimmed quiet keys (get_or query i 0) (5 * done) (5 * n) (get_or cs i 0) (get_or ds i 0)
  at i l = skimmed quiet ws keys listed (get_or query i 0) (a.small i l) (5 * done) (5 * n) a.room n (get_or cs i 0) (a.points i l) (get_or ds i 0) (s i l)

  pub ahead_skims : Ahead quiet keys query n done ds
  ahead_skims = record { room = a.room; small = a.small; points = λ i l. (at i l).points }

  pub left_skims : left_all ds ≤ left_all cs
  unfolding left_all
  left_skims = omega (arith, (at 0 (omega arith)).same, (at 1 (omega arith)).same, (at 2 (omega arith)).same, (at 3 (omega arith)).same, (at 4 (omega arith)).same)

-- ---- one cursor
pub alone_passed : (ws : List ℕ) (c k r : ℕ) → 0 < c → c ≤ 5 * k + 5 → r ≡ after_of ws c → alone r ≡ passed_of ws (alone c) k
unfolding passed_of moved_on
alone_passed ws c k r h l p = rw (p, ne_eqb c 0 (λ e. omega arith), le-ltb (5 * k + 5) c l)

-- it is at one record, and past the first n ones where it is at none of theirs
pub alone_least : (c : ℕ) → c ≢ 0 → c ≤ 20480 → (c - 1) / 5 ≡ least_of (alone c)
unfolding least_of nearest_of nearer
alone_least c z l = rw (ne_eqb c 0 z, lt-leb 20481 c (omega arith))

pub alone_past : (c n : ℕ) → n ≤ 4096 → (c ≢ 0 → 5 * n < c) → n ≤ least_of (alone c)
unfolding least_of
alone_past c n h p = omega (arith, (nearest_is (alone c)).past (5 * n) (omega arith) (five (λ i. 0 < get_or (alone c) i 0 → 5 * n < get_or (alone c) i 0) (λ o. p (λ e. omega arith)) (λ o. absurd (omega arith)) (λ o. absurd (omega arith)) (λ o. absurd (omega arith)) (λ o. absurd (omega arith))))

-- it goes on over one quiet record
pub alone_skims : (quiet : ℕ → Bool) (ws : List ℕ) (n c r : ℕ) → c ≢ 0 → c ≤ 5 * n → quiet ((c - 1) / 5) ≡ true → r ≡ after_of ws c → SkimsAll quiet ws n (alone c) (alone r)
alone_skims quiet ws n c r z l q e =
    five (λ i. Skims quiet ws n (get_or (alone c) i 0) (get_or (alone r) i 0)) (goes r c (stays c refl) (omega (arith, z)) l q e) (stays 0 refl) (stays 0 refl) (stays 0 refl) (stays 0 refl)
