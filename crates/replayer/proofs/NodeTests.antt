-- Tests place by place: every number below n passes, two lists are the same, and a list is filled in four places.
use mathlib.Core.Path.{◌≡◌, refl, sym, ap, ◌∙◌}
use mathlib.Core.Bool.{Bool, true, false, ◌&&◌, false≢true}
use mathlib.Core.List.{List, ◌∷◌, map}
use Prim.Native.Nat.{ℕ, zero, suc, ◌+◌, ◌-◌, ◌≤◌, ◌<◌}
use native.Mathlib.Omega.{arith}
use native.Mathlib.Decide.{dec_lt}
use lib.ListN.{length, get_or, set, take, drop, length-drop, replicate, length-set}
use lib.Seq.{get_or-set_same, get_or-set_other, get_or-take, get_or-drop, ext_get_or, length-take-le}
use lib.Dec.{eqb, ltb}
use borrow.Author.Tests.{lt-ltb, ltb-true}
use Rattle.std.proofs.Common.{◌↔◌, IsTrue}
use Rattle.hrg.specs.Counts.{tabulate}
use Rattle.hrg.specs.Trees.{unplaced, at}
use Rattle.hrg.specs.WellFormedTest.{every, each}
use Rattle.hrg.specs.ClosureRun.{same_list}
use Rattle.hrg.proofs.Sums.{length_tabulate, at_tabulate}
use Rattle.hrg.proofs.WellFormedTest.{every_false}
use Rattle.questions.proofs.WellFormedLists.{tabulate_list}
use Rattle.joins.proofs.MapLaws.{every_true}
use Rattle.joins.proofs.EdgeMaps.{at_past, at_none}
use Rattle.replayer.specs.Fitting.{four_of, node_in}

-- ---- every number below n passes
pub record PassedTo (t : ℕ → Bool) (k : ℕ) : Type 0 where
  pub each : (x : ℕ) → x < k → t x ≡ true

pub passed_none : (t : ℕ → Bool) → PassedTo t 0
passed_none t = record { each = λ x h. absurd (omega arith) }

pub passed_next : (t : ℕ → Bool) (k : ℕ) → t k ≡ true → PassedTo t k → PassedTo t (k + 1)
passed_next t k y before = record { each = λ x h. go x h (dec_lt x k) }
  where
    go : (x : ℕ) → x < k + 1 → Dec (x < k) → t x ≡ true
    go x h (yes d) = before.each x d
    go x h (no d) = let e : x ≡ k = omega arith in ap t e ∙ y

pub passed_all : (t : ℕ → Bool) (n k : ℕ) → n ≤ k → PassedTo t k → true ≡ every n t
passed_all t n k h all = sym (every_true n t (λ x l. all.each x (omega arith)))

pub every_at : (n : ℕ) (t : ℕ → Bool) → every n t ≡ true → (x : ℕ) → x < n → t x ≡ true
every_at n t h x l = go (t x) refl
  where
    go : (b : Bool) → t x ≡ b → b ≡ true
    go true e = refl
    go false e = absurd (false≢true (every_false n t x l e ∙ h))

-- a test of every number below n, by what it says
pub every_below : (n m : ℕ) (f : ℕ → ℕ) (b : Bool) → (IsTrue b ↔ ((k : ℕ) → k < n → f k < m)) → b ≡ every n (λ k. ltb (f k) m)
every_below n m f b h = go b (every n (λ k. ltb (f k) m)) refl h
  where
    go : (a t : Bool) → every n (λ k. ltb (f k) m) ≡ t → (IsTrue a ↔ ((k : ℕ) → k < n → f k < m)) → a ≡ t
    go true t e h = sym (every_true n (λ k. ltb (f k) m) (λ k l. lt-ltb (f k) m (h.0 refl k l))) ∙ e
    go false true e h = h.1 (λ k l. ltb-true (f k) m (every_at n (λ k. ltb (f k) m) e k l))
    go false false e h = refl

-- the same of the first n placed nodes of a row
pub every_place : (row : List ℕ) (n m : ℕ) (b : Bool) → 2 + n ≤ length row → (IsTrue b ↔ ((k : ℕ) → k < length (take (2 + n - 2) (drop 2 row)) → get_or (take (2 + n - 2) (drop 2 row)) k 0 < m)) → b ≡ every n (λ x. ltb (node_in row x) m)
every_place row n m b few h =
    let long : length (take (2 + n - 2) (drop 2 row)) ≡ n = length-take-le (2 + n - 2) (drop 2 row) (omega (arith, length-drop 2 row)) ∙ omega arith in
    let same : (k : ℕ) → k < n → get_or (take (2 + n - 2) (drop 2 row)) k 0 ≡ node_in row k =
    λ k l. get_or-take (2 + n - 2) (drop 2 row) k 0 (omega arith) ∙ get_or-drop 2 row k 0 in
    every_below n m (node_in row) b
    (λ y k l. omega (arith, same k l, h.0 y k (omega (arith, long))), λ all. h.1 (λ k l. omega (arith, long, same k (omega (arith, long)), all k (omega (arith, long)))))

-- ---- tabulated lists
pub each_tabulated : (n : ℕ) (f : ℕ → ℕ) (t : ℕ → Bool) → each (tabulate n f) t ≡ every n (λ x. t (f x))
unfolding each every tabulate
each_tabulated zero f t = refl
each_tabulated (suc n) f t = ap (λ b. t (f 0) && b) (each_tabulated n (λ x. f (suc x)) t)

pub same_tabulated : (n : ℕ) (f g : ℕ → ℕ) → same_list (tabulate n f) (tabulate n g) ≡ every n (λ k. eqb (f k) (g k))
unfolding same_list every tabulate
same_tabulated zero f g = refl
same_tabulated (suc n) f g = ap (λ b. eqb (f 0) (g 0) && b) (same_tabulated n (λ k. f (suc k)) (λ k. g (suc k)))

pub take_tabulated : (n : ℕ) (l : List ℕ) → n ≤ length l → take n l ≡ tabulate n (λ k. get_or l k 0)
take_tabulated n l h =
    sym (tabulate_list (take n l) n (λ k. get_or l k 0) (sym (length-take-le n l h)) (λ k b. sym (get_or-take n l k 0 b)))

pub map_tabulated : (n : ℕ) (t f : ℕ → ℕ) → map t (tabulate n f) ≡ tabulate n (λ k. t (f k))
unfolding tabulate
map_tabulated zero t f = refl
map_tabulated (suc n) t f = ap (λ (l : List ℕ). t (f 0) ∷ l) (map_tabulated n t (λ k. f (suc k)))

-- ---- four places, filled in order
pub record Placed (t : ℕ → ℕ) (k : ℕ) (l : List ℕ) : Type 0 where
  pub size : length l ≡ 4
  pub before : (x : ℕ) → x < k → at l x ≡ t x
  pub after : (x : ℕ) → k ≤ x → at l x ≡ unplaced

pub placed_none : (t : ℕ → ℕ) (l : List ℕ) → l ≡ replicate 4 unplaced → Placed t 0 l
placed_none t l e = record { size = ap length e; before = λ x h. absurd (omega arith); after = λ x h. ap (λ (l : List ℕ). at l x) e ∙ at_none 4 x }

pub placed_next : (t : ℕ → ℕ) (k v : ℕ) (l : List ℕ) → k < 4 → v ≡ t k → Placed t k l → Placed t (k + 1) (set l k v)
placed_next t k v l h e p = record {
  size = length-set l k v ∙ p.size;
  before = λ x b. go x b (dec_lt x k);
  after = λ x b. get_or-set_other l k x v unplaced (λ d. omega arith) ∙ p.after x (omega arith);
}
  where
    go : (x : ℕ) → x < k + 1 → Dec (x < k) → at (set l k v) x ≡ t x
    go x b (yes d) = get_or-set_other l k x v unplaced (λ s. omega arith) ∙ p.before x d
    go x b (no d) = let s : x ≡ k = omega arith in rw s (get_or-set_same l k v unplaced (omega (arith, p.size)) ∙ e)

pub placed_all : (t : ℕ → ℕ) (n k : ℕ) (l : List ℕ) → k ≤ n → n ≤ k → Placed t k l → l ≡ four_of (tabulate n t)
unfolding four_of
placed_all t n k l a b p =
    ext_get_or unplaced l (four_of (tabulate n t)) (p.size ∙ sym (length_tabulate 4 (λ x. at (tabulate n t) x)))
    (λ x h. go x (dec_lt x n) ∙ sym (at_tabulate 4 (λ x. at (tabulate n t) x) x (omega (arith, h, p.size))))
  where
    go : (x : ℕ) → Dec (x < n) → at l x ≡ at (tabulate n t) x
    go x (yes d) = p.before x (omega arith) ∙ sym (at_tabulate n t x d)
    go x (no d) = p.after x (omega arith) ∙ sym (at_past (tabulate n t) x (omega (arith, length_tabulate n t)))
