-- Two maps merged in all eight places: only those of the rule's nodes and only the graph's nodes count.
use mathlib.Core.Path.{◌≡◌, refl, sym, ap, ap₂, ◌∙◌}
use mathlib.Core.Bool.{Bool, true, false, ◌&&◌, ◌||◌, not, and-false, false≢true}
use mathlib.Core.Logic.{◌⊎◌, inl, ⊎_elim}
use mathlib.Core.List.{List}
use Prim.Native.Nat.{ℕ, zero, suc, ◌+◌, ◌*◌, ◌≤◌, ◌<◌}
use native.Mathlib.Omega.{arith}
use native.Mathlib.Decide.{dec_lt}
use lib.ListN.{get_or}
use lib.Bits.{bit_xor, xor_shifted, xor_block, xor_zero_r, xor_comm}
use lib.Dec.{eqb, leb, ltb}
use borrow.Author.Tests.{le-leb, leb-true, not-true, not-false}
use Rattle.masks.specs.Masks.{member}
use Rattle.hrg.specs.Counts.{hit, occurs, tabulate}
use Rattle.hrg.specs.Grammars.{Graph}
use Rattle.hrg.specs.Trees.{unplaced, at, padded}
use Rattle.hrg.specs.Items.{either, or_else, joined, keep_if, is_open}
use Rattle.hrg.specs.WellFormedTest.{every, some}
use Rattle.hrg.specs.ClosureRun.{agree, one_to_one, covering}
use Rattle.hrg.proofs.Sums.{hit_ne, none_left, length_tabulate, at_tabulate, occurs_find}
use Rattle.hrg.proofs.Degrees.{test_T, T_test}
use Rattle.hrg.proofs.WellFormedTest.{every_false, decides_some}
use Rattle.places.specs.Words.{places_of}
use Rattle.places.proofs.Bytewise.{every_out, tests}
use Rattle.questions.proofs.StoredLaws.{get_d_tabulate}
use Rattle.joins.specs.Joins.{BareFrom, Into, Plain, open_by, loses_one, open_joined, lost_at, none_lost}
use Rattle.joins.proofs.EdgeMaps.{at_past, is_padded}
use Rattle.joins.proofs.Openness.{bool_same}
use Rattle.joins.proofs.MapLaws.{every_true, every_same, agree_at}

-- ---- places that have no node
occurs_bare : (v n k : ℕ) (F : ℕ → ℕ) → v < 64 → n ≤ k → ((x : ℕ) → n ≤ x → F x ≡ unplaced) → occurs v (tabulate k F) ≡ occurs v (tabulate n F)
unfolding occurs tabulate
occurs_bare v zero zero F h l b = refl
occurs_bare v zero (suc k) F h l b =
    omega (arith, hit_ne v 64 (λ e. omega arith), ap (hit v) (b 0 (omega arith)), occurs_bare v zero k (λ x. F (suc x)) h (omega arith) (λ x p. b (suc x) (omega arith)))
occurs_bare v (suc n) zero F h l b = absurd (omega arith)
occurs_bare v (suc n) (suc k) F h l b = ap (λ j. hit v (F 0) + j) (occurs_bare v n k (λ x. F (suc x)) h (omega arith) (λ x p. b (suc x) (omega arith)))

pub every_find : (n : ℕ) (t : ℕ → Bool) → every n t ≡ false → (i : ℕ) × (i < n) × (t i ≡ false)
unfolding every
every_find zero t h = absurd (false≢true (sym h))
every_find (suc n) t h = go (t 0) refl h (every_find n (λ i. t (suc i)))
  where
    go : (p : Bool) → t 0 ≡ p → (p && every n (λ i. t (suc i))) ≡ false → (every n (λ i. t (suc i)) ≡ false → (i : ℕ) × (i < n) × (t (suc i) ≡ false)) → (i : ℕ) × (i < suc n) × (t i ≡ false)
    go true e y ih = let z = ih y in (suc z.0, omega (arith, z.1), z.2)
    go false e y ih = (0, omega arith, e)

-- ---- xor 64
twice : (v : ℕ) → v ≤ 64 → bit_xor (bit_xor v 64) 64 ≡ v
twice v h = go (dec_lt v 64)
  where
    go : Dec (v < 64) → bit_xor (bit_xor v 64) 64 ≡ v
    go (yes d) =
        let e : bit_xor v 64 ≡ 1 * 64 + v = xor_comm v 64 ∙ xor_shifted 1 6 v d in
        let z : 0 * 64 + v ≡ v = omega arith in
        ap (λ u. bit_xor u 64) e ∙ xor_block 6 1 1 v 0 d (omega arith) ∙ ap (λ u. 0 * 64 + u) (xor_zero_r v) ∙ z
    go (no d) = let e : v ≡ 64 = omega arith in ap (λ u. bit_xor (bit_xor u 64) 64) e ∙ sym e

-- ---- maps
pub into_plain : (n : ℕ) (f : List ℕ) → n ≤ 64 → Into n f → Plain f
into_plain n f h into i = ⊎_elim (λ e. omega arith) (λ l. omega arith) (into i)

either_into : (n : ℕ) (t : Bool) (a b : ℕ) → (a ≡ unplaced) ⊎ (a < n) → (b ≡ unplaced) ⊎ (b < n) → (either t a b ≡ unplaced) ⊎ (either t a b < n)
either_into n true a b p q = q
either_into n false a b p q = p

kept_into : (n : ℕ) (t : Bool) (v : ℕ) → (v ≡ unplaced) ⊎ (v < n) → (keep_if t v ≡ unplaced) ⊎ (keep_if t v < n)
kept_into n true v p = p
kept_into n false v p = inl refl

module _ (n nodes : ℕ) (f k : List ℕ) (few : n ≤ 8) (small : nodes ≤ 64) (f_bare : BareFrom n f) (k_bare : BareFrom n k) (f_into : Into nodes f) (k_into : Into nodes k) where
  abbrev image_at : ℕ → ℕ
  image_at x = or_else (at f x) (at k x)

  image_into : (x : ℕ) → (image_at x ≡ unplaced) ⊎ (image_at x < nodes)
  image_into x = either_into nodes (eqb (at f x) unplaced) (at f x) (at k x) (f_into x) (k_into x)

  image_plain : (x : ℕ) → image_at x ≤ unplaced
  image_plain x = ⊎_elim (λ e. omega arith) (λ l. omega arith) (image_into x)

  image_bare : (x : ℕ) → n ≤ x → image_at x ≡ unplaced
  image_bare x l = ap₂ or_else (f_bare.past x l) (k_bare.past x l)

  -- ---- the tests
  pub agree_few : agree 8 f k ≡ agree n f k
  unfolding agree
  agree_few =
      bool_same (every 8 (agree_at f k)) (every n (agree_at f k))
      (λ p. every_true n (agree_at f k) (λ x l. every_out 8 (agree_at f k) p x (omega arith)))
      (λ p. every_true 8 (agree_at f k) (λ x l. go x (dec_lt x n) p))
    where
      go : (x : ℕ) → Dec (x < n) → every n (agree_at f k) ≡ true → agree_at f k x ≡ true
      go x (yes d) p = every_out n (agree_at f k) p x d
      go x (no d) p = ap (λ b. b || leb unplaced (at k x) || eqb (at f x) (at k x)) (le-leb unplaced (at f x) (omega (arith, f_bare.past x (omega arith))))

  pub once_few : one_to_one 64 (joined 8 f k) ≡ one_to_one nodes (joined n f k)
  unfolding one_to_one joined
  once_few =
      bool_same (every 64 wide) (every nodes narrow)
      (λ p. every_true nodes narrow (λ v l. le-leb (occurs v (tabulate n image_at)) 1 (omega (arith, same v (omega arith), leb-true (occurs v (tabulate 8 image_at)) 1 (every_out 64 wide p v (omega arith))))))
      (λ p. every_true 64 wide (λ v l. le-leb (occurs v (tabulate 8 image_at)) 1 (go v l (dec_lt v nodes) p)))
    where
      wide : ℕ → Bool
      wide v = leb (occurs v (tabulate 8 image_at)) 1

      narrow : ℕ → Bool
      narrow v = leb (occurs v (tabulate n image_at)) 1

      same : (v : ℕ) → v < 64 → occurs v (tabulate 8 image_at) ≡ occurs v (tabulate n image_at)
      same v l = occurs_bare v n 8 image_at l few image_bare

      absent : (v : ℕ) → v < 64 → nodes ≤ v → 0 < occurs v (tabulate 8 image_at) → ⊥
      absent v l d o =
          let (x, h, e) = occurs_find v (tabulate 8 image_at) o in
          let is : image_at x ≡ v = sym (at_tabulate 8 image_at x (omega (arith, h, length_tabulate 8 image_at))) ∙ e in
          ⊎_elim (λ p. omega (arith, l, is, p)) (λ p. omega (arith, d, is, p)) (image_into x)

      go : (v : ℕ) → v < 64 → Dec (v < nodes) → every nodes narrow ≡ true → occurs v (tabulate 8 image_at) ≤ 1
      go v l (yes d) p = omega (arith, same v l, leb-true (occurs v (tabulate n image_at)) 1 (every_out nodes narrow p v d))
      go v l (no d) p = omega (arith, none_left (occurs v (tabulate 8 image_at)) (absent v l (omega arith)))

  -- ---- what is kept
  module _ (stays : ℕ) where
    abbrev kept_at : ℕ → ℕ
    kept_at x = keep_if (member stays x) (image_at x)

    kept_bare : (x : ℕ) → n ≤ x → kept_at x ≡ unplaced
    kept_bare x l = go (member stays x)
      where
        go : (b : Bool) → keep_if b (image_at x) ≡ unplaced
        go true = image_bare x l
        go false = refl

    pub kept_padded : tabulate 8 kept_at ≡ padded (open_joined n stays f k)
    kept_padded = is_padded (tabulate 8 kept_at) (tabulate n kept_at) (length_tabulate 8 kept_at) (λ x h. at_tabulate 8 kept_at x h ∙ sym (go x (dec_lt x n)))
      where
        go : (x : ℕ) → Dec (x < n) → at (tabulate n kept_at) x ≡ kept_at x
        go x (yes d) = at_tabulate n kept_at x d
        go x (no d) = at_past (tabulate n kept_at) x (omega (arith, d, length_tabulate n kept_at)) ∙ sym (kept_bare x (omega arith))

    pub kept_in : Into nodes (tabulate 8 kept_at)
    kept_in x = go (dec_lt x 8)
      where
        go : Dec (x < 8) → (at (tabulate 8 kept_at) x ≡ unplaced) ⊎ (at (tabulate 8 kept_at) x < nodes)
        go (yes d) = rw (at_tabulate 8 kept_at x d) (kept_into nodes (member stays x) (image_at x) (image_into x))
        go (no d) = inl (at_past (tabulate 8 kept_at) x (omega (arith, d, length_tabulate 8 kept_at)))

    pub kept_covers : (H : Graph) (m : ℕ) → H.nodes ≤ 64 → covering H m (tabulate 8 kept_at) ≡ covering H m (open_joined n stays f k)
    unfolding covering
    kept_covers H m l =
        every_same H.nodes (λ v. not (is_open H m v) || ltb 0 (occurs v (tabulate 8 kept_at))) (λ v. not (is_open H m v) || ltb 0 (occurs v (tabulate n kept_at)))
        (λ v d. ap (λ o. not (is_open H m v) || ltb 0 o) (occurs_bare v n 8 kept_at (omega arith) few kept_bare))

    -- ---- what is dropped
    module _ (t : List ℕ) (m w : ℕ) (dropped : places_of w ≡ tabulate 8 (λ i. bit_xor (keep_if (not (member stays i)) (image_at i)) unplaced)) where
      open_kept : (b : Bool) (v : ℕ) → open_by t m (keep_if b v) ≡ (b && open_by t m v)
      unfolding open_by
      open_kept true v = refl
      open_kept false v = refl

      kept_plain : (b : Bool) (v : ℕ) → v ≤ unplaced → keep_if b v ≤ unplaced
      kept_plain true v h = h
      kept_plain false v h = omega arith

      lost_is : (i : ℕ) → i < 8 → open_by t m (bit_xor (get_or (places_of w) i 0) unplaced) ≡ lost_at stays t m f k i
      lost_is i l =
          let s = not (member stays i) in
          ap (open_by t m)
          (ap (λ (p : List ℕ). bit_xor (get_or p i 0) unplaced) dropped
          ∙ ap (λ v. bit_xor v unplaced) (get_d_tabulate 8 (λ i. bit_xor (keep_if (not (member stays i)) (image_at i)) unplaced) i 0 l)
          ∙ twice (keep_if s (image_at i)) (kept_plain s (image_at i) (image_plain i)))
          ∙ open_kept s (image_at i)

      pub loses_is : loses_one t m w ≡ not (none_lost n stays t m f k)
      unfolding loses_one none_lost
      loses_is = bool_same (some 8 opened) (not (every n keeps)) forth back
        where
          opened : ℕ → Bool
          opened i = open_by t m (bit_xor (get_or (places_of w) i 0) unplaced)

          keeps : ℕ → Bool
          keeps x = not (lost_at stays t m f k x)

          never : (i : ℕ) → n ≤ i → lost_at stays t m f k i ≡ false
          never i l = ap (λ b. not (member stays i) && b) (ap (open_by t m) (image_bare i l) ∙ open_kept false 0) ∙ and-false (not (member stays i))

          forth : some 8 opened ≡ true → not (every n keeps) ≡ true
          forth p =
              let (i, l, o) = (decides_some 8 (λ i. tests (opened i))).sound (test_T (some 8 opened) p) in
              let lost = sym (lost_is i l) ∙ o in
              ap not (sym (every_false n keeps i (inside i lost (dec_lt i n)) (ap not lost)))
            where
              inside : (i : ℕ) → lost_at stays t m f k i ≡ true → Dec (i < n) → i < n
              inside i p (yes d) = d
              inside i p (no d) = absurd (false≢true (sym (never i (omega arith)) ∙ p))

          back : not (every n keeps) ≡ true → some 8 opened ≡ true
          back p =
              let (i, l, o) = every_find n keeps (not-true (every n keeps) p) in
              let d : i < 8 = omega arith in
              T_test (some 8 opened) ((decides_some 8 (λ i. tests (opened i))).complete (i, d, lost_is i d ∙ not-false (lost_at stays t m f k i) o))
