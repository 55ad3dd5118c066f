-- The levels of words: what one bit and the hint change, and the way from the highest words to the least number.
use Prim.Native.Nat.{ℕ, zero, suc, ◌+◌, ◌-◌, ◌*◌, ◌/◌, ◌%◌, ◌^◌, ◌≤◌, ◌<◌, min}
use mathlib.Core.Path.{◌≡◌, refl, sym, ap, ap₂, ◌∙◌}
use mathlib.Core.Bool.{true, false}
use mathlib.Core.List.{List}
use native.Mathlib.Omega.{arith}
use native.Mathlib.Decide.{ℕ_discrete, dec_lt}
use lib.Bits.{bit_and, and_le_l}
use lib.Count.{count_trailing_zeros}
use lib.Dec.{ltb}
use lib.ListN.{length, get_or, set, length-set, get_or-eq_default}
use lib.Seq.{get_or-set_same, get_or-set_other}
use borrow.Author.Tests.{lt-ltb, ltb-true, ltb-false}
use Rattle.masks.specs.Masks.{member, ◌∪◌, single}
use Rattle.masks.proofs.Laws.{true_member, false_member}
use Rattle.queues.specs.Queues.{bit_from, holds, Agrees, Hinted, Levels, with_bit, without_bit, with_hint, Inserted, Removed, Left, Empty, Started, Reached, Stepped, Cleared}
use Rattle.queues.proofs.BitLaws.{First, first_bit, set_self, set_other, clear_self, clear_other, member_none, member_some}

-- ---- one word changes
-- the words new are ws but for word i
record Changed (ws : List ℕ) (i : ℕ) (new : List ℕ) : Type 0 where
  pub size : length new ≡ length ws
  pub words : (n : ℕ) → (n ≡ i → ⊥) → get_or new n 0 ≡ get_or ws n 0

raised : (ws : List ℕ) (i k : ℕ) → Changed ws i (with_bit ws i k)
unfolding with_bit
raised ws i k = record { size = length-set ws i _; words = λ n h. get_or-set_other ws i n _ 0 h }

lowered : (ws : List ℕ) (i k : ℕ) → Changed ws i (without_bit ws i k)
unfolding without_bit
lowered ws i k = record { size = length-set ws i _; words = λ n h. get_or-set_other ws i n _ 0 h }

-- a bit by its word
bit_of_lem : (ws : List ℕ) (a q i k : ℕ) → a + q / 32 ≡ i → q % 32 ≡ k → bit_from ws a q ≡ member (get_or ws i 0) k
unfolding bit_from
bit_of_lem ws a q i k x y = ap₂ (λ n e. member (get_or ws n 0) e) x y

-- the bits of a word that one bit is set in
raised_self : (ws : List ℕ) (a q i k : ℕ) → i < length ws → a + q / 32 ≡ i → q % 32 ≡ k → bit_from (with_bit ws i k) a q ≡ true
unfolding with_bit
raised_self ws a q i k l x y =
    bit_of_lem (with_bit ws i k) a q i k x y ∙ ap (λ w. member w k) (get_or-set_same ws i (get_or ws i 0 ∪ single k) 0 l) ∙ set_self (get_or ws i 0) k

raised_other : (ws : List ℕ) (a q i k : ℕ) → i < length ws → (a + q / 32 ≡ i → q % 32 ≡ k → ⊥) → bit_from (with_bit ws i k) a q ≡ bit_from ws a q
unfolding with_bit
raised_other ws a q i k l n = go (ℕ_discrete (a + q / 32) i)
  where
    go : Dec (a + q / 32 ≡ i) → bit_from (with_bit ws i k) a q ≡ bit_from ws a q
    go (yes x) =
        bit_of_lem (with_bit ws i k) a q i (q % 32) x refl ∙ ap (λ w. member w (q % 32)) (get_or-set_same ws i (get_or ws i 0 ∪ single k) 0 l) ∙ set_other (get_or ws i 0) k (q % 32) (n x) ∙ sym (bit_of_lem ws a q i (q % 32) x refl)
    go (no x) = bit_of_lem (with_bit ws i k) a q (a + q / 32) (q % 32) refl refl ∙ ap (λ w. member w (q % 32)) ((raised ws i k).words (a + q / 32) x) ∙ sym (bit_of_lem ws a q (a + q / 32) (q % 32) refl refl)

-- .. cleared in
lowered_self : (ws : List ℕ) (a q i k : ℕ) → i < length ws → k < 32 → a + q / 32 ≡ i → q % 32 ≡ k → bit_from (without_bit ws i k) a q ≡ false
unfolding without_bit
lowered_self ws a q i k l h x y =
    bit_of_lem (without_bit ws i k) a q i k x y ∙ ap (λ w. member w k) (get_or-set_same ws i (bit_and (get_or ws i 0) (4294967295 - single k)) 0 l) ∙ clear_self (get_or ws i 0) k h

lowered_other : (ws : List ℕ) (a q i k : ℕ) → i < length ws → k < 32 → (a + q / 32 ≡ i → q % 32 ≡ k → ⊥) → bit_from (without_bit ws i k) a q ≡ bit_from ws a q
unfolding without_bit
lowered_other ws a q i k l h n = go (ℕ_discrete (a + q / 32) i)
  where
    go : Dec (a + q / 32 ≡ i) → bit_from (without_bit ws i k) a q ≡ bit_from ws a q
    go (yes x) =
        bit_of_lem (without_bit ws i k) a q i (q % 32) x refl ∙ ap (λ w. member w (q % 32)) (get_or-set_same ws i (bit_and (get_or ws i 0) (4294967295 - single k)) 0 l) ∙ clear_other (get_or ws i 0) k (q % 32) h (omega arith) (n x) ∙ sym (bit_of_lem ws a q i (q % 32) x refl)
    go (no x) = bit_of_lem (without_bit ws i k) a q (a + q / 32) (q % 32) refl refl ∙ ap (λ w. member w (q % 32)) ((lowered ws i k).words (a + q / 32) x) ∙ sym (bit_of_lem ws a q (a + q / 32) (q % 32) refl refl)

-- ---- the hint stays right
-- a bit is set in no word before the one of the hint
hinted_raised : (ws : List ℕ) (i k : ℕ) → i < 4228 → ((j : ℕ) → j < get_or ws 4228 0 → 132 + j ≡ i → ⊥) → Hinted ws → Hinted (with_bit ws i k)
hinted_raised ws i k l d H =
    let same = (raised ws i k).words 4228 (λ q. omega arith) in
    record { within = omega (arith, H.within); none = λ j h. (raised ws i k).words (132 + j) (d j (omega arith)) ∙ H.none j (omega arith) }

-- a word that is 0 is 0 with a bit cleared
hinted_lowered : (ws : List ℕ) (i k : ℕ) → i < 4228 → i < length ws → Hinted ws → Hinted (without_bit ws i k)
unfolding without_bit
hinted_lowered ws i k l m H = record { within = omega (arith, same, H.within); none = λ j h. go j (omega (arith, same)) (ℕ_discrete (132 + j) i) }
  where
    same : get_or (without_bit ws i k) 4228 0 ≡ get_or ws 4228 0
    same = (lowered ws i k).words 4228 (λ q. omega arith)

    go : (j : ℕ) → j < get_or ws 4228 0 → Dec (132 + j ≡ i) → get_or (without_bit ws i k) (132 + j) 0 ≡ 0
    go j h (no x) = (lowered ws i k).words (132 + j) x ∙ H.none j h
    go j h (yes x) =
        let w : get_or (without_bit ws i k) i 0 ≡ bit_and (get_or ws i 0) (4294967295 - single k) = get_or-set_same ws i (bit_and (get_or ws i 0) (4294967295 - single k)) 0 m in
        let z : get_or ws i 0 ≡ 0 = ap (λ n. get_or ws n 0) (sym x) ∙ H.none j h in
        ap (λ n. get_or (without_bit ws i k) n 0) x ∙ omega (arith, w, z, and_le_l (get_or ws i 0) (4294967295 - single k))

-- ---- the words above follow
-- each bit tells its word right, but for the one of word n
pub record But (ws : List ℕ) (n : ℕ) : Type 0 where
  pub size : length ws ≡ 4229
  pub agrees : (q : ℕ) → q < 4224 → (4 + q ≡ n → ⊥) → Agrees ws q
  pub hinted : Hinted ws

-- no bit stands for one of the highest words
pub but_top : (ws : List ℕ) (n : ℕ) → n < 4 → But ws n → Levels ws
but_top ws n h B = record { size = B.size; agrees = λ q l. B.agrees q l (λ e. omega arith); hinted = B.hinted }

-- with no word to be put right
but_none : (ws : List ℕ) → Levels ws → But ws 0
but_none ws L = record { size = L.size; agrees = λ q b n. L.agrees q b; hinted = L.hinted }

-- what a bit tells stays right where neither it nor its word changes
agrees_by : (ws new : List ℕ) (i q : ℕ) → Changed ws i new → (4 + q ≡ i → ⊥) → bit_from new 0 q ≡ bit_from ws 0 q → Agrees ws q → Agrees new q
agrees_by ws new i q C n e A = e ∙ A ∙ ap (ltb 0) (sym (C.words (4 + q) n))

-- the lowest words are told by others
module _ (ws : List ℕ) (i k : ℕ) (l : i < 4228) (h : k < 32) (L : Levels ws) (low : 132 ≤ i) where
  pub raise_low : 132 + get_or ws 4228 0 ≤ i → But (with_bit ws i k) i
  raise_low t = record {
    size = (raised ws i k).size ∙ L.size;
    agrees = λ q b n. agrees_by ws (with_bit ws i k) i q (raised ws i k) n (raised_other ws 0 q i k (omega (arith, L.size)) (λ x y. omega arith)) (L.agrees q b);
    hinted = hinted_raised ws i k l (λ j b x. omega arith) L.hinted;
  }

  pub lower_low : But (without_bit ws i k) i
  lower_low = record {
    size = (lowered ws i k).size ∙ L.size;
    agrees = λ q b n. agrees_by ws (without_bit ws i k) i q (lowered ws i k) n (lowered_other ws 0 q i k (omega (arith, L.size)) h (λ x y. omega arith)) (L.agrees q b);
    hinted = hinted_lowered ws i k l (omega (arith, L.size)) L.hinted;
  }

-- the bit of word n is put right
module _ (ws : List ℕ) (n i k : ℕ) (h : k < 32) (B : But ws n) (e : n ≡ 4 + (32 * i + k)) (l : n < 4228) where
  inside : i < length ws
  inside = omega (arith, B.size)

  pub raise_next : 0 < get_or ws n 0 → But (with_bit ws i k) i
  raise_next some = record {
    size = (raised ws i k).size ∙ B.size;
    agrees = λ q b m. go q b m (ℕ_discrete (4 + q) n);
    hinted = hinted_raised ws i k (omega arith) (λ j b x. omega arith) B.hinted;
  }
    where
      go : (q : ℕ) → q < 4224 → (4 + q ≡ i → ⊥) → Dec (4 + q ≡ n) → Agrees (with_bit ws i k) q
      go q b m (yes x) = raised_self ws 0 q i k inside (omega arith) (omega arith) ∙ sym (ap (ltb 0) ((raised ws i k).words (4 + q) m ∙ ap (λ j. get_or ws j 0) x) ∙ lt-ltb 0 (get_or ws n 0) some)
      go q b m (no x) = agrees_by ws (with_bit ws i k) i q (raised ws i k) m (raised_other ws 0 q i k inside (λ y z. x (omega arith))) (B.agrees q b x)

  pub lower_next : get_or ws n 0 ≡ 0 → But (without_bit ws i k) i
  lower_next none = record {
    size = (lowered ws i k).size ∙ B.size;
    agrees = λ q b m. go q b m (ℕ_discrete (4 + q) n);
    hinted = hinted_lowered ws i k (omega arith) inside B.hinted;
  }
    where
      go : (q : ℕ) → q < 4224 → (4 + q ≡ i → ⊥) → Dec (4 + q ≡ n) → Agrees (without_bit ws i k) q
      go q b m (yes x) = lowered_self ws 0 q i k inside h (omega arith) (omega arith) ∙ sym (ap (ltb 0) ((lowered ws i k).words (4 + q) m ∙ ap (λ j. get_or ws j 0) x ∙ none))
      go q b m (no x) = agrees_by ws (without_bit ws i k) i q (lowered ws i k) m (lowered_other ws 0 q i k inside h (λ y z. x (omega arith))) (B.agrees q b x)

-- a word that a bit was cleared in was not 0 if it is not 0
pub lower_alive : (ws : List ℕ) (n i k : ℕ) → i < 4228 → k < 32 → But ws n → (4 ≤ i → i ≡ n → ⊥) → But (without_bit ws i k) i → 0 < get_or (without_bit ws i k) i 0 → Levels (without_bit ws i k)
unfolding without_bit
lower_alive ws n i k l h B d N some = record { size = N.size; agrees = λ q b. go q b (ℕ_discrete (4 + q) i); hinted = N.hinted }
  where
    go : (q : ℕ) → q < 4224 → Dec (4 + q ≡ i) → Agrees (without_bit ws i k) q
    go q b (no x) = N.agrees q b x
    go q b (yes x) =
        let w : get_or (without_bit ws i k) i 0 ≡ bit_and (get_or ws i 0) (4294967295 - single k) = get_or-set_same ws i (bit_and (get_or ws i 0) (4294967295 - single k)) 0 (omega (arith, B.size)) in
        let old : 0 < get_or ws i 0 = omega (arith, w, and_le_l (get_or ws i 0) (4294967295 - single k)) in
        lowered_other ws 0 q i k (omega (arith, B.size)) h (λ y z. omega arith) ∙ B.agrees q b (λ y. d (omega arith) (omega arith)) ∙ ap (λ j. ltb 0 (get_or ws j 0)) x ∙ lt-ltb 0 (get_or ws i 0) old
        ∙ sym (ap (λ j. ltb 0 (get_or (without_bit ws i k) j 0)) x ∙ lt-ltb 0 (get_or (without_bit ws i k) i 0) some)

-- a word that a bit was set in is not 0
raised_some : (ws : List ℕ) (i k : ℕ) → i < length ws → 0 < get_or (with_bit ws i k) i 0
unfolding with_bit
raised_some ws i k l = member_some _ k (ap (λ w. member w k) (get_or-set_same ws i (get_or ws i 0 ∪ single k) 0 l) ∙ set_self (get_or ws i 0) k)

-- a word that a bit is set in is told as before if it was not 0
raise_alive : (ws : List ℕ) (n i k : ℕ) → i < 4228 → But ws n → (4 ≤ i → i ≡ n → ⊥) → But (with_bit ws i k) i → 0 < get_or ws i 0 → Levels (with_bit ws i k)
raise_alive ws n i k l B d N old = record { size = N.size; agrees = λ q b. go q b (ℕ_discrete (4 + q) i); hinted = N.hinted }
  where
    go : (q : ℕ) → q < 4224 → Dec (4 + q ≡ i) → Agrees (with_bit ws i k) q
    go q b (no x) = N.agrees q b x
    go q b (yes x) =
        raised_other ws 0 q i k (omega (arith, B.size)) (λ y z. omega arith) ∙ B.agrees q b (λ y. d (omega arith) (omega arith)) ∙ ap (λ j. ltb 0 (get_or ws j 0)) x ∙ lt-ltb 0 (get_or ws i 0) old
        ∙ sym (ap (λ j. ltb 0 (get_or (with_bit ws i k) j 0)) x ∙ lt-ltb 0 (get_or (with_bit ws i k) i 0) (raised_some ws i k (omega (arith, B.size))))

-- ---- a number comes, into no word before the one of the hint
module _ (ws : List ℕ) (p a b : ℕ) (x : a ≡ p / 32) (y : b ≡ a / 32) (size : length ws ≡ 4229) (l : p < 131072) (t : get_or ws 4228 0 ≤ a) where
  low : List ℕ
  low = with_bit ws (132 + a) (p % 32)

  middle : List ℕ
  middle = with_bit (with_bit ws (132 + a) (p % 32)) (4 + b) (a % 32)

  high : List ℕ
  high = with_bit (with_bit (with_bit ws (132 + a) (p % 32)) (4 + b) (a % 32)) (b / 32) (b % 32)

  low_size : length low ≡ 4229
  unfolding low
  low_size = (raised ws (132 + a) (p % 32)).size ∙ size

  middle_size : length middle ≡ 4229
  unfolding middle low
  middle_size = (raised low (4 + b) (a % 32)).size ∙ low_size

  low_but : Levels ws → But low (132 + a)
  unfolding low
  low_but L = raise_low ws (132 + a) (p % 32) (omega arith) (omega arith) L (omega arith) (omega arith)

  middle_but : Levels ws → But middle (4 + b)
  unfolding middle low
  middle_but L = raise_next low (132 + a) (4 + b) (a % 32) (omega arith) (low_but L) (omega arith) (omega arith) (raised_some ws (132 + a) (p % 32) (omega arith))

  high_levels : Levels ws → Levels high
  unfolding high middle low
  high_levels L =
      but_top high (b / 32) (omega arith) (raise_next middle (4 + b) (b / 32) (b % 32) (omega arith) (middle_but L) (omega arith) (omega arith) (raised_some low (4 + b) (a % 32) (omega (arith, low_size))))

  -- the words above hold no numbers
  low_self : holds low p ≡ true
  unfolding low holds
  low_self = raised_self ws 132 p (132 + a) (p % 32) (omega arith) (omega arith) refl

  low_others : (q : ℕ) → (q ≡ p → ⊥) → holds low q ≡ holds ws q
  unfolding low holds
  low_others q n = raised_other ws 132 q (132 + a) (p % 32) (omega arith) (λ s t. n (omega arith))

  middle_holds : (q : ℕ) → holds middle q ≡ holds low q
  unfolding middle low holds
  middle_holds q = raised_other low 132 q (4 + b) (a % 32) (omega (arith, low_size)) (λ m n. omega arith)

  high_holds : (q : ℕ) → holds high q ≡ holds middle q
  unfolding high middle low holds
  high_holds q = raised_other middle 132 q (b / 32) (b % 32) (omega (arith, middle_size)) (λ m n. omega arith)

  -- the lowest word was not 0
  inserted_low : 0 < get_or ws (132 + a) 0 → Inserted ws p (with_bit ws (132 + a) (p % 32))
  unfolding low
  inserted_low some = record {
    size = low_size;
    levels = λ L. raise_alive ws 0 (132 + a) (p % 32) (omega arith) (but_none ws L) (λ m n. omega arith) (low_but L) some;
    self = low_self;
    others = λ q m. low_others q;
  }

  -- the one above it was not 0
  inserted_middle : 0 < get_or (with_bit ws (132 + a) (p % 32)) (4 + b) 0 → Inserted ws p (with_bit (with_bit ws (132 + a) (p % 32)) (4 + b) (a % 32))
  unfolding middle low
  inserted_middle some = record {
    size = middle_size;
    levels = λ L. raise_alive low (132 + a) (4 + b) (a % 32) (omega arith) (low_but L) (λ m n. omega arith) (middle_but L) some;
    self = middle_holds p ∙ low_self;
    others = λ q m n. middle_holds q ∙ low_others q n;
  }

  inserted_high : Inserted ws p (with_bit (with_bit (with_bit ws (132 + a) (p % 32)) (4 + b) (a % 32)) (b / 32) (b % 32))
  unfolding high middle low
  inserted_high = record {
    size = (raised middle (b / 32) (b % 32)).size ∙ middle_size;
    levels = high_levels;
    self = high_holds p ∙ middle_holds p ∙ low_self;
    others = λ q m n. high_holds q ∙ middle_holds q ∙ low_others q n;
  }

-- ---- a number goes
module _ (ws : List ℕ) (p a b : ℕ) (x : a ≡ p / 32) (y : b ≡ a / 32) (size : length ws ≡ 4229) (l : p < 131072) where
  less : List ℕ
  less = without_bit ws (132 + a) (p % 32)

  lesser : List ℕ
  lesser = without_bit (without_bit ws (132 + a) (p % 32)) (4 + b) (a % 32)

  less_size : length less ≡ 4229
  unfolding less
  less_size = (lowered ws (132 + a) (p % 32)).size ∙ size

  lesser_size : length lesser ≡ 4229
  unfolding lesser less
  lesser_size = (lowered less (4 + b) (a % 32)).size ∙ less_size

  less_but : Levels ws → But less (132 + a)
  unfolding less
  less_but L = lower_low ws (132 + a) (p % 32) (omega arith) (omega arith) L (omega arith)

  less_self : holds less p ≡ false
  unfolding less holds
  less_self = lowered_self ws 132 p (132 + a) (p % 32) (omega arith) (omega arith) (omega arith) refl

  less_others : (q : ℕ) → (q ≡ p → ⊥) → holds less q ≡ holds ws q
  unfolding less holds
  less_others q n = lowered_other ws 132 q (132 + a) (p % 32) (omega arith) (omega arith) (λ s t. n (omega arith))

  lesser_holds : (q : ℕ) → holds lesser q ≡ holds less q
  unfolding lesser less holds
  lesser_holds q = lowered_other less 132 q (4 + b) (a % 32) (omega (arith, less_size)) (omega arith) (λ m n. omega arith)

  least_holds : (q : ℕ) → holds (without_bit lesser (b / 32) (b % 32)) q ≡ holds lesser q
  unfolding lesser less holds
  least_holds q = lowered_other lesser 132 q (b / 32) (b % 32) (omega (arith, lesser_size)) (omega arith) (λ m n. omega arith)

  pub removed_low : 0 < get_or (without_bit ws (132 + a) (p % 32)) (132 + a) 0 → Removed ws p (without_bit ws (132 + a) (p % 32))
  unfolding less
  removed_low some = record {
    size = less_size;
    levels = λ L. lower_alive ws 0 (132 + a) (p % 32) (omega arith) (omega arith) (but_none ws L) (λ m n. omega arith) (less_but L) some;
    self = less_self;
    others = λ q m. less_others q;
  }

  -- the lowest word is 0 now
  module _ (none : get_or (without_bit ws (132 + a) (p % 32)) (132 + a) 0 ≡ 0) where
    lesser_but : Levels ws → But lesser (4 + b)
    unfolding lesser less
    lesser_but L = lower_next less (132 + a) (4 + b) (a % 32) (omega arith) (less_but L) (omega arith) (omega arith) none

    pub removed_middle : 0 < get_or (without_bit (without_bit ws (132 + a) (p % 32)) (4 + b) (a % 32)) (4 + b) 0 → Removed ws p (without_bit (without_bit ws (132 + a) (p % 32)) (4 + b) (a % 32))
    unfolding lesser less
    removed_middle some = record {
      size = lesser_size;
      levels = λ L. lower_alive less (132 + a) (4 + b) (a % 32) (omega arith) (omega arith) (less_but L) (λ m n. omega arith) (lesser_but L) some;
      self = lesser_holds p ∙ less_self;
      others = λ q m n. lesser_holds q ∙ less_others q n;
    }

    pub removed_high : get_or (without_bit (without_bit ws (132 + a) (p % 32)) (4 + b) (a % 32)) (4 + b) 0 ≡ 0
        → Removed ws p (without_bit (without_bit (without_bit ws (132 + a) (p % 32)) (4 + b) (a % 32)) (b / 32) (b % 32))
    unfolding lesser less
    removed_high gone = record {
      size = (lowered lesser (b / 32) (b % 32)).size ∙ lesser_size;
      levels = λ L. but_top _ (b / 32) (omega arith) (lower_next lesser (4 + b) (b / 32) (b % 32) (omega arith) (lesser_but L) (omega arith) (omega arith) gone);
      self = least_holds p ∙ lesser_holds p ∙ less_self;
      others = λ q m n. least_holds q ∙ lesser_holds q ∙ less_others q n;
    }

-- ---- the way to the least number
-- the first bit of a word that is not 0 is the first of all
pub stepped : (ws : List ℕ) (a m : ℕ) → Reached ws a m → get_or ws (a + m) 0 < 2 ^ 32 → Stepped ws a m (32 * m + count_trailing_zeros 32 (get_or ws (a + m) 0))
stepped ws a m R fits = record {
  least = omega arith;
  most = omega (arith, F.within);
  here = bit_of_lem ws a _ (a + m) (count_trailing_zeros 32 (get_or ws (a + m) 0)) (omega (arith, F.within)) (omega (arith, F.within)) ∙ true_member (get_or ws (a + m) 0) (count_trailing_zeros 32 (get_or ws (a + m) 0)) F.here;
  none = λ q h. go q h (dec_lt (q / 32) m);
}
  where
    F : First 32 (get_or ws (a + m) 0) (count_trailing_zeros 32 (get_or ws (a + m) 0))
    F = first_bit 32 (get_or ws (a + m) 0) R.here fits

    go : (q : ℕ) → q < 32 * m + count_trailing_zeros 32 (get_or ws (a + m) 0) → Dec (q / 32 < m) → bit_from ws a q ≡ false
    go q h (yes l) = bit_of_lem ws a q (a + q / 32) (q % 32) refl refl ∙ ap (λ w. member w (q % 32)) (R.none (q / 32) l) ∙ member_none (q % 32)
    go q h (no l) = bit_of_lem ws a q (a + m) (q % 32) (omega (arith, F.within)) refl ∙ false_member (get_or ws (a + m) 0) (q % 32) (F.none (q % 32) (omega (arith, F.within)))

-- the word that it stands for is the first of its level
pub reached_next : (ws : List ℕ) (a m r : ℕ) → Levels ws → 32 * a + 32 * m + 32 ≤ 4224 → Stepped ws a m r → Reached ws (4 + 32 * a) r
reached_next ws a m r L l S = record {
  here = rw (plus r) (ltb-true 0 _ (sym (told r (omega (arith, S.most))) ∙ S.here));
  none = λ i h. rw (plus i) (let z = ltb-false 0 (get_or ws (4 + (32 * a + i)) 0) (sym (told i (omega (arith, S.most))) ∙ S.none i h) in omega arith);
}
  where
    plus : (i : ℕ) → 4 + 32 * a + i ≡ 4 + (32 * a + i)
    plus i = omega arith

    told : (q : ℕ) → 32 * a + q < 4224 → bit_from ws a q ≡ ltb 0 (get_or ws (4 + (32 * a + q)) 0)
    told q h = bit_of_lem ws a q (a + q / 32) (q % 32) refl refl ∙ sym (bit_of_lem ws 0 (32 * a + q) (a + q / 32) (q % 32) (omega arith) (omega arith)) ∙ L.agrees (32 * a + q) h

-- the first word that is not 0
pub started_reached : (ws : List ℕ) (a n r : ℕ) → Started ws a n r → (r ≡ n → ⊥) → Reached ws a r
started_reached ws a n r S d = record { here = S.here (omega (arith, S.most)); none = S.none }

pub reached_started : (ws : List ℕ) (a n r : ℕ) → r < n → Reached ws a r → Started ws a n r
reached_started ws a n r l R = record { most = omega arith; here = λ h. R.here; none = R.none }

-- the first bit of the lowest words is the least number
pub stepped_left : (ws new : List ℕ) (k r : ℕ) → k < 4096 → Stepped ws 132 k r → Removed ws r new → Left ws r new
unfolding holds
stepped_left ws new k r h S R = record { least = record { within = omega (arith, S.most); here = S.here; none = S.none }; removed = R }

-- ---- no number
pub zero_levels : (ws : List ℕ) → length ws ≡ 4229 → ((n : ℕ) → n < 4229 → get_or ws n 0 ≡ 0) → Cleared ws
unfolding holds
zero_levels ws size z = record {
  levels = record {
    size = size;
    agrees = λ q l. none 0 q (z (0 + q / 32) (omega arith)) ∙ sym (ap (ltb 0) (z (4 + q) (omega arith)));
    hinted = record { within = omega (arith, z 4228 (omega arith)); none = λ i h. absurd (omega (arith, z 4228 (omega arith))) };
  };
  none = λ p. none 132 p (all (132 + p / 32) (dec_lt (132 + p / 32) 4229));
}
  where
    none : (a q : ℕ) → get_or ws (a + q / 32) 0 ≡ 0 → bit_from ws a q ≡ false
    none a q h = bit_of_lem ws a q (a + q / 32) (q % 32) refl refl ∙ ap (λ w. member w (q % 32)) h ∙ member_none (q % 32)

    all : (n : ℕ) → Dec (n < 4229) → get_or ws n 0 ≡ 0
    all n (yes h) = z n h
    all n (no h) = get_or-eq_default ws 0 (omega arith)

-- no highest word tells of one that is not 0
pub started_none : (ws : List ℕ) (r : ℕ) → Levels ws → Started ws 0 4 r → r ≡ 4 → Started ws 132 4096 4096
started_none ws r L S e = record { most = omega arith; here = λ h. absurd (omega arith); none = lowest }
  where
    none : (q : ℕ) → get_or ws (0 + q / 32) 0 ≡ 0 → bit_from ws 0 q ≡ false
    none q h = bit_of_lem ws 0 q (0 + q / 32) (q % 32) refl refl ∙ ap (λ w. member w (q % 32)) h ∙ member_none (q % 32)

    below : (q : ℕ) → q < 4224 → get_or ws (0 + q / 32) 0 ≡ 0 → get_or ws (4 + q) 0 ≡ 0
    below q l h = let z = ltb-false 0 (get_or ws (4 + q) 0) (sym (L.agrees q l) ∙ none q h) in omega arith

    middle : (m : ℕ) → m < 128 → get_or ws (4 + m) 0 ≡ 0
    middle m h = below m (omega arith) (S.none (m / 32) (omega arith))

    lowest : (m : ℕ) → m < 4096 → get_or ws (132 + m) 0 ≡ 0
    lowest m h = ap (λ n. get_or ws n 0) (omega arith) ∙ below (128 + m) (omega arith) (ap (λ n. get_or ws n 0) (omega arith) ∙ middle (m / 32) (omega arith))

-- no lowest word has a number
pub started_empty : (ws : List ℕ) (r : ℕ) → Started ws 132 4096 r → r ≡ 4096 → Empty ws
unfolding holds
started_empty ws r S e q l = bit_of_lem ws 132 q (132 + q / 32) (q % 32) refl refl ∙ ap (λ w. member w (q % 32)) (S.none (q / 32) (omega arith)) ∙ member_none (q % 32)

-- ---- another hint
module _ (ws : List ℕ) (k : ℕ) (size : length ws ≡ 4229) where
  hinting : get_or (set ws 4228 k) 4228 0 ≡ k
  hinting = get_or-set_same ws 4228 k 0 (omega arith)

  -- the other words
  beside : (n : ℕ) → (n ≡ 4228 → ⊥) → get_or (set ws 4228 k) n 0 ≡ get_or ws n 0
  beside n d = get_or-set_other ws 4228 n k 0 d

  bits_beside : (a q : ℕ) → (a + q / 32 ≡ 4228 → ⊥) → bit_from (set ws 4228 k) a q ≡ bit_from ws a q
  bits_beside a q d = bit_of_lem (set ws 4228 k) a q (a + q / 32) (q % 32) refl refl ∙ ap (λ w. member w (q % 32)) (beside (a + q / 32) d) ∙ sym (bit_of_lem ws a q (a + q / 32) (q % 32) refl refl)

  holds_beside : (q : ℕ) → q < 131072 → holds (set ws 4228 k) q ≡ holds ws q
  unfolding holds
  holds_beside q l = bits_beside 132 q (λ e. omega arith)

  levels_beside : k < 4096 → ((i : ℕ) → i < k → get_or ws (132 + i) 0 ≡ 0) → Levels ws → Levels (set ws 4228 k)
  levels_beside h z L = record {
    size = length-set ws 4228 k ∙ size;
    agrees = λ q b. bits_beside 0 q (λ e. omega arith) ∙ L.agrees q b ∙ ap (ltb 0) (sym (beside (4 + q) (λ e. omega arith)));
    hinted = record { within = omega (arith, hinting); none = λ i b. beside (132 + i) (λ e. omega (arith, hinting)) ∙ z i (omega (arith, hinting)) };
  }

  -- .. at the first word that is not 0, from which the least number leaves
  module _ (S : Started ws 132 4096 k) (d : k ≡ 4096 → ⊥) where
    below : k < 4096
    below = omega (arith, S.most)

    pub hint_found : (length (set ws 4228 k) ≡ 4229) × (k < 4096) × Reached (set ws 4228 k) 132 k
    hint_found =
        (length-set ws 4228 k ∙ size, below, record { here = rw (beside (132 + k) (λ e. omega (arith, below))) (S.here below); none = λ i b. beside (132 + i) (λ e. omega (arith, below)) ∙ S.none i b })

    pub left_hinted : (p : ℕ) (new : List ℕ) → Left (set ws 4228 k) p new → Left ws p new
    left_hinted p new G =
        let l = G.least.within in
        record {
          least = record { within = l; here = sym (holds_beside p l) ∙ G.least.here; none = λ q b. sym (holds_beside q (omega arith)) ∙ G.least.none q b };
          removed = record {
            size = G.removed.size;
            levels = λ L. G.removed.levels (levels_beside below S.none L);
            self = G.removed.self;
            others = λ q b n. G.removed.others q b n ∙ holds_beside q b;
          };
        }

-- ---- the functions' words one after another
-- a number comes, with the hint at most that of its word
module _ (ws : List ℕ) (p a b : ℕ) (x : a ≡ p / 32) (y : b ≡ a / 32) (size : length ws ≡ 4229) (l : p < 131072) (t : List ℕ) (h : t ≡ with_hint ws a) where
  hint_told : t ≡ set ws 4228 (min a (get_or ws 4228 0))
  unfolding with_hint
  hint_told = h

  hint_size : length t ≡ 4229
  hint_size = ap length hint_told ∙ length-set ws 4228 _ ∙ size

  hint_most : get_or t 4228 0 ≤ a
  hint_most = omega (arith, ap (λ (w : List ℕ). get_or w 4228 0) hint_told, hinting ws (min a (get_or ws 4228 0)) size)

  inserted_hinted : (new : List ℕ) → Inserted t p new → Inserted ws p new
  inserted_hinted new I = record {
    size = I.size;
    levels = λ L. I.levels (rw hint_told (levels_beside ws (min a (get_or ws 4228 0)) size (omega arith) (λ i m. L.hinted.none i (omega arith)) L));
    self = I.self;
    others = λ q m n. I.others q m n ∙ ap (λ (w : List ℕ). holds w q) hint_told ∙ holds_beside ws (min a (get_or ws 4228 0)) size q m;
  }

  pub inserted_by_low : (u : List ℕ) (r : ℕ) → u ≡ with_bit t (132 + a) (p % 32) → r ≡ get_or t (132 + a) 0 → (r ≡ 0 → ⊥) → Inserted ws p u
  inserted_by_low u r e q n = rw e (inserted_hinted _ (inserted_low t p a b x y hint_size l hint_most (omega arith)))

  pub inserted_by_middle : (u v : List ℕ) (s : ℕ) → u ≡ with_bit t (132 + a) (p % 32) → v ≡ with_bit u (4 + b) (a % 32) → s ≡ get_or u (4 + b) 0 → (s ≡ 0 → ⊥) → Inserted ws p v
  inserted_by_middle u v s e f g n =
      rw (f, e) (inserted_hinted _ (inserted_middle t p a b x y hint_size l hint_most (let z : s ≡ get_or (with_bit t (132 + a) (p % 32)) (4 + b) 0 = g ∙ ap (λ w. get_or w (4 + b) 0) e in omega arith)))

  pub inserted_by_high : (u v w : List ℕ) → u ≡ with_bit t (132 + a) (p % 32) → v ≡ with_bit u (4 + b) (a % 32) → w ≡ with_bit v (b / 32) (b % 32) → Inserted ws p w
  inserted_by_high u v w e f g = rw (g, f, e) (inserted_hinted _ (inserted_high t p a b x y hint_size l hint_most))

-- a number goes
module _ (ws : List ℕ) (p a b : ℕ) (x : a ≡ p / 32) (y : b ≡ a / 32) (size : length ws ≡ 4229) (l : p < 131072) where
  pub removed_by_low : (u : List ℕ) (r : ℕ) → u ≡ without_bit ws (132 + a) (p % 32) → r ≡ get_or u (132 + a) 0 → (r ≡ 0 → ⊥) → Removed ws p u
  removed_by_low u r e q n = rw e (removed_low ws p a b x y size l (let z : r ≡ get_or (without_bit ws (132 + a) (p % 32)) (132 + a) 0 = q ∙ ap (λ v. get_or v (132 + a) 0) e in omega arith))

  module _ (u v : List ℕ) (r s : ℕ) (e : u ≡ without_bit ws (132 + a) (p % 32)) (q : r ≡ get_or u (132 + a) 0) (z : r ≡ 0) (f : v ≡ without_bit u (4 + b) (a % 32)) (t : s ≡ get_or v (4 + b) 0) where
    second : v ≡ without_bit (without_bit ws (132 + a) (p % 32)) (4 + b) (a % 32)
    second = f ∙ ap (λ w. without_bit w (4 + b) (a % 32)) e

    gone : get_or (without_bit ws (132 + a) (p % 32)) (132 + a) 0 ≡ 0
    gone = sym (q ∙ ap (λ w. get_or w (132 + a) 0) e) ∙ z

    word : s ≡ get_or (without_bit (without_bit ws (132 + a) (p % 32)) (4 + b) (a % 32)) (4 + b) 0
    word = t ∙ ap (λ w. get_or w (4 + b) 0) second

    pub removed_by_middle : (s ≡ 0 → ⊥) → Removed ws p v
    removed_by_middle n = rw second (removed_middle ws p a b x y size l gone (omega (arith, word)))

    pub removed_by_high : (w : List ℕ) → s ≡ 0 → w ≡ without_bit v (b / 32) (b % 32) → Removed ws p w
    removed_by_high w n g = rw (g, second) (removed_high ws p a b x y size l gone (sym word ∙ n))

-- the first word of four that is not 0
pub started_at : (r : ℕ) (ws : List ℕ) → r ≤ 4 → (r < 4 → 0 < get_or ws r 0) → (0 < r → get_or ws 0 0 ≡ 0) → (1 < r → get_or ws 1 0 ≡ 0) → (2 < r → get_or ws 2 0 ≡ 0) → (3 < r → get_or ws 3 0 ≡ 0) → Started ws 0 4 r
started_at r ws m h a b c d = record { most = m; here = λ l. rw (nil r) (h l); none = λ i l. rw (nil i) (go i l) }
  where
    nil : (n : ℕ) → 0 + n ≡ n
    nil n = omega arith

    go : (i : ℕ) → i < r → get_or ws i 0 ≡ 0
    go zero l = a l
    go (suc zero) l = b l
    go (suc (suc zero)) l = c l
    go (suc (suc (suc zero))) l = d l
    go (suc (suc (suc (suc i)))) l = absurd (omega arith)

-- one word more is 0
pub zeros_more : (ws : List ℕ) (i : ℕ) → i < length ws → ((n : ℕ) → n < i → get_or ws n 0 ≡ 0) → (n : ℕ) → n < i + 1 → get_or (set ws i 0) n 0 ≡ 0
zeros_more ws i l z n h = go (ℕ_discrete n i)
  where
    go : Dec (n ≡ i) → get_or (set ws i 0) n 0 ≡ 0
    go (yes e) = rw e (get_or-set_same ws i 0 0 l)
    go (no e) = get_or-set_other ws i n 0 0 e ∙ z n (omega arith)
