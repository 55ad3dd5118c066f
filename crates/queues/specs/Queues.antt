-- A set of numbers below 131072 in 4229 words: word 132 + i holds the numbers from 32 * i on as its bits, and the 132
-- words before those tell which words are not 0, each of 32 of them, so that the least number is found by three
-- words. The last word is a hint: of the lowest words those before word 132 + hint are 0, so that this word has the
-- least number where it is not 0.
use Rattle.std.specs.Prelude.{Option, Some, None, Bool, true, false, List, ◌≡◌, ℕ, ◌+◌, ◌-◌, ◌*◌, ◌/◌, ◌%◌, ◌≤◌, ◌<◌, min, ltb, length, get_or, set}
use Rattle.std.specs.Int.Bits.{bit_and}
use Rattle.masks.specs.Masks.{member, ◌∪◌, single}

-- bit q of the words from word a on
unfoldable pub bit_from : List ℕ → ℕ → ℕ → Bool
unfolding member
bit_from ws a q = member (get_or ws (a + q / 32) 0) (q % 32)

-- whether p is in the set
unfoldable pub holds : List ℕ → ℕ → Bool
unfolding bit_from
holds ws p = bit_from ws 132 p

-- the bit that stands for word 4 + q tells whether that word is not 0
abbrev pub Agrees : List ℕ → ℕ → Type 0
Agrees ws q = bit_from ws 0 q ≡ ltb 0 (get_or ws (4 + q) 0)

-- the hint is that of a lowest word, before which the lowest words are 0
pub record Hinted (ws : List ℕ) : Type 0 where
  pub within : get_or ws 4228 0 < 4096
  pub none : (i : ℕ) → i < get_or ws 4228 0 → get_or ws (132 + i) 0 ≡ 0

pub record Levels (ws : List ℕ) : Type 0 where
  pub size : length ws ≡ 4229
  pub agrees : (q : ℕ) → q < 4224 → Agrees ws q
  pub hinted : Hinted ws

-- bit k of word i is set, is cleared
unfoldable pub with_bit : List ℕ → ℕ → ℕ → List ℕ
unfolding ◌∪◌ single
with_bit ws i k = set ws i (get_or ws i 0 ∪ single k)

unfoldable pub without_bit : List ℕ → ℕ → ℕ → List ℕ
unfolding single
without_bit ws i k = set ws i (bit_and (get_or ws i 0) (4294967295 - single k))

-- the hint is a at most
unfoldable pub with_hint : List ℕ → ℕ → List ℕ
with_hint ws a = set ws 4228 (min a (get_or ws 4228 0))

-- the words new hold p too
pub record Inserted (ws : List ℕ) (p : ℕ) (new : List ℕ) : Type 0 where
  pub size : length new ≡ 4229
  pub levels : Levels ws → Levels new
  pub self : holds new p ≡ true
  pub others : (q : ℕ) → q < 131072 → (q ≡ p → ⊥) → holds new q ≡ holds ws q

-- the words new hold p no more
pub record Removed (ws : List ℕ) (p : ℕ) (new : List ℕ) : Type 0 where
  pub size : length new ≡ 4229
  pub levels : Levels ws → Levels new
  pub self : holds new p ≡ false
  pub others : (q : ℕ) → q < 131072 → (q ≡ p → ⊥) → holds new q ≡ holds ws q

-- p is the least number of the set
pub record Least (ws : List ℕ) (p : ℕ) : Type 0 where
  pub within : p < 131072
  pub here : holds ws p ≡ true
  pub none : (q : ℕ) → q < p → holds ws q ≡ false

-- .. and the words new hold it no more
pub record Left (ws : List ℕ) (p : ℕ) (new : List ℕ) : Type 0 where
  pub least : Least ws p
  pub removed : Removed ws p new

-- the set has no number
abbrev pub Empty : List ℕ → Type 0
Empty ws = (q : ℕ) → q < 131072 → holds ws q ≡ false

-- what was taken out is the least number of the set, or nothing where it has none
abbrev pub LeastTaken : List ℕ → Option ℕ → List ℕ → Type 0
LeastTaken ws (Some p) new = Left ws p new
LeastTaken ws None new = Empty ws × (new ≡ ws)

-- of the n words from word a on, word a + r is the first that is not 0, or r is n
pub record Started (ws : List ℕ) (a n r : ℕ) : Type 0 where
  pub most : r ≤ n
  pub here : r < n → 0 < get_or ws (a + r) 0
  pub none : (i : ℕ) → i < r → get_or ws (a + i) 0 ≡ 0

-- it is word a + r, or none
abbrev pub FirstOf : List ℕ → ℕ → ℕ → Option ℕ → Type 0
FirstOf ws a n (Some r) = (r < n) × Started ws a n r
FirstOf ws a n None = Started ws a n n

-- of the words from word a on, word a + m is the first that is not 0
pub record Reached (ws : List ℕ) (a m : ℕ) : Type 0 where
  pub here : 0 < get_or ws (a + m) 0
  pub none : (i : ℕ) → i < m → get_or ws (a + i) 0 ≡ 0

-- of the bits from word a on, bit r is the first that is set, and it is one of word a + m
pub record Stepped (ws : List ℕ) (a m r : ℕ) : Type 0 where
  pub least : 32 * m ≤ r
  pub most : r < 32 * m + 32
  pub here : bit_from ws a r ≡ true
  pub none : (q : ℕ) → q < r → bit_from ws a q ≡ false

-- words of the empty set
pub record Cleared (ws : List ℕ) : Type 0 where
  pub levels : Levels ws
  pub none : (p : ℕ) → holds ws p ≡ false
