-- The agenda of a deduction system: entries wait, and each step handles one of least count.
use Rattle.std.specs.Prelude.{◌≡◌, ◌⊎◌, ℕ, suc, ◌+◌, ◌≤◌}
use mathlib.Core.List.{List, [], ◌∷◌, ◌++◌, map, Memᴰ as In}
use Rattle.hrg.specs.Deduction.{System, Reachable}

-- How an entry was made: the derivation that the agenda recorded for it.
pub data Derivation (Item : Type 0) : Type 0 where
  given : (item : Item) → Derivation Item
  from : (item : Item) → Derivation Item → Derivation Item
  from₂ : (item : Item) → Derivation Item → Derivation Item → Derivation Item

pub record Entry (Item : Type 0) : Type 0 where
  pub item : Item
  pub count : ℕ
  pub how : Derivation Item

-- The handled entries, the last one first, and those that wait.
pub record State (Item : Type 0) : Type 0 where
  pub handled : List (Entry Item)
  pub waiting : List (Entry Item)

-- No item comes twice.
pub data Distinct {Item : Type 0} : List Item → Type 0 where
  none : Distinct []
  more : {i : Item} {is : List Item} → (In i is → ⊥) → Distinct is → Distinct (i ∷ is)

abbrev pub items_of : {Item : Type 0} → List (Entry Item) → List Item
items_of {Item} es = map (λ (e : Entry Item). e.item) es

-- What one rule makes of the entries hs.
pub data Made {Item : Type 0} (S : System Item) (hs : List (Entry Item)) : Entry Item → Type 0 where
  axiom_made : {i : Item} → S.Axiom i → Made S hs (record { item = i; count = 0; how = given i })
  unary_made : {a : Entry Item} {k : ℕ} {i : Item} → In a hs → S.Unary a.item k i
      → Made S hs (record { item = i; count = a.count + k; how = from i a.how })
  binary_made : {a b : Entry Item} {i : Item} → In a hs → In b hs → S.Binary a.item b.item i
      → Made S hs (record { item = i; count = a.count + b.count; how = from₂ i a.how b.how })

-- The entries es have item i, with count n or less.
pub record Has {Item : Type 0} (es : List (Entry Item)) (i : Item) (n : ℕ) : Type 0 where
  pub entry : Entry Item
  pub inside : In entry es
  pub item : entry.item ≡ i
  pub count : entry.count ≤ n

-- At the start the axioms wait (01: start 'makes the leaf items present').
pub record Start {Item : Type 0} (S : System Item) (s : State Item) : Type 0 where
  pub handled : s.handled ≡ []
  pub origin : (e : Entry Item) → In e s.waiting → Made S [] e
  pub present : (e : Entry Item) → Made S [] e → Has s.waiting e.item e.count
  pub distinct : Distinct (items_of s.waiting)

-- One step from s to t (01: 'One step handles one item: of the items present and not handled, one of least count,
-- joined with all handled items and graph edges'). Which entry of least count is handled is left open, and so is the
-- order of those that wait.
pub record Step {Item : Type 0} (S : System Item) (s t : State Item) : Type 0 where
  pub chosen : Entry Item
  pub waits : In chosen s.waiting
  pub least : (e : Entry Item) → In e s.waiting → chosen.count ≤ e.count
  pub handles : t.handled ≡ chosen ∷ s.handled
  -- nothing waits but what waited before and what one rule makes of handled entries
  pub origin : (e : Entry Item) → In e t.waiting → In e s.waiting ⊎ Made S t.handled e
  -- what waited still waits, but for the chosen one, and with no larger count
  pub keeps : (e : Entry Item) → In e s.waiting → (e.item ≡ chosen.item) ⊎ Has t.waiting e.item e.count
  -- what one rule makes of handled entries is handled, or waits with no larger count
  pub adds : (e : Entry Item) → Made S t.handled e → In e.item (items_of t.handled) ⊎ Has t.waiting e.item e.count
  -- 'an item found again is the same item, with the lesser count'
  pub distinct : Distinct (items_of (t.handled ++ t.waiting))

-- 'A run does the steps given or as many as are left.'
pub data Run {Item : Type 0} (S : System Item) : ℕ → State Item → State Item → Type 0 where
  stop : {s : State Item} → Run S 0 s s
  idle : {k : ℕ} {s : State Item} → s.waiting ≡ [] → Run S k s s
  step : {k : ℕ} {s t u : State Item} → Step S s t → Run S k t u → Run S (suc k) s u

-- A repetition-free list of exactly the reachable items: its length is the closure's size.
pub record Closure {Item : Type 0} (S : System Item) (is : List Item) : Type 0 where
  pub distinct : Distinct is
  pub reachable : (i : Item) → In i is → (n : ℕ) × Reachable S i n
  pub present : (i : Item) (n : ℕ) → Reachable S i n → In i is
