-- What bounds a count (T6): the handled passive items within an item's edges, and the passive items of its recorded
-- derivation.
use Rattle.std.specs.Prelude.{◌≡◌, Bool, true, false, ◌&&◌, ℕ, ◌+◌, ◌≤◌, length}
use mathlib.Core.List.{List, [], ◌∷◌, ◌++◌, Memᴰ as In}
use Rattle.masks.specs.Masks.{within}
use Rattle.hrg.specs.Counts.{flag}
use Rattle.hrg.specs.Items.{Item, active, passive}
use Rattle.hrg.specs.Agenda.{Derivation, given, from, from₂, Entry, State, Distinct}

-- the graph edges of an item
unfoldable pub edges_of_item : Item → ℕ
edges_of_item (active r p m f) = m
edges_of_item (passive s m L) = m

unfoldable pub is_passive : Item → Bool
is_passive (active r p m f) = false
is_passive (passive s m L) = true

-- how many of the entries are passive items whose edges lie within m
unfoldable pub passives_within : ℕ → List (Entry Item) → ℕ
passives_within m [] = 0
passives_within m (e ∷ es) = flag (is_passive e.item && within (edges_of_item e.item) m) + passives_within m es

-- the item that a derivation ends in
unfoldable pub conclusion : Derivation Item → Item
conclusion (given i) = i
conclusion (from i d) = i
conclusion (from₂ i d c) = i

-- an item where it is passive
abbrev pub if_passive : Item → List Item
if_passive (active r p m f) = []
if_passive (passive s m L) = passive s m L ∷ []

-- the passive items of a derivation, each as often as it is used
unfoldable pub passives_of : Derivation Item → List Item
passives_of (given i) = if_passive i
passives_of (from i d) = if_passive i ++ passives_of d
passives_of (from₂ i d c) = if_passive i ++ (passives_of d ++ passives_of c)

-- how many handled passive items have their edges within the entry's
abbrev pub handled_within : State Item → Entry Item → ℕ
handled_within s e = passives_within (edges_of_item e.item) s.handled

-- The number of a handled entry, and of an active one that waits, is at most this; of a passive one that waits, one
-- more.
pub record Limits (s : State Item) (number : Entry Item → ℕ) : Type 0 where
  pub handled : (e : Entry Item) → In e s.handled → number e ≤ handled_within s e
  pub waiting_active : (e : Entry Item) → In e s.waiting → is_passive e.item ≡ false → number e ≤ handled_within s e
  pub waiting_passive : (e : Entry Item) → In e s.waiting → is_passive e.item ≡ true → number e ≤ handled_within s e + 1

-- The derivation recorded for an entry ends in its item and uses each passive item at most once; so their number is
-- bounded, whatever rules cost.
pub record UsesOnce (s : State Item) : Type 0 where
  pub concludes : (e : Entry Item) → In e (s.handled ++ s.waiting) → conclusion e.how ≡ e.item
  pub once : (e : Entry Item) → In e (s.handled ++ s.waiting) → Distinct (passives_of e.how)
  pub passives : Limits s (λ e. length (passives_of e.how))

pub record Bounded (s : State Item) : Type 0 where
  pub count : Limits s (λ e. e.count)
  pub how : UsesOnce s
