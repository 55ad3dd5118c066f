-- The derivations that the partners of records spell, and the agenda's entries that records stand for.
use mathlib.Core.Path.{◌≡◌, refl, sym, ◌∙◌, subst}
use mathlib.Core.Bool.{Bool, true, false}
use mathlib.Core.List.{List, Memᴰ as In}
use Prim.Native.Nat.{ℕ, ◌+◌, ◌<◌}
use lib.ListN.{length}
use Rattle.hrg.specs.Grammars.{Graph, Grammar}
use Rattle.hrg.specs.Items.{Item, active, passive, LeafRule, UnaryRule, BinaryRule}
use Rattle.hrg.specs.Agenda.{Derivation, given, from, from₂, Entry, State}
use Rattle.agenda.specs.Records.{record_of, item_of, is_handled}
use Rattle.agenda.specs.Consequences.{record_in}
use Rattle.agenda.specs.Steps.{handled_now, handled_count}
use Rattle.agenda.specs.declared.Record.{Record}
use Rattle.agenda.proofs.Records.{Fitting, Formed, item_of_lem, record_formed}
use Rattle.agenda.proofs.Consequences.{TerminalRule}
use Rattle.agenda.proofs.Growth.{Differ, Fresh}

-- The record at a is y, and handled.
pub record HandledAt (rs : List Record) (a : ℕ) (y : Record) : Type 0 where
  pub known : a < length rs
  pub is : record_in rs a ≡ y
  pub handled : is_handled y ≡ true

-- The partners of record x spell a derivation: one rule makes its item of the items of handled records, or of one and
-- a graph edge, and its count is the sum of theirs.
pub data Spells (G : Grammar) (H : Graph) (rs : List Record) : Record → Derivation Item → Type 0 where
  spelt_leaf : {x : Record} → LeafRule G (item_of G x.item) → x.item.count ≡ 0 → Spells G H rs x (given (item_of G x.item))
  -- a passive item: `first` is its root item
  spelt_root : {x y : Record} {s m k : ℕ} {L : List ℕ} {d : Derivation Item} → HandledAt rs x.first y → item_of G x.item ≡ passive s m L → UnaryRule G H (item_of G y.item) k (item_of G x.item)
      → x.item.count ≡ y.item.count + k → Spells G H rs y d → Spells G H rs x (from (item_of G x.item) d)
  -- the terminal rule: `first` is the child's item, `second` the graph edge
  spelt_edge : {x y : Record} {d : Derivation Item} → HandledAt rs x.first y → x.second < length H.edges → TerminalRule G H x.second (item_of G y.item) (item_of G x.item)
      → x.item.count ≡ y.item.count → Spells G H rs y d → Spells G H rs x (from (item_of G x.item) d)
  -- the nonterminal rule and joins: two items
  spelt_pair : {x y z : Record} {d c : Derivation Item} → HandledAt rs x.first y → HandledAt rs x.second z → BinaryRule G H (item_of G y.item) (item_of G z.item) (item_of G x.item)
      → x.item.count ≡ y.item.count + z.item.count → Spells G H rs y d → Spells G H rs z c → Spells G H rs x (from₂ (item_of G x.item) d c)

-- Record x stands for entry e.
pub record EntryOf (G : Grammar) (H : Graph) (rs : List Record) (x : Record) (e : Entry Item) : Type 0 where
  pub item : item_of G x.item ≡ e.item
  pub count : x.item.count ≡ e.count
  pub how : Spells G H rs x e.how

-- The handled records, or those that are not, stand for the entries es.
pub record Shown (G : Grammar) (H : Graph) (rs : List Record) (handled : Bool) (es : List (Entry Item)) : Type 0 where
  pub entry : (k : ℕ) → k < length rs → is_handled (record_in rs k) ≡ handled → (e : Entry Item) × In e es × EntryOf G H rs (record_in rs k) e
  pub place : (e : Entry Item) → In e es → (k : ℕ) × (k < length rs) × (is_handled (record_in rs k) ≡ handled) × EntryOf G H rs (record_in rs k) e

-- The records rs stand for the state s of the agenda.
pub record Shows (G : Grammar) (H : Graph) (rs : List Record) (s : State Item) : Type 0 where
  pub formed : (k : ℕ) → k < length rs → Formed G (record_in rs k)
  pub differ : Differ rs
  pub handled : Shown G H rs true s.handled
  pub waiting : Shown G H rs false s.waiting
  pub steps : handled_count rs ≡ length s.handled

-- ---- handled records that stay keep what is spelt
abbrev pub Stays : List Record → List Record → Type 0
Stays rs ts = (k : ℕ) → k < length rs → is_handled (record_in rs k) ≡ true → (k < length ts) × (record_in ts k ≡ record_in rs k)

handled_stays : {rs ts : List Record} {a : ℕ} {y : Record} → Stays rs ts → HandledAt rs a y → HandledAt ts a y
handled_stays {a = a} st h =
    let o = st a h.known (subst (λ (z : Record). is_handled z ≡ true) (sym h.is) h.handled) in
    record { known = o.0; is = o.1 ∙ h.is; handled = h.handled }

module _ {G : Grammar} {H : Graph} {rs ts : List Record} (st : Stays rs ts) where
  pub spelt_stays : {x : Record} {d : Derivation Item} → Spells G H rs x d → Spells G H ts x d
  spelt_stays (spelt_leaf l c) = spelt_leaf l c
  spelt_stays (spelt_root h e u c d) = spelt_root (handled_stays st h) e u c (spelt_stays d)
  spelt_stays (spelt_edge h l t c d) = spelt_edge (handled_stays st h) l t c (spelt_stays d)
  spelt_stays (spelt_pair h i b c d e) = spelt_pair (handled_stays st h) (handled_stays st i) b c (spelt_stays d) (spelt_stays e)

  pub entry_stays : {x : Record} {e : Entry Item} → EntryOf G H rs x e → EntryOf G H ts x e
  entry_stays o = record { item = o.item; count = o.count; how = spelt_stays o.how }

  -- the same entry at a place that stays
  pub entry_at : (k : ℕ) {e : Entry Item} → record_in ts k ≡ record_in rs k → EntryOf G H rs (record_in rs k) e → EntryOf G H ts (record_in ts k) e
  entry_at k {e} q o = subst (λ (z : Record). EntryOf G H ts z e) (sym q) (entry_stays o)

-- a record that becomes handled spells the same
module _ (G : Grammar) (H : Graph) {rs : List Record} where
  spelt_now : {x : Record} {d : Derivation Item} → Spells G H rs x d → Spells G H rs (handled_now x) d
  unfolding item_of
  spelt_now (spelt_leaf l c) = spelt_leaf l c
  spelt_now (spelt_root h e u c d) = spelt_root h e u c d
  spelt_now (spelt_edge h l t c d) = spelt_edge h l t c d
  spelt_now (spelt_pair h i b c d e) = spelt_pair h i b c d e

  pub entry_now : {x : Record} {e : Entry Item} → EntryOf G H rs x e → EntryOf G H rs (handled_now x) e
  entry_now {x} o = record { item = o.item; count = o.count; how = spelt_now o.how }

-- ---- the record of an item
pub record Is (G : Grammar) (x : Record) (i : Item) (n a b : ℕ) : Type 0 where
  pub item : item_of G x.item ≡ i
  pub count : x.item.count ≡ n
  pub first : x.first ≡ a
  pub second : x.second ≡ b
  pub formed : Formed G x
  pub fresh : Fresh x

pub is_record : (G : Grammar) (i : Item) (n a b : ℕ) → Fitting G i → Is G (record_of i n a b) i n a b
is_record G (active r p m f) n a b w =
    record { item = item_of_lem G (active r p m f) n w; count = refl; first = refl; second = refl; formed = record_formed G (active r p m f) n a b w; fresh = refl }
is_record G (passive s m L) n a b w =
    record { item = item_of_lem G (passive s m L) n w; count = refl; first = refl; second = refl; formed = record_formed G (passive s m L) n a b w; fresh = refl }
