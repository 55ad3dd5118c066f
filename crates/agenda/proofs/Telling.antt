-- What is told of an item are the fields of its record by their names; a place that has none and words that are too
-- few change nothing.
use mathlib.Core.Path.{◌≡◌, refl, ap, ◌∙◌}
use mathlib.Core.List.{List, ◌++◌}
use Prim.Native.Nat.{ℕ, zero, suc, ◌+◌, ◌≤◌, ◌<◌}
use native.Mathlib.Omega.{arith}
use lib.ListN.{length, get_or, drop}
use lib.Seq.{get_or-append-add, get_or-drop}
use borrow.Author.Tests.{lt-ltb, le-ltb, le-leb, lt-leb}
use Rattle.agenda.specs.declared.Record.{Record}
use Rattle.agenda.specs.Telling.{fields_of, untold, tell_record, tell_item, TellsItem, Names}

node_told : (x : Record) (out : List ℕ) (k : ℕ) → k < 8 → get_or (fields_of x ++ drop 16 out) (6 + k) 0 ≡ get_or x.item.nodes k 0
unfolding fields_of
node_told x out zero h = refl
node_told x out (suc zero) h = refl
node_told x out (suc (suc zero)) h = refl
node_told x out (suc (suc (suc zero))) h = refl
node_told x out (suc (suc (suc (suc zero)))) h = refl
node_told x out (suc (suc (suc (suc (suc zero))))) h = refl
node_told x out (suc (suc (suc (suc (suc (suc zero)))))) h = refl
node_told x out (suc (suc (suc (suc (suc (suc (suc zero))))))) h = refl
node_told x out (suc (suc (suc (suc (suc (suc (suc (suc k)))))))) h = absurd (omega arith)

names : (x : Record) (out : List ℕ) → Names x out (fields_of x ++ drop 16 out)
unfolding fields_of
names x out = record {
  kind = refl;
  of = refl;
  plan = refl;
  edges = refl;
  count = refl;
  handled = refl;
  nodes = node_told x out;
  first = refl;
  second = refl;
  behind = λ k. get_or-append-add (fields_of x) (drop 16 out) k 0 ∙ get_or-drop 16 out k 0;
}

module _ (n : ℕ) (records : ℕ → Record) (j : ℕ) (out : List ℕ) where
  -- no item at that place
  pub item_past : n ≤ j → tell_item n records j out ≡ record { number = 8; words = out }
  unfolding tell_item untold
  item_past h = rw (le-ltb _ _ h)

  module _ (there : j < n) where
    pub item_short : length out < 16 → tell_item n records j out ≡ record { number = 12; words = out }
    unfolding tell_item tell_record untold
    item_short l = rw (lt-ltb _ _ there, lt-leb _ _ l)

    pub item_full : 16 ≤ length out → tell_item n records j out ≡ record { number = 0; words = fields_of (records j) ++ drop 16 out }
    unfolding tell_item tell_record untold
    item_full l = rw (lt-ltb _ _ there, le-leb _ _ l)

    -- what is told are the fields by their names
    pub item_told : 16 ≤ length out → Names (records j) out (tell_item n records j out).words
    item_told l = rw (item_full l) (names (records j) out)

-- ---- as facts about a call
pub fields_size : (x : Record) → length (fields_of x) ≡ 16
unfolding fields_of
fields_size x = refl

pub tells_past : (n : ℕ) (records : ℕ → Record) (j : ℕ) (out : List ℕ) → n ≤ j → TellsItem (tell_item n records j out) 8 out
tells_past n records j out h = rw (item_past n records j out h) (record { answers = refl; leaves = refl })

pub tells_short : (n : ℕ) (records : ℕ → Record) (j : ℕ) (out : List ℕ) → j < n → length out < 16 → TellsItem (tell_item n records j out) 12 out
tells_short n records j out h l = rw (item_short n records j out h l) (record { answers = refl; leaves = refl })

pub tells_full : (n : ℕ) (records : ℕ → Record) (j : ℕ) (out : List ℕ) → j < n → 16 ≤ length out
    → (x : Record) (told now : List ℕ) → x ≡ records j → told ≡ fields_of x → now ≡ told ++ drop (length told) out → TellsItem (tell_item n records j out) 0 now
tells_full n records j out h l x told now e f p =
    rw (item_full n records j out h l)
    (record { answers = refl; leaves = p ∙ ap (λ (fs : List ℕ). fs ++ drop (length fs) out) (f ∙ ap fields_of e) ∙ rw (fields_size (records j)) })
