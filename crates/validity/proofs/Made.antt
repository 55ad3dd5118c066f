-- What the rules make of items that name what exists: each record is known among m items, and is read again from its
-- words.
use mathlib.Core.Path.{◌≡◌, sym, ap, ◌∙◌, subst}
use mathlib.Core.Bool.{true}
use mathlib.Core.List.{List, Memᴰ as In}
use Prim.Native.Nat.{ℕ, ◌≤◌, ◌<◌}
use native.Mathlib.Omega.{arith}
use lib.ListN.{length}
use Rattle.hrg.specs.Grammars.{Graph, Grammar}
use Rattle.hrg.specs.Items.{Item, passive}
use Rattle.hrg.specs.WellFormed.{GrammarOk, GraphOk}
use Rattle.agenda.specs.Records.{record_of, item_of}
use Rattle.agenda.specs.Consequences.{at_root, with_terminal, pair, consequences, leaf_records}
use Rattle.agenda.specs.declared.Record.{Record}
use Rattle.agenda.proofs.Records.{item_eight}
use Rattle.agenda.proofs.Consequences.{in_root, in_terminal, in_pair, in_consequence, in_leaf_record}
use Rattle.records.specs.Words.{Compact}
use Rattle.records.proofs.Grown.{Whole}
use Rattle.validity.specs.Checking.{known_record}
use Rattle.validity.proofs.ExistingTest.{existing_known}
use Rattle.validity.proofs.KnownItems.{KnownItem, unary_item}
use Rattle.validity.proofs.KnownCharts.{AllKnown}
use Rattle.validity.proofs.Own.{Known, passive_existing, terminal_existing, binary_existing, leaf_existing, consequence_known}
use Rattle.validity.proofs.Compactness.{known_compact}

-- a record that is known among m items, and read again from its words
pub record Sound (G : Grammar) (H : Graph) (m : ℕ) (x : Record) : Type 0 where
  pub known : known_record G H m x ≡ true
  pub compact : Compact x

-- each record of a list is such a one
abbrev pub AllSound : Grammar → Graph → ℕ → List Record → Type 0
AllSound G H m xs = (x : Record) → In x xs → Sound G H m x

module _ (G : Grammar) (H : Graph) (ok : GrammarOk G) (good : GraphOk G H) (m : ℕ) (few : m ≤ 4096) where
  of_item : (i : Item) (c a b : ℕ) (x : Record) → x ≡ record_of i c a b → Known G H m (record_of i c a b) → Sound G H m x
  of_item i c a b x e k =
      let known : known_record G H m (record_of i c a b) ≡ true = existing_known G H m (record_of i c a b) k.0 k.1 in
      subst (Sound G H m) (sym e) (record { known = known; compact = known_compact G H ok good m few (record_of i c a b) (item_eight i c) known })

  pub root_sound : (a : Item) (n j : ℕ) → KnownItem G H a → j < m → AllSound G H m (at_root G a n j)
  root_sound a n j known l x i =
      let (k, s, e, L, rule, is) = in_root G H n j a i in
      of_item (passive s e L) _ j 0 x is (passive_existing G H m s e L _ j (unary_item G H ok good rule known) l)

  pub edge_sound : (a : Item) (n j e : ℕ) → KnownItem G H a → j < m → e < length H.edges → AllSound G H m (with_terminal G H a n j e)
  edge_sound a n j e known l inside x i =
      let (made, rule, is) = in_terminal G H n j e a inside i in
      of_item made n j e x is (terminal_existing G H ok good m n j rule known l)

  pub pair_sound : (x y : Record) (j k : ℕ) → KnownItem G H (item_of G x.item) → KnownItem G H (item_of G y.item) → j < m → k < m → AllSound G H m (pair G H x j y k)
  pair_sound x y j k first second l h z i =
      let (made, rule, is) = in_pair G H x y j k i in
      of_item made _ j k z is (binary_existing G H ok good m _ j k rule first second l h)

  pub leaf_sound : AllSound G H m (leaf_records G)
  leaf_sound x i = let (made, rule, is) = in_leaf_record G H x i in of_item made 0 0 0 x is (leaf_existing G H ok good m rule)

  -- all that known records make of the one at place j
  pub consequences_sound : (rs : List Record) → AllKnown G H rs → length rs ≡ m → (j : ℕ) → j < length rs → AllSound G H m (consequences G H rs j)
  consequences_sound rs all e j l x i =
      let t = in_consequence G H rs j x i in
      let known : known_record G H m x ≡ true = consequence_known G H ok good rs all j l m x (omega arith) i in
      let eight : length x.item.nodes ≡ 8 = ap (λ (y : Record). length y.item.nodes) t.is ∙ item_eight t.item t.count in
      record { known = known; compact = known_compact G H ok good m few x eight known }

-- what is sound can be added to a chart's words
pub sound_whole : {G : Grammar} {H : Graph} {m : ℕ} {xs : List Record} → AllSound G H m xs → Whole xs
sound_whole all x i = (all x i).compact
