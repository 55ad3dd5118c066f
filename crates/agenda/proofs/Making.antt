-- The records that a handled record makes are those of the entries that one rule makes of handled ones; sums of
-- counts are exact.
use mathlib.Core.Path.{◌≡◌, sym, ap, ◌∙◌, subst, subst₂}
use mathlib.Core.Logic.{◌⊎◌, inl, inr}
use mathlib.Core.Bool.{true}
use mathlib.Core.List.{List, [], Memᴰ as In}
use Prim.Native.Nat.{ℕ, ◌+◌, ◌≤◌, ◌<◌}
use native.Mathlib.Omega.{arith}
use lib.ListN.{length}
use Rattle.hrg.specs.Grammars.{Graph, Grammar, cost}
use Rattle.hrg.specs.Deduction.{Reachable, by_axiom, by_unary, by_binary}
use Rattle.hrg.specs.Items.{Item, passive, UnaryRule, terminal_rule, root_rule, BinaryRule, closure}
use Rattle.hrg.specs.WellFormed.{GrammarOk}
use Rattle.hrg.specs.Agenda.{given, from, from₂, Entry, Made, axiom_made, unary_made, binary_made}
use Rattle.agenda.specs.Records.{record_of, item_of, is_handled, plus}
use Rattle.agenda.specs.Consequences.{record_in, consequences, leaf_records}
use Rattle.agenda.specs.declared.Record.{Record}
use Rattle.agenda.proofs.Records.{Formed, reached_fits}
use Rattle.agenda.proofs.Consequences.{TerminalRule, terminal_with, terminal_unary, Consequence, from_root, from_edge, from_first, from_second, in_consequence, in_leaf_record}
use Rattle.agenda.proofs.Growth.{Fresh}
use Rattle.agenda.proofs.Spelling.{HandledAt, Spells, spelt_leaf, spelt_root, spelt_edge, spelt_pair, EntryOf, Shown, Is, is_record}

-- One rule makes an entry of hs for which record x stands.
pub record Making (G : Grammar) (H : Graph) (rs : List Record) (hs : List (Entry Item)) (x : Record) : Type 0 where
  pub entry : Entry Item
  pub made : Made (closure G H) hs entry
  pub shows : EntryOf G H rs x entry
  pub formed : Formed G x
  pub fresh : Fresh x

-- the record at j makes one of e's item, with its count
pub record MadeAt (G : Grammar) (H : Graph) (rs : List Record) (j : ℕ) (e : Entry Item) : Type 0 where
  pub count : ℕ
  pub first : ℕ
  pub second : ℕ
  pub by : Consequence G H rs j e.item count first second
  pub exact : count ≡ e.count

-- what a rule adds is small, and small sums stay in a word
unary_small : {G : Grammar} {H : Graph} {a i : Item} {k : ℕ} → UnaryRule G H a k i → k ≤ 1
unfolding cost
unary_small (terminal_rule r p c i g m₁ m f h _ _ _ j) = omega arith
unary_small (root_rule r p m f _) = omega arith

plus_exact : (a b : ℕ) → a + b ≤ 8194 → plus a b ≡ a + b
unfolding plus
plus_exact a b l = omega arith

-- a unary rule is the terminal rule with a graph edge, or concludes in a passive item
pub data Split (G : Grammar) (H : Graph) (a : Item) : ℕ → Item → Type 0 where
  by_edge : {g : ℕ} {i : Item} → g < length H.edges → TerminalRule G H g a i → Split G H a 0 i
  by_root_is : {k s m : ℕ} {L : List ℕ} → UnaryRule G H a k (passive s m L) → Split G H a k (passive s m L)

pub split : {G : Grammar} {H : Graph} {a i : Item} {k : ℕ} → UnaryRule G H a k i → Split G H a k i
split (terminal_rule r p c i g m₁ m f h l e w j) = by_edge {g = g} w.known (terminal_with r p c i m₁ m f h l e w j)
split (root_rule r p m f e) = by_root_is (root_rule r p m f e)

module _ (G : Grammar) (H : Graph) (ok : GrammarOk G) where
  -- ---- leaves
  pub leaf_making : (x : Record) → In x (leaf_records G) → Making G H [] [] x
  leaf_making x m =
      let t = in_leaf_record G H x m in
      let i = t.0 in
      let is : Is G x i 0 0 0 = subst (λ (z : Record). Is G z i 0 0 0) (sym t.2) (is_record G i 0 0 0 (reached_fits G H ok (by_axiom t.1))) in
      record {
        entry = record { item = i; count = 0; how = given i };
        made = axiom_made t.1;
        shows = record { item = is.item; count = is.count; how = subst (λ (z : Item). Spells G H [] x (given z)) is.item (spelt_leaf (rw is.item t.1) is.count) };
        formed = is.formed;
        fresh = is.fresh;
      }

  module _ {rs : List Record} {hs : List (Entry Item)} (shown : Shown G H rs true hs) (reached : (e : Entry Item) → In e hs → Reachable (closure G H) e.item e.count)
      (small : (k : ℕ) → k < length rs → is_handled (record_in rs k) ≡ true → (record_in rs k).item.count ≤ 4097) where
    handled_at_lem : {a b : ℕ} → a ≡ b → b < length rs → is_handled (record_in rs b) ≡ true → HandledAt rs a (record_in rs b)
    handled_at_lem {a} {b} e l h = record { known = subst (λ (k : ℕ). k < length rs) (sym e) l; is = ap (λ (k : ℕ). record_in rs k) e; handled = h }

    -- the record of an item that is reached
    is_of : (x : Record) (i : Item) (n a b k : ℕ) → x ≡ record_of i n a b → Reachable (closure G H) i k → Is G x i n a b
    is_of x i n a b k e r = subst (λ (z : Record). Is G z i n a b) (sym e) (is_record G i n a b (reached_fits G H ok r))

    pair_making : {i : Item} (x : Record) (a b : ℕ) → a < length rs → is_handled (record_in rs a) ≡ true → b < length rs → is_handled (record_in rs b) ≡ true
        → BinaryRule G H (item_of G (record_in rs a).item) (item_of G (record_in rs b).item) i → x ≡ record_of i (plus (record_in rs a).item.count (record_in rs b).item.count) a b → Making G H rs hs x
    pair_making {i} x a b l h m k r e =
        let o = shown.entry a l h in
        let p = shown.entry b m k in
        let s : BinaryRule G H o.0.item p.0.item i = subst₂ (λ (u v : Item). BinaryRule G H u v i) o.2.item p.2.item r in
        let is = is_of x i _ a b _ e (by_binary (reached o.0 o.1) (reached p.0 p.1) s) in
        let sum = plus_exact (record_in rs a).item.count (record_in rs b).item.count (omega (arith, small a l h, small b m k)) in
        record {
          entry = record { item = i; count = o.0.count + p.0.count; how = from₂ i o.0.how p.0.how };
          made = binary_made o.1 p.1 s;
          shows =
              record {
                item = is.item;
                count = omega (arith, is.count, sum, o.2.count, p.2.count);
                how =
                    subst (λ (z : Item). Spells G H rs x (from₂ z o.0.how p.0.how)) is.item
                    (spelt_pair (handled_at_lem is.first l h) (handled_at_lem is.second m k) (rw is.item r) (is.count ∙ sum) o.2.how p.2.how);
              };
          formed = is.formed;
          fresh = is.fresh;
        }

    module _ (j : ℕ) (l : j < length rs) (h : is_handled (record_in rs j) ≡ true) where
      made_by : {i : Item} {n a b : ℕ} (x : Record) → Consequence G H rs j i n a b → x ≡ record_of i n a b → Making G H rs hs x
      made_by x (from_root {k = k} {s = s} {m = m} {L = L} u) e =
          let o = shown.entry j l h in
          let v : UnaryRule G H o.0.item k (passive s m L) = subst (λ (z : Item). UnaryRule G H z k (passive s m L)) o.2.item u in
          let is = is_of x (passive s m L) _ j 0 _ e (by_unary (reached o.0 o.1) v) in
          let sum = plus_exact (record_in rs j).item.count k (omega (arith, small j l h, unary_small u)) in
          record {
            entry = record { item = passive s m L; count = o.0.count + k; how = from (passive s m L) o.0.how };
            made = unary_made o.1 v;
            shows =
                record {
                  item = is.item;
                  count = omega (arith, is.count, sum, o.2.count);
                  how =
                      subst (λ (z : Item). Spells G H rs x (from z o.0.how)) is.item
                      (spelt_root (handled_at_lem is.first l h) is.item (rw is.item u) (is.count ∙ sum) o.2.how);
                };
            formed = is.formed;
            fresh = is.fresh;
          }
      made_by x (from_edge {i = i} {g = g} b u) e =
          let o = shown.entry j l h in
          let v : UnaryRule G H o.0.item 0 i = subst (λ (z : Item). UnaryRule G H z 0 i) o.2.item (terminal_unary G H u) in
          let is = is_of x i _ j g _ e (by_unary (reached o.0 o.1) v) in
          record {
            entry = record { item = i; count = o.0.count + 0; how = from i o.0.how };
            made = unary_made o.1 v;
            shows =
                record {
                  item = is.item;
                  count = omega (arith, is.count, o.2.count);
                  how =
                      subst (λ (z : Item). Spells G H rs x (from z o.0.how)) is.item
                      (spelt_edge (handled_at_lem is.first l h) (rw is.second b) (rw (is.item, is.second) u) is.count o.2.how);
                };
            formed = is.formed;
            fresh = is.fresh;
          }
      made_by x (from_first {k = k} m q r) e = pair_making x j k l h m q r e
      made_by x (from_second {k = k} m q r) e = pair_making x k j m q l h r e

      pub making : (x : Record) → In x (consequences G H rs j) → Making G H rs hs x
      making x m = let t = in_consequence G H rs j x m in made_by x t.by t.is

      -- ---- and what one rule makes of handled entries without the last one, or the record at j makes it
      unary_at : (a : Entry Item) {k : ℕ} {i : Item} → EntryOf G H rs (record_in rs j) a → Split G H a.item k i → MadeAt G H rs j (record { item = i; count = a.count + k; how = from i a.how })
      unary_at a {i = i} o (by_edge {g = g} b t) =
          record { count = (record_in rs j).item.count; first = j; second = g; by = from_edge b (subst (λ (z : Item). TerminalRule G H g z i) (sym o.item) t); exact = omega (arith, o.count) }
      unary_at a o (by_root_is {k = k} {s = s} {m = m} {L = L} u) =
          let sum = plus_exact (record_in rs j).item.count k (omega (arith, small j l h, unary_small u)) in
          record { count = plus (record_in rs j).item.count k; first = j; second = 0; by = from_root (subst (λ (z : Item). UnaryRule G H z k (passive s m L)) (sym o.item) u); exact = omega (arith, o.count) }

      pub made_at : (x : Entry Item) (ks : List (Entry Item)) {e : Entry Item} → EntryOf G H rs (record_in rs j) x → ((a : Entry Item) → In a hs → (a ≡ x) ⊎ In a ks)
          → Made (closure G H) hs e → MadeAt G H rs j e ⊎ Made (closure G H) ks e
      made_at x ks o f (axiom_made z) = inr (axiom_made z)
      made_at x ks o f (unary_made {a = a} {k = k} {i = i} m u) = go (f a m)
        where
          go : (a ≡ x) ⊎ In a ks → MadeAt G H rs j (record { item = i; count = a.count + k; how = from i a.how }) ⊎ Made (closure G H) ks (record { item = i; count = a.count + k; how = from i a.how })
          go (inl q) = inl (unary_at a (subst (λ (z : Entry Item). EntryOf G H rs (record_in rs j) z) (sym q) o) (split u))
          go (inr n) = inr (unary_made n u)
      made_at x ks o f (binary_made {a = a} {b = b} {i = i} m n r) = go (f a m) (f b n)
        where
          pa : (k : ℕ) × (k < length rs) × (is_handled (record_in rs k) ≡ true) × EntryOf G H rs (record_in rs k) a
          pa = shown.place a m

          pb : (k : ℕ) × (k < length rs) × (is_handled (record_in rs k) ≡ true) × EntryOf G H rs (record_in rs k) b
          pb = shown.place b n

          go : (a ≡ x) ⊎ In a ks → (b ≡ x) ⊎ In b ks
              → MadeAt G H rs j (record { item = i; count = a.count + b.count; how = from₂ i a.how b.how }) ⊎ Made (closure G H) ks (record { item = i; count = a.count + b.count; how = from₂ i a.how b.how })
          go (inl q) c =
              let oa : EntryOf G H rs (record_in rs j) a = subst (λ (z : Entry Item). EntryOf G H rs (record_in rs j) z) (sym q) o in
              let sum = plus_exact (record_in rs j).item.count (record_in rs pb.0).item.count (omega (arith, small j l h, small pb.0 pb.1 pb.2)) in
              inl (record {
                count = plus (record_in rs j).item.count (record_in rs pb.0).item.count;
                first = j;
                second = pb.0;
                by = from_first pb.1 pb.2 (subst₂ (λ (u v : Item). BinaryRule G H u v i) (sym oa.item) (sym pb.3.item) r);
                exact = omega (arith, sum, oa.count, pb.3.count);
              })
          go (inr c) (inl q) =
              let ob : EntryOf G H rs (record_in rs j) b = subst (λ (z : Entry Item). EntryOf G H rs (record_in rs j) z) (sym q) o in
              let sum = plus_exact (record_in rs pa.0).item.count (record_in rs j).item.count (omega (arith, small j l h, small pa.0 pa.1 pa.2)) in
              inl (record {
                count = plus (record_in rs pa.0).item.count (record_in rs j).item.count;
                first = pa.0;
                second = j;
                by = from_second pa.1 pa.2 (subst₂ (λ (u v : Item). BinaryRule G H u v i) (sym pa.3.item) (sym ob.item) r);
                exact = omega (arith, sum, ob.count, pa.3.count);
              })
          go (inr c) (inr d) = inr (binary_made c d r)
