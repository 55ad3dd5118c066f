-- T6: counts and recorded derivations are bounded by the handled passive items within an item's edges.
-- A derivation's passive items are different and, but for its own, handled: there are no more of them; and a count is
-- their number.
use mathlib.Core.Path.{◌≡◌, refl, sym, ap, ◌∙◌, subst}
use mathlib.Core.Bool.{Bool, true, false, ◌&&◌}
use mathlib.Core.Logic.{◌⊎◌, inl, inr}
use mathlib.Core.List.Memᴰ.{append_cases as in_append}
use mathlib.Core.List.Memᴰ.{append_left as in_left}
use mathlib.Core.List.Memᴰ.{append_right as in_right}
use mathlib.Core.List.Memᴰ.{cases_cons as in_cons}
use mathlib.Core.List.Memᴰ.{cast as in_cast}
use mathlib.Core.List.Memᴰ.{head as here}
use mathlib.Core.List.Memᴰ.{not-nil as in_nil}
use mathlib.Core.List.Memᴰ.{tail as there}
use mathlib.Core.List.{List, [], ◌∷◌, ◌++◌, append-nil, Memᴰ as In}
use Prim.Native.Nat.{ℕ, zero, suc, ◌+◌, ◌≤◌, ◌<◌}
use native.Mathlib.Nat.{lt_of_not-le}
use native.Mathlib.Omega.{arith}
use lib.Dec.{T}
use lib.ListN.{length, length-append}
use Rattle.masks.specs.Masks.{bit, single, Apart as Disjoint, Subset, within}
use Rattle.masks.proofs.Laws.{nonempty, bit_high, bit_union, disjoint_sum, bit_single_self, holds_within}
use Rattle.hrg.specs.Counts.{flag, occurs}
use Rattle.hrg.specs.Grammars.{Graph, Rule, Grammar, cost, right_of, plan_of}
use Rattle.hrg.specs.Deduction.{System, Reachable, by_axiom, by_unary, by_binary}
use Rattle.hrg.specs.Items.{below, Joins, Item, active, passive, LeafRule, leaf_rule, UnaryRule, terminal_rule, root_rule, BinaryRule, nonterminal_rule, join_rule, closure}
use Rattle.hrg.specs.WellFormed.{GrammarOk}
use Rattle.hrg.specs.Agenda.{Derivation, given, from, from₂, Entry, State, Distinct, none, more, items_of, Made, axiom_made, unary_made, binary_made, Start, Step, Run, stop, idle, step}
use Rattle.hrg.specs.CountBound.{edges_of_item, is_passive, passives_within, conclusion, if_passive, passives_of, UsesOnce, Bounded}
use Rattle.hrg.proofs.Sums.{occurs_append}
use Rattle.hrg.proofs.Plans.{below_leaf, below_join, below_root}
use Rattle.hrg.proofs.Members.{distinct_append, distinct_le, map_apart}
use Rattle.hrg.proofs.AgendaInvariant.{of_items, in_items}

-- ---- what holds of every entry
-- P holds of what a rule makes anew of handled entries of which it holds, and more handled entries do not change it.
pub record Kept {Item : Type 0} (S : System Item) (P : List (Entry Item) → Entry Item → Type 0) : Type 0 where
  pub make : {hs : List (Entry Item)} {e : Entry Item} → ((a : Entry Item) → In a hs → P hs a) → Made S hs e → (In e.item (items_of hs) → ⊥) → P hs e
  pub grow : {hs ks : List (Entry Item)} {e : Entry Item} → ((a : Entry Item) → In a hs → In a ks) → P hs e → P ks e

abbrev pub Every : {Item : Type 0} → (List (Entry Item) → Entry Item → Type 0) → State Item → Type 0
Every {Item} P s = (e : Entry Item) → In e (s.handled ++ s.waiting) → P s.handled e

module _ {Item : Type 0} {S : System Item} {P : List (Entry Item) → Entry Item → Type 0} (k : Kept S P) where
  pub start_every : {s : State Item} → Start S s → Every P s
  start_every {s} z e m = go (in_append s.handled m)
    where
      no_handled : (a : Entry Item) → In a s.handled → In a []
      no_handled a m = subst (λ (l : List (Entry Item)). In a l) z.handled m

      go : In e s.handled ⊎ In e s.waiting → P s.handled e
      go (inl m) = absurd (in_nil (no_handled e m))
      go (inr m) = k.grow (λ a n. absurd (in_nil n)) (k.make (λ a n. absurd (in_nil n)) (z.origin e m) (λ n. in_nil n))

  pub step_every : {s t : State Item} → Step S s t → Every P s → Every P t
  step_every {s} {t} z v e m = go (in_append t.handled m)
    where
      old : (a : Entry Item) → In a s.handled → In a t.handled
      old a m = subst (λ (l : List (Entry Item)). In a l) (sym z.handles) (there m)

      present : (a : Entry Item) → (a ≡ z.chosen) ⊎ In a s.handled → In a (s.handled ++ s.waiting)
      present a (inl q) = in_right s.handled (in_cast q z.waits)
      present a (inr m) = in_left s.waiting m

      handled : (a : Entry Item) → In a t.handled → P t.handled a
      handled a m = k.grow old (v a (present a (in_cons (subst (λ (l : List (Entry Item)). In a l) z.handles m))))

      new : In e t.waiting → In e.item (items_of t.handled) → ⊥
      new m n = let o = of_items t.handled n in map_apart (λ (e : Entry Item). e.item) z.distinct o.1 m o.2

      waited : In e t.waiting → In e s.waiting ⊎ Made S t.handled e → P t.handled e
      waited m (inl n) = k.grow old (v e (in_right s.handled n))
      waited m (inr n) = k.make handled n (new m)

      go : In e t.handled ⊎ In e t.waiting → P t.handled e
      go (inl m) = handled e m
      go (inr m) = waited m (z.origin e m)

  pub run_every : {n : ℕ} {s t : State Item} → Run S n s t → Every P s → Every P t
  run_every stop v = v
  run_every (idle e) v = v
  run_every (step z r) v = run_every r (step_every z v)

-- ---- the edges of premises lie within the conclusion's
subset_refl : (a : ℕ) → Subset a a
subset_refl a = record { each = λ e. omega arith }

subset_trans : {a b c : ℕ} → Subset a b → Subset b c → Subset a c
subset_trans x y = record { each = λ e. omega (arith, x.each e, y.each e) }

subset_pos : {a b : ℕ} → Subset a b → 0 < a → 0 < b
subset_pos {a} {b} s h =
    let o = nonempty a h in
    lt_of_not-le (λ l. omega (arith, bit_high b o.0 (omega arith), s.each o.0, o.1))

-- only the empty set lies within two disjoint ones
disjoint_empty : {a b m : ℕ} → Disjoint a b → Subset m a → Subset m b → 0 < m → ⊥
disjoint_empty {a} {b} {m} d x y h = let o = nonempty m h in omega (arith, disjoint_sum a b d o.0, x.each o.0, y.each o.0, o.1)

-- Two sets make a third.
pub record Parted (a b m : ℕ) : Type 0 where
  pub disjoint : Disjoint a b
  pub left : Subset a m
  pub right : Subset b m

module _ {H : Graph} {R : Rule} {p m₁ m₂ m : ℕ} {f g h : List ℕ} (j : Joins H R p m₁ m₂ f g m h) where
  bits : (e : ℕ) → bit m e ≡ bit m₁ e + bit m₂ e
  bits e = ap (λ k. bit k e) j.union ∙ bit_union m₁ m₂ e j.disjoint

  parted : Parted m₁ m₂ m
  parted = record { disjoint = j.disjoint; left = record { each = λ e. omega (arith, bits e) }; right = record { each = λ e. omega (arith, bits e) } }

module _ {G : Grammar} {H : Graph} where
  unary_edges : {a i : Item} {k : ℕ} → UnaryRule G H a k i → Subset (edges_of_item a) (edges_of_item i)
  unfolding edges_of_item
  unary_edges (terminal_rule r p c i g m₁ m f h _ _ _ j) = (parted j).left
  unary_edges (root_rule r p m f _) = subset_refl m

  binary_edges : {a b i : Item} → BinaryRule G H a b i → Parted (edges_of_item a) (edges_of_item b) (edges_of_item i)
  unfolding edges_of_item
  binary_edges (nonterminal_rule r p c i m₁ m₂ m f L h _ _ j) = parted j
  binary_edges (join_rule r p a b m₁ m₂ m f g h _ _ j) = parted j

-- ---- no passive item that is reachable has an empty set
-- At an active item: where edges lie below the plan node.
abbrev Filled : Grammar → Item → Type 0
Filled G (active r p m f) = (r < length G.rules) × ((i : ℕ) → 0 < occurs i (below (plan_of G r) p) → 0 < m)
Filled G (passive s m L) = 0 < m

module _ (G : Grammar) (H : Graph) (ok : GrammarOk G) where
  axiom_filled : {i : Item} → LeafRule G i → Filled G i
  unfolding occurs
  axiom_filled (leaf_rule r p l _ e) =
      let o = ok.rule r l in
      (l, λ i n. absurd (omega (arith, ap (λ (l : List ℕ). occurs i l) (below_leaf (length (right_of G r).edges) (plan_of G r) o.plan p e))))

  unary_filled : {a i : Item} {k : ℕ} → UnaryRule G H a k i → Filled G a → Filled G i
  unary_filled (terminal_rule r p c i g m₁ m f h _ _ _ j) v =
      (v.0, λ i n. subset_pos (parted j).right (lt_of_not-le (λ l. omega (arith, bit_high (single g) g (omega arith), bit_single_self g))))
  unary_filled (root_rule r p m f e) v =
      let o = ok.rule r v.0 in
      v.1 0 (omega (arith, below_root (length (right_of G r).edges) (plan_of G r) o.plan p 0 e o.right.edge_count.lower))

  binary_filled : {a b i : Item} → BinaryRule G H a b i → Filled G a → Filled G b → Filled G i
  binary_filled (nonterminal_rule r p c i m₁ m₂ m f L h _ _ j) v w = (v.0, λ i n. subset_pos (parted j).right w)
  binary_filled (join_rule r p a b m₁ m₂ m f g h _ e j) v w = (v.0, λ i n. go i (occurs i (below (plan_of G r) a)) refl n)
    where
      sum : (i : ℕ) → occurs i (below (plan_of G r) p) ≡ occurs i (below (plan_of G r) a) + occurs i (below (plan_of G r) b)
      sum i =
          ap (λ (l : List ℕ). occurs i l) (below_join (length (right_of G r).edges) (plan_of G r) (ok.rule r v.0).plan p a b e)
          ∙ occurs_append i (below (plan_of G r) a) (below (plan_of G r) b)

      go : (i k : ℕ) → occurs i (below (plan_of G r) a) ≡ k → 0 < occurs i (below (plan_of G r) p) → 0 < m
      go i zero q n = subset_pos (parted j).right (w.1 i (omega (arith, sum i)))
      go i (suc k) q n = subset_pos (parted j).left (v.1 i (omega arith))

  filled : {i : Item} {n : ℕ} → Reachable (closure G H) i n → Filled G i
  filled (by_axiom x) = axiom_filled x
  filled (by_unary r u) = unary_filled u (filled r)
  filled (by_binary q r b) = binary_filled b (filled q) (filled r)

  pub passive_filled : (i : Item) {n : ℕ} → is_passive i ≡ true → Reachable (closure G H) i n → 0 < edges_of_item i
  unfolding is_passive edges_of_item
  passive_filled (active r p m f) e x = let z : ◌≡◌ {A = ℕ} 0 1 = cc in absurd (omega arith)
  passive_filled (passive s m L) e x = filled x

-- ---- the passive items of a derivation
in_both : {A : Type 0} (P : A → Type 0) (xs : List A) {ys : List A} → ((a : A) → In a xs → P a) → ((a : A) → In a ys → P a) → (a : A) → In a (xs ++ ys) → P a
in_both P xs {ys} f g a m = go (in_append xs m)
  where
    go : In a xs ⊎ In a ys → P a
    go (inl n) = f a n
    go (inr n) = g a n

if_passive_lem : (i j : Item) → In j (if_passive i) → (j ≡ i) × (is_passive j ≡ true)
unfolding is_passive
if_passive_lem (active r p m f) j n = absurd (in_nil n)
if_passive_lem (passive s m L) j (here e) = (e, ap is_passive e)
if_passive_lem (passive s m L) j (there n) = absurd (in_nil n)

if_distinct : (i : Item) → Distinct (if_passive i)
if_distinct (active r p m f) = none
if_distinct (passive s m L) = more (λ n. in_nil n) none

passives_passive : (d : Derivation Item) (j : Item) → In j (passives_of d) → is_passive j ≡ true
unfolding passives_of
passives_passive (given i) = λ j m. (if_passive_lem i j m).1
passives_passive (from i d) = in_both (λ (j : Item). is_passive j ≡ true) (if_passive i) (λ j m. (if_passive_lem i j m).1) (passives_passive d)
passives_passive (from₂ i d c) =
    in_both (λ (j : Item). is_passive j ≡ true) (if_passive i) (λ j m. (if_passive_lem i j m).1) (in_both (λ (j : Item). is_passive j ≡ true) (passives_of d) (passives_passive d) (passives_passive c))

-- ---- how an entry uses passive items
pub record Uses (S : System Item) (hs : List (Entry Item)) (e : Entry Item) : Type 0 where
  pub reached : Reachable S e.item e.count
  pub concludes : conclusion e.how ≡ e.item
  pub once : Distinct (passives_of e.how)
  pub inside : (j : Item) → In j (passives_of e.how) → Subset (edges_of_item j) (edges_of_item e.item)
  pub used : (j : Item) → In j (passives_of e.how) → (j ≡ e.item) ⊎ In j (items_of hs)

module _ {S : System Item} {hs : List (Entry Item)} where
  -- of a handled entry: only handled items
  uses_handled : {a : Entry Item} → In a hs → Uses S hs a → (j : Item) → In j (passives_of a.how) → In j (items_of hs)
  uses_handled {a} m u j n = go (u.used j n)
    where
      go : (j ≡ a.item) ⊎ In j (items_of hs) → In j (items_of hs)
      go (inl e) = in_cast e (in_items m)
      go (inr k) = k

  -- an entry for a new item i whose derivation has the passive items xs below i
  uses_below : {i : Item} {n : ℕ} {how : Derivation Item} (xs : List Item) → Reachable S i n → conclusion how ≡ i → passives_of how ≡ if_passive i ++ xs
      → Distinct xs → ((j : Item) → In j xs → Subset (edges_of_item j) (edges_of_item i)) → ((j : Item) → In j xs → In j (items_of hs)) → (In i (items_of hs) → ⊥)
      → Uses S hs (record { item = i; count = n; how = how })
  uses_below {i} xs r c e d w h new =
      record {
        reached = r;
        concludes = c;
        once = rw e (distinct_append (if_passive i) (if_distinct i) d (λ j m n. new (in_cast (sym (if_passive_lem i j m).0) (h j n))));
        inside = rw e (in_both (λ (j : Item). Subset (edges_of_item j) (edges_of_item i)) (if_passive i) (λ j m. rw (if_passive_lem i j m).0 (subset_refl (edges_of_item i))) w);
        used = rw e (in_both (λ (j : Item). (j ≡ i) ⊎ In j (items_of hs)) (if_passive i) (λ j m. inl (if_passive_lem i j m).0) (λ j m. inr (h j m)));
      }

  pub uses_more : {ks : List (Entry Item)} {e : Entry Item} → ((a : Entry Item) → In a hs → In a ks) → Uses S hs e → Uses S ks e
  uses_more {ks} {e} f u = record { reached = u.reached; concludes = u.concludes; once = u.once; inside = u.inside; used = λ j m. go j (u.used j m) }
    where
      go : (j : Item) → (j ≡ e.item) ⊎ In j (items_of hs) → (j ≡ e.item) ⊎ In j (items_of ks)
      go j (inl q) = inl q
      go j (inr n) = let o = of_items hs n in inr (in_cast (sym o.2) (in_items (f o.0 o.1)))

module _ (G : Grammar) (H : Graph) (ok : GrammarOk G) where
  pub uses_made : {hs : List (Entry Item)} {e : Entry Item} → ((a : Entry Item) → In a hs → Uses (closure G H) hs a) → Made (closure G H) hs e → (In e.item (items_of hs) → ⊥)
      → Uses (closure G H) hs e
  unfolding conclusion passives_of
  uses_made v (axiom_made {i = i} x) new = uses_below [] (by_axiom x) refl (sym (append-nil (if_passive i))) none (λ j m. absurd (in_nil m)) (λ j m. absurd (in_nil m)) new
  uses_made v (unary_made {a = a} m u) new =
      let w = v a m in
      uses_below (passives_of a.how) (by_unary w.reached u) refl refl w.once (λ j n. subset_trans (w.inside j n) (unary_edges u)) (uses_handled m w) new
  uses_made {hs} v (binary_made {a = a} {b = b} {i = i} l m u) new =
      let x = v a l in
      let y = v b m in
      let p = binary_edges u in
      uses_below
      (passives_of a.how ++ passives_of b.how)
      (by_binary x.reached y.reached u)
      refl
      refl
      (distinct_append (passives_of a.how) x.once y.once (λ j n k. apart j n k (of_items hs (uses_handled l x j n))))
      (in_both (λ (j : Item). Subset (edges_of_item j) (edges_of_item i)) (passives_of a.how) (λ j n. subset_trans (x.inside j n) p.left) (λ j n. subset_trans (y.inside j n) p.right))
      (in_both (λ (j : Item). In j (items_of hs)) (passives_of a.how) (uses_handled l x) (uses_handled m y))
      new
    where
      -- a passive item of both would have an empty set
      apart : (j : Item) → In j (passives_of a.how) → In j (passives_of b.how) → (e : Entry Item) × In e hs × (e.item ≡ j) → ⊥
      apart j n k o =
          disjoint_empty
          (binary_edges u).disjoint
          ((v a l).inside j n)
          ((v b m).inside j k)
          (passive_filled G H ok j (passives_passive a.how j n) (rw o.2 at (v o.0 o.1).reached))

  pub uses_kept : Kept (closure G H) (Uses (closure G H))
  uses_kept = record { make = uses_made; grow = uses_more }

-- ---- a count is the number of passive items in the derivation: every rule costs 1
abbrev pub Counted : List (Entry Item) → Entry Item → Type 0
Counted hs e = e.count ≡ length (passives_of e.how)

axiom_cost : {G : Grammar} {i : Item} → LeafRule G i → length (if_passive i) ≡ 0
axiom_cost (leaf_rule r p _ _ _) = refl

module _ {G : Grammar} {H : Graph} where
  unary_cost : {a i : Item} {k : ℕ} → UnaryRule G H a k i → length (if_passive i) ≡ k
  unfolding cost
  unary_cost (terminal_rule r p c i g m₁ m f h _ _ _ j) = refl
  unary_cost (root_rule r p m f _) = refl

  binary_cost : {a b i : Item} → BinaryRule G H a b i → length (if_passive i) ≡ 0
  binary_cost (nonterminal_rule r p c i m₁ m₂ m f L h _ _ j) = refl
  binary_cost (join_rule r p a b m₁ m₂ m f g h _ _ j) = refl

  pub counted_made : {hs : List (Entry Item)} {e : Entry Item} → ((a : Entry Item) → In a hs → Counted hs a) → Made (closure G H) hs e → Counted hs e
  unfolding passives_of
  counted_made v (axiom_made x) = sym (axiom_cost x)
  counted_made v (unary_made {a = a} {i = i} m u) = omega (arith, length-append (if_passive i) (passives_of a.how), v a m, unary_cost u)
  counted_made v (binary_made {a = a} {b = b} {i = i} l m u) =
      omega (arith, length-append (if_passive i) (passives_of a.how ++ passives_of b.how), length-append (passives_of a.how) (passives_of b.how), v a l, v b m, binary_cost u)

  pub counted_kept : Kept (closure G H) Counted
  counted_kept = record { make = λ v m new. counted_made v m; grow = λ f c. c }

-- ---- the bounds
-- the passive items that `passives_within` counts
abbrev keep : Bool → Item → List Item → List Item
keep true i is = i ∷ is
keep false i is = is

list_within : ℕ → List (Entry Item) → List Item
list_within m [] = []
list_within m (e ∷ es) = keep (is_passive e.item && within (edges_of_item e.item) m) e.item (list_within m es)

length_within : (m : ℕ) (es : List (Entry Item)) → length (list_within m es) ≡ passives_within m es
unfolding passives_within list_within
length_within m [] = refl
length_within m (e ∷ es) = go (is_passive e.item && within (edges_of_item e.item) m) (length_within m es)
  where
    go : (b : Bool) → length (list_within m es) ≡ passives_within m es → length (keep b e.item (list_within m es)) ≡ flag b + passives_within m es
    go true h = omega arith
    go false h = omega arith

pub within_le : (m : ℕ) (es : List (Entry Item)) → passives_within m es ≤ length es
unfolding passives_within
within_le m [] = omega arith
within_le m (e ∷ es) = go (is_passive e.item && within (edges_of_item e.item) m) (within_le m es)
  where
    go : (b : Bool) → passives_within m es ≤ length es → flag b + passives_within m es ≤ suc (length es)
    go true h = omega arith
    go false h = omega arith

in_within : (m : ℕ) (es : List (Entry Item)) (j : Item) → is_passive j ≡ true → Subset (edges_of_item j) m → In j (items_of es) → In j (list_within m es)
unfolding list_within
in_within m [] j p w n = absurd (in_nil n)
in_within m (e ∷ es) j p w n =
    go (is_passive e.item && within (edges_of_item e.item) m) (λ q. subst (λ (i : Item). T (is_passive i && within (edges_of_item i) m)) q passes) (in_within m es j p w) (in_cons n)
  where
    passes : T (is_passive j && within (edges_of_item j) m)
    passes = rw p (holds_within (edges_of_item j) m w)

    go : (b : Bool) → (j ≡ e.item → T b) → (In j (items_of es) → In j (list_within m es)) → (j ≡ e.item) ⊎ In j (items_of es) → In j (keep b e.item (list_within m es))
    go true f rest (inl q) = here q
    go true f rest (inr k) = there (rest k)
    go false f rest (inl q) = absurd (f q)
    go false f rest (inr k) = rest k

module _ {S : System Item} {hs : List (Entry Item)} {e : Entry Item} (u : Uses S hs e) where
  -- no more passive items than the handled ones within, and the entry's own if that is another
  uses_limit : (own : List Item) → ((j : Item) → In j (passives_of e.how) → j ≡ e.item → In j own ⊎ In j (items_of hs))
      → length (passives_of e.how) ≤ length own + passives_within (edges_of_item e.item) hs
  uses_limit own f =
      omega (arith, distinct_le u.once (λ j n. go j n (u.used j n)), length-append own (list_within (edges_of_item e.item) hs), length_within (edges_of_item e.item) hs)
    where
      place : (j : Item) → In j (passives_of e.how) → In j own ⊎ In j (items_of hs) → In j (own ++ list_within (edges_of_item e.item) hs)
      place j n (inl o) = in_left (list_within (edges_of_item e.item) hs) o
      place j n (inr h) = in_right own (in_within (edges_of_item e.item) hs j (passives_passive e.how j n) (u.inside j n) h)

      go : (j : Item) → In j (passives_of e.how) → (j ≡ e.item) ⊎ In j (items_of hs) → In j (own ++ list_within (edges_of_item e.item) hs)
      go j n (inl q) = place j n (f j n q)
      go j n (inr h) = place j n (inr h)

pub uses_once : {S : System Item} {s : State Item} → Every (Uses S) s → UsesOnce s
uses_once {S} {s} v =
    record {
      concludes = λ e m. (v e m).concludes;
      once = λ e m. (v e m).once;
      passives =
          record {
            handled = λ e m. let l = uses_limit (v e (in_left s.waiting m)) [] (λ j n q. inr (in_cast q (in_items m))) in omega arith;
            waiting_active = λ e m p. let l = uses_limit (v e (in_right s.handled m)) [] (λ j n q. absurd (other (passives_passive e.how j n) (ap is_passive q ∙ p))) in omega arith;
            waiting_passive = λ e m p. let l = uses_limit (v e (in_right s.handled m)) (e.item ∷ []) (λ j n q. inl (here q)) in omega arith;
          };
    }
  where
    other : {b : Bool} → b ≡ true → b ≡ false → ⊥
    other x y = let z : ◌≡◌ {A = ℕ} 0 1 = cc in omega arith

pub count_bounded : {s : State Item} → Every Counted s → UsesOnce s → Bounded s
count_bounded {s} c u =
    record {
      count =
          record {
            handled = λ e m. omega (arith, u.passives.handled e m, c e (in_left s.waiting m));
            waiting_active = λ e m p. omega (arith, u.passives.waiting_active e m p, c e (in_right s.handled m));
            waiting_passive = λ e m p. omega (arith, u.passives.waiting_passive e m p, c e (in_right s.handled m));
          };
      how = u;
    }

-- ---- after a step, and of every state that a run reaches
pub step_bounded : (G : Grammar) (H : Graph) → GrammarOk G → {s t : State Item} → Step (closure G H) s t → Every (Uses (closure G H)) s → Every Counted s → Bounded t
step_bounded G H ok z u c = count_bounded (step_every counted_kept z c) (uses_once (step_every (uses_kept G H ok) z u))

module _ (G : Grammar) (H : Graph) (ok : GrammarOk G) {k : ℕ} {s t : State Item} (z : Start (closure G H) s) (r : Run (closure G H) k s t) where
  pub run_uses_once : UsesOnce t
  run_uses_once = uses_once (run_every (uses_kept G H ok) r (start_every (uses_kept G H ok) z))

  pub bounded : Bounded t
  bounded = count_bounded (run_every counted_kept r (start_every counted_kept z)) run_uses_once
