-- What holds of the agenda at the start and after every step; so each handled entry has the least count of its item.
use mathlib.Core.Path.{◌≡◌, sym, ap, subst, subst₂}
use mathlib.Core.Logic.{◌⊎◌, inl, inr, ◌↔◌}
use mathlib.Core.List.Memᴰ.{append_cases as in_append}
use mathlib.Core.List.Memᴰ.{append_left as in_left}
use mathlib.Core.List.Memᴰ.{append_right as in_right}
use mathlib.Core.List.Memᴰ.{cases_cons as in_cons}
use mathlib.Core.List.Memᴰ.{cast as in_cast}
use mathlib.Core.List.Memᴰ.{map as in_map}
use mathlib.Core.List.Memᴰ.{not-nil as in_nil}
use mathlib.Core.List.Memᴰ.{of_map}
use mathlib.Core.List.Memᴰ.{tail as there}
use mathlib.Core.List.{List, [], ◌++◌, Memᴰ as In}
use Prim.Native.Nat.{ℕ, ◌+◌, ◌≤◌}
use native.Mathlib.Omega.{arith}
use Rattle.hrg.specs.Deduction.{System, Reachable, by_axiom, by_unary, by_binary}
use Rattle.hrg.specs.Agenda.{from, from₂, Entry, State, Distinct, items_of, Made, axiom_made, unary_made, binary_made, Has, Start, Step, Run, stop, idle, step}
use Rattle.hrg.proofs.Members.{map_one, map_apart}

pub record Invariant {Item : Type 0} (S : System Item) (s : State Item) : Type 0 where
  -- every entry is what one rule makes of handled ones
  pub made : (e : Entry Item) → In e (s.handled ++ s.waiting) → Made S s.handled e
  -- and what one rule makes of handled entries is present, with no larger count
  pub closed : (e : Entry Item) → Made S s.handled e → Has (s.handled ++ s.waiting) e.item e.count
  pub order : (h w : Entry Item) → In h s.handled → In w s.waiting → h.count ≤ w.count
  pub distinct : Distinct (items_of (s.handled ++ s.waiting))
  pub reached : (e : Entry Item) → In e (s.handled ++ s.waiting) → Reachable S e.item e.count

-- Item i is handled with count n or less, or an entry of at most this count waits.
abbrev pub Cut : {Item : Type 0} → State Item → Item → ℕ → Type 0
Cut {Item} s i n = Has s.handled i n ⊎ ((w : Entry Item) × In w s.waiting × (w.count ≤ n))

module _ {Item : Type 0} where
  -- the entry of an item
  pub of_items : {i : Item} (es : List (Entry Item)) → In i (items_of es) → (e : Entry Item) × In e es × (e.item ≡ i)
  of_items es m = of_map (λ (e : Entry Item). e.item) es m

  pub in_items : {e : Entry Item} {es : List (Entry Item)} → In e es → In e.item (items_of es)
  in_items m = in_map (λ (e : Entry Item). e.item) m

  pub has_item : {es : List (Entry Item)} {i : Item} {n : ℕ} → Has es i n → In i (items_of es)
  has_item h = in_cast (sym h.item) (in_items h.inside)

  pub has_more : {es fs : List (Entry Item)} {i : Item} {n k : ℕ} → ((e : Entry Item) → In e es → In e fs) → n ≤ k → Has es i n → Has fs i k
  has_more f l h = record { entry = h.entry; inside = f h.entry h.inside; item = h.item; count = omega (arith, h.count) }

  pub has_append : (es : List (Entry Item)) {fs : List (Entry Item)} {i : Item} {n : ℕ} → Has (es ++ fs) i n → Has es i n ⊎ Has fs i n
  has_append es {fs} {i} {n} h = go (in_append es h.inside)
    where
      go : In h.entry es ⊎ In h.entry fs → Has es i n ⊎ Has fs i n
      go (inl m) = inl (record { entry = h.entry; inside = m; item = h.item; count = h.count })
      go (inr m) = inr (record { entry = h.entry; inside = m; item = h.item; count = h.count })

module _ {Item : Type 0} {S : System Item} where
  pub made_more : {hs ks : List (Entry Item)} {e : Entry Item} → ((a : Entry Item) → In a hs → In a ks) → Made S hs e → Made S ks e
  made_more f (axiom_made x) = axiom_made x
  made_more f (unary_made m u) = unary_made (f _ m) u
  made_more f (binary_made l m b) = binary_made (f _ l) (f _ m) b

  pub made_reached : {hs : List (Entry Item)} {e : Entry Item} → ((a : Entry Item) → In a hs → Reachable S a.item a.count) → Made S hs e → Reachable S e.item e.count
  made_reached f (axiom_made x) = by_axiom x
  made_reached f (unary_made m u) = by_unary (f _ m) u
  made_reached f (binary_made l m b) = by_binary (f _ l) (f _ m) b

  -- what uses x has at least its count
  made_cases : {x : Entry Item} {hs ks : List (Entry Item)} {e : Entry Item} → ((a : Entry Item) → In a ks → (a ≡ x) ⊎ In a hs) → Made S ks e → (x.count ≤ e.count) ⊎ Made S hs e
  made_cases f (axiom_made z) = inr (axiom_made z)
  made_cases {x} {hs} f (unary_made {a = a} {k = k} {i = i} m u) = go (f a m)
    where
      go : (a ≡ x) ⊎ In a hs → (x.count ≤ a.count + k) ⊎ Made S hs (record { item = i; count = a.count + k; how = from i a.how })
      go (inl q) = inl (omega (arith, ap (λ (e : Entry Item). e.count) q))
      go (inr l) = inr (unary_made l u)
  made_cases {x} {hs} f (binary_made {a = a} {b = b} {i = i} l m r) = go (f a l) (f b m)
    where
      go : (a ≡ x) ⊎ In a hs → (b ≡ x) ⊎ In b hs → (x.count ≤ a.count + b.count) ⊎ Made S hs (record { item = i; count = a.count + b.count; how = from₂ i a.how b.how })
      go (inl q) c = inl (omega (arith, ap (λ (e : Entry Item). e.count) q))
      go (inr l) (inl q) = inl (omega (arith, ap (λ (e : Entry Item). e.count) q))
      go (inr l) (inr m) = inr (binary_made l m r)

  pub start_invariant : {s : State Item} → Start S s → Invariant S s
  start_invariant {s} z =
      record {
        made = λ e m. made_more (λ a n. absurd (in_nil n)) (first e m);
        closed = λ e m. has_more (λ a n. in_right s.handled n) (omega arith) (z.present e (made_more no_handled m));
        order = λ h w m n. absurd (in_nil (no_handled h m));
        distinct = rw z.handled z.distinct;
        reached = λ e m. made_reached (λ a n. absurd (in_nil n)) (first e m);
      }
    where
      no_handled : (a : Entry Item) → In a s.handled → In a []
      no_handled a m = subst (λ (l : List (Entry Item)). In a l) z.handled m

      go : (e : Entry Item) → In e s.handled ⊎ In e s.waiting → Made S [] e
      go e (inl m) = absurd (in_nil (no_handled e m))
      go e (inr m) = z.origin e m

      first : (e : Entry Item) → In e (s.handled ++ s.waiting) → Made S [] e
      first e m = go e (in_append s.handled m)

  module _ {s t : State Item} (z : Step S s t) (v : Invariant S s) where
    old_handled : (e : Entry Item) → In e s.handled → In e t.handled
    old_handled e m = subst (λ (l : List (Entry Item)). In e l) (sym z.handles) (there m)

    handled_cases : (e : Entry Item) → In e t.handled → (e ≡ z.chosen) ⊎ In e s.handled
    handled_cases e m = in_cons (subst (λ (l : List (Entry Item)). In e l) z.handles m)

    -- the chosen entry has the largest count of the handled ones
    below : (h : Entry Item) → In h t.handled → h.count ≤ z.chosen.count
    below h m = go (handled_cases h m)
      where
        go : (h ≡ z.chosen) ⊎ In h s.handled → h.count ≤ z.chosen.count
        go (inl q) = omega (arith, ap (λ (e : Entry Item). e.count) q)
        go (inr m) = v.order h z.chosen m z.waits

    was_present : (e : Entry Item) → In e t.handled → In e (s.handled ++ s.waiting)
    was_present e m = go (handled_cases e m)
      where
        go : (e ≡ z.chosen) ⊎ In e s.handled → In e (s.handled ++ s.waiting)
        go (inl q) = in_right s.handled (in_cast q z.waits)
        go (inr m) = in_left s.waiting m

    -- what one rule makes was handled before, or has at least the chosen count
    made_after : (e : Entry Item) → Made S t.handled e → Has s.handled e.item e.count ⊎ (z.chosen.count ≤ e.count)
    made_after e m = go (made_cases handled_cases m)
      where
        waited : Has s.handled e.item e.count ⊎ Has s.waiting e.item e.count → Has s.handled e.item e.count ⊎ (z.chosen.count ≤ e.count)
        waited (inl h) = inl h
        waited (inr h) = inr (omega (arith, h.count, z.least h.entry h.inside))

        go : (z.chosen.count ≤ e.count) ⊎ Made S s.handled e → Has s.handled e.item e.count ⊎ (z.chosen.count ≤ e.count)
        go (inl l) = inr l
        go (inr m) = waited (has_append s.handled (v.closed e m))

    made_step : (e : Entry Item) → In e (t.handled ++ t.waiting) → Made S t.handled e
    made_step e m = go (in_append t.handled m)
      where
        waited : In e s.waiting ⊎ Made S t.handled e → Made S t.handled e
        waited (inl m) = made_more old_handled (v.made e (in_right s.handled m))
        waited (inr m) = m

        go : In e t.handled ⊎ In e t.waiting → Made S t.handled e
        go (inl m) = made_more old_handled (v.made e (was_present e m))
        go (inr m) = waited (z.origin e m)

    pub step_invariant : Invariant S t
    step_invariant =
        record {
          made = made_step;
          closed = λ e m. present e (z.adds e m) (made_after e m);
          order = λ h w m n. ordered h w m n (made_after w (made_step w (in_right t.handled n)));
          distinct = z.distinct;
          reached = λ e m. made_reached (λ a n. v.reached a (was_present a n)) (made_step e m);
        }
      where
        present : (e : Entry Item) → In e.item (items_of t.handled) ⊎ Has t.waiting e.item e.count → Has s.handled e.item e.count ⊎ (z.chosen.count ≤ e.count)
            → Has (t.handled ++ t.waiting) e.item e.count
        present e (inr h) c = has_more (λ a n. in_right t.handled n) (omega arith) h
        present e (inl m) (inl h) = has_more (λ a n. in_left t.waiting (old_handled a n)) (omega arith) h
        present e (inl m) (inr l) =
            let o = of_items t.handled m in
            record { entry = o.0; inside = in_left t.waiting o.1; item = o.2; count = omega (arith, below o.0 o.1) }

        ordered : (h w : Entry Item) → In h t.handled → In w t.waiting → Has s.handled w.item w.count ⊎ (z.chosen.count ≤ w.count) → h.count ≤ w.count
        ordered h w m n (inl o) = absurd (map_apart (λ (e : Entry Item). e.item) z.distinct (old_handled o.entry o.inside) n o.item)
        ordered h w m n (inr l) = omega (arith, below h m)

  pub run_invariant : {k : ℕ} {s t : State Item} → Run S k s t → Invariant S s → Invariant S t
  run_invariant stop v = v
  run_invariant (idle e) v = v
  run_invariant (step z r) v = run_invariant r (step_invariant z v)

  -- A derivation stays among the handled entries, or passes one that waits.
  module _ {s : State Item} (v : Invariant S s) where
    cut_made : (e : Entry Item) (n : ℕ) → Made S s.handled e → e.count ≤ n → Cut s e.item n
    cut_made e n m l = go (has_append s.handled (v.closed e m))
      where
        go : Has s.handled e.item e.count ⊎ Has s.waiting e.item e.count → Cut s e.item n
        go (inl h) = inl (has_more (λ a m. m) l h)
        go (inr h) = inr (h.entry, h.inside, omega (arith, h.count))

    pub cut : {i : Item} {n : ℕ} → Reachable S i n → Cut s i n
    cut (by_axiom x) = cut_made _ 0 (axiom_made x) (omega arith)
    cut (by_unary {a = a} {i = i} {n = n} {k = k} r u) = go (cut r)
      where
        go : Cut s a n → Cut s i (n + k)
        go (inl h) = cut_made _ (n + k) (unary_made h.inside (subst (λ (j : Item). S.Unary j k i) (sym h.item) u)) (omega (arith, h.count))
        go (inr w) = inr (w.0, w.1, omega (arith, w.2))
    cut (by_binary {a = a} {b = b} {i = i} {n = n} {k = k} q r x) = go (cut q) (cut r)
      where
        go : Cut s a n → Cut s b k → Cut s i (n + k)
        go (inl g) (inl h) = cut_made _ (n + k) (binary_made g.inside h.inside (subst₂ (λ (c d : Item). S.Binary c d i) (sym g.item) (sym h.item) x)) (omega (arith, g.count, h.count))
        go (inl g) (inr w) = inr (w.0, w.1, omega (arith, w.2))
        go (inr w) c = inr (w.0, w.1, omega (arith, w.2))

    -- a handled entry has the least count with which its item is reachable
    pub handled_least : {h : Entry Item} {n : ℕ} → In h s.handled → Reachable S h.item n → h.count ≤ n
    handled_least {h} {n} m r = go (cut r)
      where
        go : Cut s h.item n → h.count ≤ n
        go (inl o) =
            let q = map_one (λ (e : Entry Item). e.item) v.distinct (in_left s.waiting o.inside) (in_left s.waiting m) o.item in
            omega (arith, o.count, ap (λ (e : Entry Item). e.count) q)
        go (inr w) = omega (arith, w.2, v.order h w.0 m w.1)

    -- no item that is not handled is reachable with a smaller count
    pub waiting_not_less : {h : Entry Item} {i : Item} {n : ℕ} → In h s.handled → Reachable S i n → (In i (items_of s.handled) → ⊥) → h.count ≤ n
    waiting_not_less {h} {i} {n} m r f = go (cut r)
      where
        go : Cut s i n → h.count ≤ n
        go (inl o) = absurd (f (has_item o))
        go (inr w) = omega (arith, w.2, v.order h w.0 m w.1)

    -- when nothing waits, every reachable item is handled
    pub finished : {i : Item} {n : ℕ} → s.waiting ≡ [] → Reachable S i n → Has s.handled i n
    finished {i} {n} e r = go (cut r)
      where
        go : Cut s i n → Has s.handled i n
        go (inl h) = h
        go (inr w) = absurd (in_nil (subst (λ (l : List (Entry Item)). In w.0 l) e w.1))

    -- the items present are those that one rule makes of handled entries
    pub present_iff : (i : Item) → In i (items_of (s.handled ++ s.waiting)) ↔ ((e : Entry Item) × Made S s.handled e × (e.item ≡ i))
    present_iff i = (
      λ m. let o = of_items (s.handled ++ s.waiting) m in (o.0, v.made o.0 o.1, o.2),
      λ o. in_cast (sym o.2) (has_item (v.closed o.0 o.1)),
    )
