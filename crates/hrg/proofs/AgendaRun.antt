-- The agenda on lists does what the definition of a run allows, so over a finite range of items there is a closure.
use mathlib.Core.Path.{◌≡◌, refl, sym, ap, ◌∙◌, subst}
use mathlib.Core.Logic.{◌⊎◌, inl, inr, ◌≢◌}
use mathlib.Core.Bool.{Bool, true, false, not}
use mathlib.Core.List.Memᴰ.{append_cases as in_append}
use mathlib.Core.List.Memᴰ.{append_left as in_left}
use mathlib.Core.List.Memᴰ.{append_right as in_right}
use mathlib.Core.List.Memᴰ.{cases_cons as in_cons}
use mathlib.Core.List.Memᴰ.{cast as in_cast}
use mathlib.Core.List.Memᴰ.{eq_of_singleton}
use mathlib.Core.List.Memᴰ.{head as here}
use mathlib.Core.List.Memᴰ.{map as in_map}
use mathlib.Core.List.Memᴰ.{not-nil as in_nil}
use mathlib.Core.List.Memᴰ.{of_map}
use mathlib.Core.List.Memᴰ.{tail as there}
use mathlib.Core.List.{List, [], ◌∷◌, ◌++◌, map, map-append, flat_map, Memᴰ as In}
use Prim.Native.Nat.{ℕ, zero, suc, ◌+◌, ◌≤◌, ◌<◌}
use native.Mathlib.Omega.{arith}
use lib.Dec.{T, T_not, leb, leb→le, nleb→lt}
use lib.ListN.{length}
use Rattle.hrg.specs.Deduction.{System, Reachable}
use Rattle.hrg.specs.Agenda.{given, from, from₂, Entry, State, Distinct, none, more, items_of, Made, axiom_made, unary_made, binary_made, Has, Start, Step, Run, stop, idle, step, Closure}
use Rattle.hrg.specs.AgendaRun.{Conclusion, Rules, Computes, present, add, add_all, Pick, least, unary_entries, binary_entries, consequences, start_state, handle, step_state, run_state}
use Rattle.hrg.proofs.Members.{Removed, first, later, removed_in, removed_rest, removed_cases, removed_distinct, removed_gone, distinct_head, distinct_tail, distinct_left, distinct_right, distinct_append, distinct_apart, in_flat, of_flat}
use Rattle.hrg.proofs.AgendaInvariant.{Invariant, of_items, in_items, has_item, has_more, has_append, start_invariant, step_invariant, run_invariant}
use Rattle.hrg.proofs.ClosureSize.{finished_closure, run_ends}

-- What `add` does: the entries us become vs.
data Added {Item : Type 0} (e : Entry Item) : List (Entry Item) → List (Entry Item) → Type 0 where
  fresh : Added e [] (e ∷ [])
  kept : {u : Entry Item} {us : List (Entry Item)} → e.item ≡ u.item → u.count ≤ e.count → Added e (u ∷ us) (u ∷ us)
  better : {u : Entry Item} {us : List (Entry Item)} → e.item ≡ u.item → e.count < u.count → Added e (u ∷ us) (e ∷ us)
  past : {u : Entry Item} {us vs : List (Entry Item)} → (e.item ≡ u.item → ⊥) → Added e us vs → Added e (u ∷ us) (u ∷ vs)

-- What `add_all` does.
data AddedAll {Item : Type 0} (hs : List (Entry Item)) : List (Entry Item) → List (Entry Item) → List (Entry Item) → Type 0 where
  done : {us : List (Entry Item)} → AddedAll hs us [] us
  skipped : {e : Entry Item} {us es vs : List (Entry Item)} → In e.item (items_of hs) → AddedAll hs us es vs → AddedAll hs us (e ∷ es) vs
  added : {e : Entry Item} {us ts es vs : List (Entry Item)} → (In e.item (items_of hs) → ⊥) → Added e us ts → AddedAll hs ts es vs → AddedAll hs us (e ∷ es) vs

-- What `least` does: it takes one entry of ws, of least count, out of them.
record Picked {Item : Type 0} (ws : List (Entry Item)) (p : Pick Item) : Type 0 where
  removed : Removed p.chosen ws p.rest
  least : (e : Entry Item) → In e ws → p.chosen.count ≤ e.count

-- What `present` answers.
abbrev Tells : {Item : Type 0} → Bool → Item → List Item → Type 0
Tells true i is = In i is
Tells false i is = In i is → ⊥

module _ {Item : Type 0} where
  added_from : {e f : Entry Item} {us vs : List (Entry Item)} → Added e us vs → In f vs → (f ≡ e) ⊎ In f us
  added_from fresh m = in_cons m
  added_from (kept p l) m = inr m
  added_from (better p l) (here q) = inl q
  added_from (better p l) (there m) = inr (there m)
  added_from (past n a) (here q) = inr (here q)
  added_from {e} {f} (past {u = u} {us = us} n a) (there m) = go (added_from a m)
    where
      go : (f ≡ e) ⊎ In f us → (f ≡ e) ⊎ In f (u ∷ us)
      go (inl q) = inl q
      go (inr m) = inr (there m)

  has_there : {u : Entry Item} {us : List (Entry Item)} {i : Item} {n : ℕ} → Has us i n → Has (u ∷ us) i n
  has_there h = has_more (λ e m. there m) (omega arith) h

  added_new : {e : Entry Item} {us vs : List (Entry Item)} → Added e us vs → Has vs e.item e.count
  added_new {e} fresh = record { entry = e; inside = here refl; item = refl; count = omega arith }
  added_new (kept {u = u} p l) = record { entry = u; inside = here refl; item = sym p; count = l }
  added_new {e} (better p l) = record { entry = e; inside = here refl; item = refl; count = omega arith }
  added_new (past n a) = has_there (added_new a)

  added_keeps : {e : Entry Item} {us vs : List (Entry Item)} {i : Item} {n : ℕ} → Added e us vs → Has us i n → Has vs i n
  added_keeps {i = i} {n = n} a h = go a h.inside h.item h.count
    where
      go : {e f : Entry Item} {us vs : List (Entry Item)} → Added e us vs → In f us → f.item ≡ i → f.count ≤ n → Has vs i n
      go {f = f} fresh m p l = absurd (in_nil m)
      go {f = f} (kept q c) m p l = record { entry = f; inside = m; item = p; count = l }
      go {e} {f = f} (better q c) (here r) p l = record { entry = e; inside = here refl; item = q ∙ ap (λ (z : Entry Item). z.item) (sym r) ∙ p; count = omega (arith, ap (λ (z : Entry Item). z.count) r) }
      go {f = f} (better q c) (there m) p l = record { entry = f; inside = there m; item = p; count = l }
      go {f = f} (past n a) (here r) p l = record { entry = f; inside = here r; item = p; count = l }
      go (past n a) (there m) p l = has_there (go a m p l)

  added_distinct : {e : Entry Item} {us vs : List (Entry Item)} → Added e us vs → Distinct (items_of us) → Distinct (items_of vs)
  added_distinct fresh d = more in_nil none
  added_distinct (kept p l) d = d
  added_distinct (better p l) d = more (λ m. distinct_head d (in_cast (sym p) m)) (distinct_tail d)
  added_distinct {e} (past {u = u} {us = us} {vs = vs} n a) d = more (λ m. go (of_items vs m)) (added_distinct a (distinct_tail d))
    where
      cases : (f : Entry Item) → f.item ≡ u.item → (f ≡ e) ⊎ In f us → ⊥
      cases f p (inl q) = n (ap (λ (z : Entry Item). z.item) (sym q) ∙ p)
      cases f p (inr m) = distinct_head d (in_cast (sym p) (in_items m))

      go : (f : Entry Item) × In f vs × (f.item ≡ u.item) → ⊥
      go o = cases o.0 o.2 (added_from a o.1)

  module _ {hs : List (Entry Item)} where
    all_from : {f : Entry Item} {us es vs : List (Entry Item)} → AddedAll hs us es vs → In f vs → In f us ⊎ In f es
    all_from done m = inl m
    all_from {f} {us = us} (skipped {e = e} {es = es} p a) m = go (all_from a m)
      where
        go : In f us ⊎ In f es → In f us ⊎ In f (e ∷ es)
        go (inl m) = inl m
        go (inr m) = inr (there m)
    all_from {f} {us = us} (added {e = e} {ts = ts} {es = es} p a r) m = go (all_from r m)
      where
        old : (f ≡ e) ⊎ In f us → In f us ⊎ In f (e ∷ es)
        old (inl q) = inr (here q)
        old (inr m) = inl m

        go : In f ts ⊎ In f es → In f us ⊎ In f (e ∷ es)
        go (inl m) = old (added_from a m)
        go (inr m) = inr (there m)

    all_keeps : {us es vs : List (Entry Item)} {i : Item} {n : ℕ} → AddedAll hs us es vs → Has us i n → Has vs i n
    all_keeps done h = h
    all_keeps (skipped p a) h = all_keeps a h
    all_keeps (added p a r) h = all_keeps r (added_keeps a h)

    all_new : {f : Entry Item} {us es vs : List (Entry Item)} → AddedAll hs us es vs → In f es → In f.item (items_of hs) ⊎ Has vs f.item f.count
    all_new done m = absurd (in_nil m)
    all_new (skipped p a) (here q) = inl (in_cast (ap (λ (z : Entry Item). z.item) q) p)
    all_new (skipped p a) (there m) = all_new a m
    all_new {vs = vs} (added p a r) (here q) = inr (subst (λ (z : Entry Item). Has vs z.item z.count) (sym q) (all_keeps r (added_new a)))
    all_new (added p a r) (there m) = all_new r m

    -- us and vs have no item twice, and none of hs
    all_distinct : {us es vs : List (Entry Item)} → AddedAll hs us es vs → Distinct (items_of us) → Distinct (items_of vs)
    all_distinct done d = d
    all_distinct (skipped p a) d = all_distinct a d
    all_distinct (added p a r) d = all_distinct r (added_distinct a d)

    all_apart : {us es vs : List (Entry Item)} → AddedAll hs us es vs → ((u : Entry Item) → In u us → In u.item (items_of hs) → ⊥) → (v : Entry Item) → In v vs → In v.item (items_of hs) → ⊥
    all_apart done f = f
    all_apart (skipped p a) f = all_apart a f
    all_apart {us = us} (added {e = e} {ts = ts} p a r) f = all_apart r (λ t m. go t (added_from a m))
      where
        go : (t : Entry Item) → (t ≡ e) ⊎ In t us → In t.item (items_of hs) → ⊥
        go t (inl q) m = p (in_cast (ap (λ (z : Entry Item). z.item) (sym q)) m)
        go t (inr n) m = f t n m

  least_picked : (e : Entry Item) (fs : List (Entry Item)) → Picked (e ∷ fs) (least e fs)
  unfolding least
  least_picked e [] = record { removed = first refl; least = λ d m. omega (arith, ap (λ (z : Entry Item). z.count) (eq_of_singleton m)) }
  least_picked e (f ∷ fs) = go (leb e.count (least f fs).chosen.count) (least f fs) (leb→le _ _) (nleb→lt _ _) (least_picked f fs)
    where
      go : (b : Bool) (p : Pick Item) → (T b → e.count ≤ p.chosen.count) → (T (not b) → p.chosen.count < e.count) → Picked (f ∷ fs) p
          → Picked (e ∷ f ∷ fs) (elim b [ true ↦ record { chosen = e; rest = f ∷ fs } | false ↦ record { chosen = p.chosen; rest = e ∷ p.rest } ])
      go true p l g k = record { removed = first refl; least = λ d m. low d (in_cons m) }
        where
          low : (d : Entry Item) → (d ≡ e) ⊎ In d (f ∷ fs) → e.count ≤ d.count
          low d (inl q) = omega (arith, ap (λ (z : Entry Item). z.count) q)
          low d (inr m) = omega (arith, l tt, k.least d m)
      go false p l g k = record { removed = later k.removed; least = λ d m. low d (in_cons m) }
        where
          low : (d : Entry Item) → (d ≡ e) ⊎ In d (f ∷ fs) → p.chosen.count ≤ d.count
          low d (inl q) = omega (arith, g tt, ap (λ (z : Entry Item). z.count) q)
          low d (inr m) = k.least d m

module _ {Item : Type 0} {S : System Item} {R : Rules Item} (C : Computes S R) where
  same_no : {i j : Item} → T (not (R.same i j)) → i ≡ j → ⊥
  same_no {i} {j} t e = T_not (R.same i j) t (subst (λ (k : Item). T (R.same i k)) e (C.same_itself i))

  present_tells : (i : Item) (es : List (Entry Item)) → Tells (present R i es) i (items_of es)
  unfolding present
  present_tells i [] = in_nil
  present_tells i (e ∷ es) = go (R.same i e.item) (C.same_equal i e.item) same_no (present R i es) (present_tells i es)
    where
      other : (i ≡ e.item → ⊥) → (In i (items_of es) → ⊥) → (i ≡ e.item) ⊎ In i (items_of es) → ⊥
      other n k (inl q) = n q
      other n k (inr m) = k m

      go : (b : Bool) → (T b → i ≡ e.item) → (T (not b) → i ≡ e.item → ⊥) → (c : Bool) → Tells c i (items_of es) → Tells (elim b [ true ↦ true | false ↦ c ]) i (items_of (e ∷ es))
      go true p n c k = here (p tt)
      go false p n true k = there k
      go false p n false k = λ m. other (n tt) k (in_cons m)

  add_does : (e : Entry Item) (us : List (Entry Item)) → Added e us (add R e us)
  unfolding add
  add_does e [] = fresh
  add_does e (u ∷ us) = go (R.same e.item u.item) (C.same_equal e.item u.item) same_no (leb u.count e.count) (leb→le _ _) (nleb→lt _ _) (add_does e us)
    where
      go : (b : Bool) → (T b → e.item ≡ u.item) → (T (not b) → e.item ≡ u.item → ⊥) → (c : Bool) → (T c → u.count ≤ e.count) → (T (not c) → e.count < u.count) → Added e us (add R e us)
          → Added e (u ∷ us) (elim b [ true ↦ elim c [ true ↦ u ∷ us | false ↦ e ∷ us ] | false ↦ u ∷ add R e us ])
      go true p n true l g a = kept (p tt) (l tt)
      go true p n false l g a = better (p tt) (g tt)
      go false p n c l g a = past (n tt) a

  all_does : (hs us es : List (Entry Item)) → AddedAll hs us es (add_all R hs us es)
  unfolding add_all
  all_does hs us [] = done
  all_does hs us (e ∷ es) = go (present R e.item hs) (present_tells e.item hs) (all_does hs us es) (all_does hs (add R e us) es)
    where
      go : (b : Bool) → Tells b e.item (items_of hs) → AddedAll hs us es (add_all R hs us es) → AddedAll hs (add R e us) es (add_all R hs (add R e us) es)
          → AddedAll hs us (e ∷ es) (elim b [ true ↦ add_all R hs us es | false ↦ add_all R hs (add R e us) es ])
      go true p a c = skipped p a
      go false p a c = added p (add_does e us) c

  -- ---- what the rules make
  unary_in : (a : Entry Item) {k : ℕ} {i : Item} → S.Unary a.item k i → In (record { item = i; count = a.count + k; how = from i a.how }) (unary_entries R a)
  unfolding unary_entries
  unary_in a {k} {i} u = in_map (λ (c : Conclusion Item). record { item = c.item; count = a.count + c.constant; how = from c.item a.how }) (C.unary_found a.item k i u)

  unary_of_is : {hs : List (Entry Item)} {a e : Entry Item} → In a hs → In e (unary_entries R a) → Made S hs e
  unfolding unary_entries
  unary_of_is {hs} {a} l m =
      let o = of_map (λ (c : Conclusion Item). record { item = c.item; count = a.count + c.constant; how = from c.item a.how }) (R.unary a.item) m in
      subst (λ (z : Entry Item). Made S hs z) o.2 (unary_made l (C.unary_sound a.item o.0 o.1))

  binary_in : (a b : Entry Item) {i : Item} → S.Binary a.item b.item i → In (record { item = i; count = a.count + b.count; how = from₂ i a.how b.how }) (binary_entries R a b)
  unfolding binary_entries
  binary_in a b {i} r = in_map (λ (i : Item). record { item = i; count = a.count + b.count; how = from₂ i a.how b.how }) (C.binary_found a.item b.item i r)

  binary_of_is : {hs : List (Entry Item)} {a b e : Entry Item} → In a hs → In b hs → In e (binary_entries R a b) → Made S hs e
  unfolding binary_entries
  binary_of_is {hs} {a} {b} k l m =
      let o = of_map (λ (i : Item). record { item = i; count = a.count + b.count; how = from₂ i a.how b.how }) (R.binary a.item b.item) m in
      subst (λ (z : Entry Item). Made S hs z) o.2 (binary_made k l (C.binary_sound a.item b.item o.0 o.1))

  consequences_of : {hs : List (Entry Item)} {x e : Entry Item} → In x hs → In e (consequences R hs x) → Made S hs e
  unfolding consequences
  consequences_of {hs} {x} {e} l m = go (in_append (unary_entries R x) m)
    where
      pair : (h : Entry Item) → In h hs → In e (binary_entries R x h) ⊎ In e (binary_entries R h x) → Made S hs e
      pair h k (inl m) = binary_of_is l k m
      pair h k (inr m) = binary_of_is k l m

      go : In e (unary_entries R x) ⊎ In e (flat_map (λ h. binary_entries R x h ++ binary_entries R h x) hs) → Made S hs e
      go (inl m) = unary_of_is l m
      go (inr m) = let o = of_flat (λ h. binary_entries R x h ++ binary_entries R h x) hs m in pair o.0 o.1 (in_append (binary_entries R x o.0) o.2)

  first_in : (x : Entry Item) {hs : List (Entry Item)} {h e : Entry Item} → In h hs → In e (binary_entries R x h) → In e (consequences R hs x)
  unfolding consequences
  first_in x {h = h} l m = in_right (unary_entries R x) (in_flat (λ h. binary_entries R x h ++ binary_entries R h x) l (in_left (binary_entries R h x) m))

  second_in : (x : Entry Item) {hs : List (Entry Item)} {h e : Entry Item} → In h hs → In e (binary_entries R h x) → In e (consequences R hs x)
  unfolding consequences
  second_in x {h = h} l m = in_right (unary_entries R x) (in_flat (λ h. binary_entries R x h ++ binary_entries R h x) l (in_right (binary_entries R x h) m))

  -- what one rule makes of x and older entries is a consequence of x, or was made before
  consequences_in : {hs : List (Entry Item)} {x e : Entry Item} → Made S (x ∷ hs) e → In e (consequences R (x ∷ hs) x) ⊎ Made S hs e
  unfolding consequences
  consequences_in (axiom_made z) = inr (axiom_made z)
  consequences_in {hs} {x} (unary_made {a = a} {k = k} {i = i} m u) = go (in_cons m)
    where
      e : Entry Item
      e = record { item = i; count = a.count + k; how = from i a.how }

      go : (a ≡ x) ⊎ In a hs → In e (consequences R (x ∷ hs) x) ⊎ Made S hs e
      go (inl q) = inl (in_left _ (subst (λ (z : Entry Item). In e (unary_entries R z)) q (unary_in a u)))
      go (inr l) = inr (unary_made l u)
  consequences_in {hs} {x} (binary_made {a = a} {b = b} {i = i} l m r) = go (in_cons l) (in_cons m)
    where
      e : Entry Item
      e = record { item = i; count = a.count + b.count; how = from₂ i a.how b.how }

      go : (a ≡ x) ⊎ In a hs → (b ≡ x) ⊎ In b hs → In e (consequences R (x ∷ hs) x) ⊎ Made S hs e
      go (inl q) c = inl (first_in x m (subst (λ (z : Entry Item). In e (binary_entries R z b)) q (binary_in a b r)))
      go (inr k) (inl q) = inl (second_in x l (subst (λ (z : Entry Item). In e (binary_entries R a z)) q (binary_in a b r)))
      go (inr k) (inr n) = inr (binary_made k n r)

  -- ---- the start, a step, a run
  pub start_runs : Start S (start_state R)
  unfolding start_state
  start_runs = record { handled = refl; origin = λ e m. origin e (all_from does m); present = present; distinct = all_distinct does none }
    where
      axioms : List (Entry Item)
      axioms = map (λ i. record { item = i; count = 0; how = given i }) R.axioms

      does : AddedAll [] [] axioms (add_all R [] [] axioms)
      does = all_does [] [] axioms

      origin : (e : Entry Item) → In e [] ⊎ In e axioms → Made S [] e
      origin e (inl m) = absurd (in_nil m)
      origin e (inr m) = let o = of_map (λ (i : Item). record { item = i; count = 0; how = given i }) R.axioms m in subst (λ (z : Entry Item). Made S [] z) o.2 (axiom_made (C.axiom_sound o.0 o.1))

      waits : {i : Item} {n : ℕ} → In i [] ⊎ Has (add_all R [] [] axioms) i n → Has (add_all R [] [] axioms) i n
      waits (inl m) = absurd (in_nil m)
      waits (inr h) = h

      present : (e : Entry Item) → Made S [] e → Has (add_all R [] [] axioms) e.item e.count
      present e (axiom_made {i = i} z) = waits (all_new does (in_map (λ (i : Item). record { item = i; count = 0; how = given i }) (C.axiom_found i z)))
      present e (unary_made m u) = absurd (in_nil m)
      present e (binary_made l m r) = absurd (in_nil m)

  picked_step : (hs ws : List (Entry Item)) (p : Pick Item) → Picked ws p → Invariant S (record { handled = hs; waiting = ws }) → Step S (record { handled = hs; waiting = ws }) (handle R hs p)
  unfolding handle
  picked_step hs ws p k v =
      record {
        chosen = p.chosen;
        waits = removed_in k.removed;
        least = k.least;
        handles = refl;
        origin = λ e m. origin e (all_from does m);
        keeps = λ e m. keeps e (removed_cases k.removed m);
        adds = λ e m. adds e (consequences_in m);
        distinct = rw map-append (distinct_append (items_of xs) xs_distinct (all_distinct does rest_distinct) apart);
      }
    where
      xs : List (Entry Item)
      xs = p.chosen ∷ hs

      vs : List (Entry Item)
      vs = add_all R xs p.rest (consequences R xs p.chosen)

      does : AddedAll xs p.rest (consequences R xs p.chosen) vs
      does = all_does xs p.rest (consequences R xs p.chosen)

      origin : (e : Entry Item) → In e p.rest ⊎ In e (consequences R xs p.chosen) → In e ws ⊎ Made S xs e
      origin e (inl m) = inl (removed_rest k.removed m)
      origin e (inr m) = inr (consequences_of (here refl) m)

      keeps : (e : Entry Item) → (e ≡ p.chosen) ⊎ In e p.rest → (e.item ≡ p.chosen.item) ⊎ Has vs e.item e.count
      keeps e (inl q) = inl (ap (λ (z : Entry Item). z.item) q)
      keeps e (inr m) = inr (all_keeps does (record { entry = e; inside = m; item = refl; count = omega arith }))

      was : {i : Item} {n : ℕ} → Has hs i n ⊎ Has ws i n → In i (items_of xs) ⊎ Has vs i n
      was (inl h) = inl (there (has_item h))
      was {i} {n} (inr h) = go (removed_cases k.removed h.inside)
        where
          go : (h.entry ≡ p.chosen) ⊎ In h.entry p.rest → In i (items_of xs) ⊎ Has vs i n
          go (inl q) = inl (here (sym h.item ∙ ap (λ (z : Entry Item). z.item) q))
          go (inr m) = inr (all_keeps does (record { entry = h.entry; inside = m; item = h.item; count = h.count }))

      adds : (e : Entry Item) → In e (consequences R xs p.chosen) ⊎ Made S hs e → In e.item (items_of xs) ⊎ Has vs e.item e.count
      adds e (inl m) = all_new does m
      adds e (inr m) = was (has_append hs (v.closed e m))

      parts : Distinct (items_of hs ++ items_of ws)
      parts = rw map-append at v.distinct

      not_handled : (w : Entry Item) → In w ws → In w.item (items_of hs) → ⊥
      not_handled w m n = distinct_apart parts n (in_items m)

      xs_distinct : Distinct (items_of xs)
      xs_distinct = more (not_handled p.chosen (removed_in k.removed)) (distinct_left (items_of hs) (items_of ws) parts)

      ws_distinct : Distinct (items_of ws)
      ws_distinct = distinct_right (items_of hs) (items_of ws) parts

      rest_distinct : Distinct (items_of p.rest)
      rest_distinct = removed_distinct (λ (e : Entry Item). e.item) k.removed ws_distinct

      rest_apart : (u : Entry Item) → In u p.rest → (u.item ≡ p.chosen.item) ⊎ In u.item (items_of hs) → ⊥
      rest_apart u m (inl q) = removed_gone (λ (e : Entry Item). e.item) k.removed ws_distinct (in_cast (sym q) (in_items m))
      rest_apart u m (inr n) = not_handled u (removed_rest k.removed m) n

      apart : (i : Item) → In i (items_of xs) → In i (items_of vs) → ⊥
      apart i l m = let o = of_items vs m in all_apart does (λ u n j. rest_apart u n (in_cons j)) o.0 o.1 (in_cast o.2 l)

  pub step_runs : {s : State Item} → Invariant S s → s.waiting ≢ [] → Step S s (step_state R s)
  unfolding step_state
  step_runs {s} v n = go s.handled s.waiting v n
    where
      go : (hs ws : List (Entry Item)) → Invariant S (record { handled = hs; waiting = ws }) → ws ≢ [] → Step S (record { handled = hs; waiting = ws }) (step_state R (record { handled = hs; waiting = ws }))
      go hs [] v n = absurd (n refl)
      go hs (w ∷ ws) v n = picked_step hs (w ∷ ws) (least w ws) (least_picked w ws) v

  pub run_from : (k : ℕ) {s : State Item} → Invariant S s → Run S k s (run_state k R s)
  unfolding run_state
  run_from zero v = stop
  run_from (suc k) {s} v = go s.waiting refl (λ u. run_from k u)
    where
      go : (ws : List (Entry Item)) → s.waiting ≡ ws → (Invariant S (step_state R s) → Run S k (step_state R s) (run_state k R (step_state R s)))
          → Run S (suc k) s (elim ws [ [] ↦ s | w ∷ ws ↦ run_state k R (step_state R s) ])
      go [] e f = idle e
      go (w ∷ ws) e f =
          let z = step_runs v (λ q. in_nil (subst (λ (l : List (Entry Item)). In w l) (sym e ∙ q) (here refl))) in
          step z (f (step_invariant z v))

  pub run_runs : (k : ℕ) → Run S k (start_state R) (run_state k R (start_state R))
  run_runs k = run_from k (start_invariant start_runs)

  -- rules that compute have a closure over every finite range of items
  pub closure_exists : (range : List Item) → ((i : Item) (n : ℕ) → Reachable S i n → In i range) → (is : List Item) × Closure S is
  closure_exists range f =
      let r = run_runs (length range) in
      (items_of (run_state (length range) R (start_state R)).handled, finished_closure (run_invariant r (start_invariant start_runs)) (run_ends start_runs r f (omega arith)))
