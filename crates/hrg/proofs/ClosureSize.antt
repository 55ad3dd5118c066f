-- The size of the closure, and the number of steps of a run.
use mathlib.Core.Path.{◌≡◌, refl, sym, ap, subst}
use mathlib.Core.List.Memᴰ.{append_left as in_left}
use mathlib.Core.List.Memᴰ.{cast as in_cast}
use mathlib.Core.List.Memᴰ.{not-nil as in_nil}
use mathlib.Core.List.{List, [], ◌∷◌, ◌++◌, map-append, Memᴰ as In}
use Prim.Native.Nat.{ℕ, ◌+◌, ◌≤◌, min}
use native.Mathlib.Omega.{arith}
use native.Mathlib.Nat.{zero-add, suc-add}
use lib.ListN.{length, length-append, length-map}
use Rattle.hrg.specs.Deduction.{System, Reachable}
use Rattle.hrg.specs.Agenda.{Entry, State, Distinct, items_of, Start, Run, stop, idle, step, Closure}
use Rattle.hrg.proofs.Members.{distinct_left, distinct_le, distinct_equal}
use Rattle.hrg.proofs.AgendaInvariant.{Invariant, start_invariant, step_invariant, finished, of_items, has_item}

module _ {Item : Type 0} {S : System Item} where
  -- any two lists of the closure have one length
  pub closure_unique : {is js : List Item} → Closure S is → Closure S js → length is ≡ length js
  closure_unique c d =
      distinct_equal c.distinct d.distinct (λ i m. let r = c.reachable i m in d.present i r.0 r.1) (λ i m. let r = d.reachable i m in c.present i r.0 r.1)

  module _ {s : State Item} (v : Invariant S s) where
    handled_distinct : Distinct (items_of s.handled)
    handled_distinct = distinct_left (items_of s.handled) (items_of s.waiting) (rw map-append at v.distinct)

    pub finished_closure : s.waiting ≡ [] → Closure S (items_of s.handled)
    finished_closure e =
        record {
          distinct = handled_distinct;
          reachable = λ i m. go i (of_items s.handled m);
          present = λ i n r. has_item (finished v e r);
        }
      where
        go : (i : Item) → (e : Entry Item) × In e s.handled × (e.item ≡ i) → (n : ℕ) × Reachable S i n
        go i o = (o.0.count, rw o.2 at (v.reached o.0 (in_left s.waiting o.1)))

    -- no more entries are present than a range of all reachable items holds
    pub present_le : {range : List Item} → ((i : Item) (n : ℕ) → Reachable S i n → In i range) → length s.handled + length s.waiting ≤ length range
    present_le {range} f = omega (arith, distinct_le v.distinct go, length-map (s.handled ++ s.waiting) (λ (e : Entry Item). e.item), length-append s.handled s.waiting)
      where
        go : (i : Item) → In i (items_of (s.handled ++ s.waiting)) → In i range
        go i m = let o = of_items (s.handled ++ s.waiting) m in in_cast (sym o.2) (f o.0.item o.0.count (v.reached o.0 o.1))

  -- where nothing waits, no number of steps changes the state
  run_idle : {j : ℕ} (k : ℕ) {s t : State Item} → s.waiting ≡ [] → Run S j s t → Run S k s t
  run_idle k e stop = idle e
  run_idle k e (idle d) = idle d
  run_idle k e (step z r) = absurd (in_nil (subst (λ (l : List (Entry Item)). In z.chosen l) e z.waits))

  -- two runs in turn are one run
  pub run_append : {k j : ℕ} {s t u : State Item} → Run S k s t → Run S j t u → Run S (k + j) s u
  run_append stop q = rw zero-add q
  run_append {j = j} (idle {k = k} e) q = run_idle (k + j) e q
  run_append (step z r) q = rw suc-add (step z (run_append r q))

  steps_from : {k : ℕ} {s t : State Item} {is : List Item} → Invariant S s → Run S k s t → Closure S is → length t.handled ≡ min (length s.handled + k) (length is)
  steps_from {s = s} v stop c = omega (arith, present_le v c.present)
  steps_from {s = s} v (idle e) c = omega (arith, closure_unique (finished_closure v e) c, length-map s.handled (λ (e : Entry Item). e.item))
  steps_from {s = s} v (step z r) c = omega (arith, steps_from (step_invariant z v) r c, ap length z.handles)

  -- a run does the steps given, or as many as the closure has items
  pub run_steps : {k : ℕ} {s t : State Item} {is : List Item} → Start S s → Run S k s t → Closure S is → length t.handled ≡ min k (length is)
  run_steps z r c = omega (arith, steps_from (start_invariant z) r c, ap length z.handled)

  ends_from : {k : ℕ} {s t : State Item} {range : List Item} → Invariant S s → Run S k s t → ((i : Item) (n : ℕ) → Reachable S i n → In i range) → length range ≤ length s.handled + k → t.waiting ≡ []
  ends_from {s = s} {range = range} v stop f l = go s.waiting (present_le v f)
    where
      go : (ws : List (Entry Item)) → length s.handled + length ws ≤ length range → ws ≡ []
      go [] h = refl
      go (w ∷ ws) h = absurd (omega arith)
  ends_from v (idle e) f l = e
  ends_from {s = s} v (step z r) f l = ends_from (step_invariant z v) r f (omega (arith, ap length z.handles))

  -- a run over a finite range of items ends
  pub run_ends : {k : ℕ} {s t : State Item} {range : List Item} → Start S s → Run S k s t → ((i : Item) (n : ℕ) → Reachable S i n → In i range) → length range ≤ k → t.waiting ≡ []
  run_ends z r f l = ends_from (start_invariant z) r f (omega (arith, ap length z.handled))
