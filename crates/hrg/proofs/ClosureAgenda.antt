-- T4 for the closure of a grammar and a graph: it is finite, every run is correct and ends, and outcomes are right.
use mathlib.Core.Path.{◌≡◌, refl, sym, ap, ◌∙◌, subst}
use mathlib.Core.Bool.{Bool, true, false}
use mathlib.Core.List.Memᴰ
use mathlib.Core.List.Memᴰ.{head as here}
use mathlib.Core.List.Memᴰ.{tail as there}
use mathlib.Core.List.{List, [], ◌∷◌, map-append, Memᴰ as In}
use Prim.Native.Nat.{ℕ, ◌≤◌}
use lib.ListN.{length, length-map}
use lib.Dec.{T}
use Rattle.hrg.specs.Grammars.{Graph, Grammar}
use Rattle.hrg.specs.Trees.{applications}
use Rattle.hrg.specs.Deduction.{Reachable}
use Rattle.hrg.specs.Items.{Item, closure, goal}
use Rattle.hrg.specs.WellFormed.{GrammarOk, GraphOk}
use Rattle.hrg.specs.Agenda.{Entry, State, Distinct, items_of, Start, Run, Closure}
use Rattle.hrg.specs.AgendaRun.{Computes}
use Rattle.hrg.specs.ClosureRun.{same_item, rules_of}
use Rattle.hrg.specs.AgendaFacts.{Correct}
use Rattle.hrg.specs.Outcome.{derivable, unfinished, goal_among, outcome_of, outcome, Right}
use Rattle.hrg.proofs.Soundness.{sound}
use Rattle.hrg.proofs.Completeness.{complete, least_fewest}
use Rattle.hrg.proofs.Goals.{goal_reached, goal_generated}
use Rattle.hrg.proofs.Members.{distinct_left}
use Rattle.hrg.proofs.AgendaInvariant.{Invariant, start_invariant, run_invariant, handled_least, waiting_not_less, finished, present_iff}
use Rattle.hrg.proofs.ClosureSize.{closure_unique, finished_closure, run_steps, run_ends}
use Rattle.hrg.proofs.AgendaRun.{start_runs, run_runs, closure_exists}
use Rattle.hrg.proofs.ClosureRun.{same_eq, same_refl, leaf_in, in_leaf, unary_in, in_unary, binary_in, in_binary}
use Rattle.hrg.proofs.Range.{range, in_range}

pub computes : (G : Grammar) (H : Graph) → Computes (closure G H) (rules_of G H)
computes G H =
    record {
      same_equal = same_eq;
      same_itself = same_refl;
      axiom_sound = λ i h. in_leaf G h;
      axiom_found = λ i h. leaf_in G h;
      unary_sound = λ a c h. in_unary G H a h;
      unary_found = λ a k i h. unary_in G H h;
      binary_sound = λ a b i h. in_binary G H a b h;
      binary_found = λ a b i h. binary_in G H h;
    }

module _ (G : Grammar) (H : Graph) (ok : GrammarOk G) (hok : GraphOk G H) where
  in_finite : (i : Item) (n : ℕ) → Reachable (closure G H) i n → In i (range G H)
  in_finite i n x = in_range G H ok hok i n (sound G H ok hok x)

  -- the closure is finite: some repetition-free list has exactly the reachable items
  pub closure_finite : (is : List Item) × Closure (closure G H) is
  closure_finite = closure_exists (computes G H) (range G H) in_finite

  -- its size, which no other such list changes
  pub closure_size : ℕ
  closure_size = length closure_finite.0

  pub closure_size_is : (is : List Item) → Closure (closure G H) is → length is ≡ closure_size
  unfolding closure_size
  closure_size_is is c = closure_unique c closure_finite.1

  -- every run from a start, whatever it chooses among equal counts
  module _ {k : ℕ} {s t : State Item} (start : Start (closure G H) s) (run : Run (closure G H) k s t) where
    invariant : Invariant (closure G H) t
    invariant = run_invariant run (start_invariant start)

    pub run_correct : Correct G H k t
    run_correct =
        record {
          fewest = λ h i. least_fewest G H ok hok h.item h.count (invariant.reached h (Memᴰ.append_left t.waiting i)) (λ n x. handled_least invariant i x);
          order = λ h i j n x out. waiting_not_less invariant i (complete G H ok hok j n x) out;
          distinct = distinct_left (items_of t.handled) (items_of t.waiting) (subst (λ (l : List Item). Distinct l) (map-append (λ (e : Entry Item). e.item) t.handled t.waiting) invariant.distinct);
          steps = λ is c. run_steps start run c;
          present = present_iff invariant;
          done = λ e. finished_closure invariant e;
        }

    -- a run of enough steps ends
    pub run_finishes : closure_size ≤ k → t.waiting ≡ []
    unfolding closure_size
    run_finishes l = run_ends start run (λ i n x. closure_finite.1.present i n x) l

-- ---- what the executable run answers
module _ (G : Grammar) (H : Graph) (ok : GrammarOk G) (hok : GraphOk G H) {k : ℕ} {s t : State Item} (start : Start (closure G H) s) (run : Run (closure G H) k s t) where
  v : Invariant (closure G H) t
  v = run_invariant run (start_invariant start)

  -- the goal among the handled entries, when nothing waits; `skip` says that it is none of the entries passed
  among : (n : ℕ) → ((is : List Item) → Closure (closure G H) is → length is ≡ n) → (es : List (Entry Item)) → ((e : Entry Item) → In e es → In e t.handled)
      → ((e : Entry Item) → In e t.handled → e.item ≡ goal G H → In e es) → t.waiting ≡ [] → Right G H (goal_among (goal G H) n es)
  unfolding goal_among
  among n size [] sub skip e = (size, λ u g. let h = finished v e (goal_reached G H ok hok u g) in absurd (elim (skip h.entry h.inside h.item) [ ]))
  among n size (x ∷ xs) sub skip e = go (same_item (goal G H) x.item) (λ q. same_eq (goal G H) x.item q) (λ q. subst (λ (i : Item). T (same_item (goal G H) i)) (sym q) (same_refl (goal G H))) (among n size xs)
    where
      go : (b : Bool) → (T b → goal G H ≡ x.item) → (x.item ≡ goal G H → T b)
          → (((d : Entry Item) → In d xs → In d t.handled) → ((d : Entry Item) → In d t.handled → d.item ≡ goal G H → In d xs) → t.waiting ≡ [] → Right G H (goal_among (goal G H) n xs))
          → Right G H (elim b [ true ↦ derivable x.count n | false ↦ goal_among (goal G H) n xs ])
      go true f g ih =
          let q = f tt in
          let inside = sub x (here refl) in
          let r : Reachable (closure G H) (goal G H) x.count = subst (λ (i : Item). Reachable (closure G H) i x.count) (sym q) (v.reached x (Memᴰ.append_left t.waiting inside)) in (
            size,
            goal_generated G H ok hok x.count r,
            λ u z. handled_least v inside (subst (λ (i : Item). Reachable (closure G H) i (applications G u)) q (goal_reached G H ok hok u z)),
          )
      go false f g ih = ih (λ d i. sub d (there i)) (λ d i q. next d (skip d i q) q) e
        where
          next : (d : Entry Item) → In d (x ∷ xs) → d.item ≡ goal G H → In d xs
          next d (here p) q = absurd (g (sym (ap (λ (z : Entry Item). z.item) p) ∙ q))
          next d (there i) q = i

  state_right : Right G H (outcome_of G H t)
  unfolding outcome_of
  state_right = go t.waiting refl
    where
      go : (ws : List (Entry Item)) → t.waiting ≡ ws → Right G H (elim ws [ [] ↦ goal_among (goal G H) (length t.handled) t.handled | w ∷ ws ↦ unfinished ])
      go [] e =
          among (length t.handled)
          (λ is c. closure_unique c (finished_closure v e) ∙ length-map t.handled (λ (d : Entry Item). d.item))
          t.handled (λ d i. i) (λ d i q. i) e
      go (w ∷ ws) e = tt

pub outcome_right : (G : Grammar) (H : Graph) → GrammarOk G → GraphOk G H → (k : ℕ) → Right G H (outcome k G H)
unfolding outcome
outcome_right G H ok hok k = state_right G H ok hok (start_runs (computes G H)) (run_runs (computes G H) k)
