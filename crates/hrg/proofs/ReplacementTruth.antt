-- T3 for items: an item is true by trees with n applications exactly when it is true by n steps of edge replacement.
use mathlib.Core.Path.{◌≡◌, refl, sym, ap, ◌∙◌, subst}
use mathlib.Core.Bool.{Bool, true, false}
use mathlib.Core.Logic.{◌↔◌}
use mathlib.Core.List.{List, [], ◌∷◌, map, map-map, head-eq_of_cons-eq, tail-eq_of_cons-eq, Memᴰ as In}
use Prim.Native.Nat.{ℕ, zero, suc, ◌+◌, ◌≤◌, ◌<◌}
use native.Mathlib.Nat.{not-suc-le-zero}
use native.Mathlib.Omega.{arith}
use lib.ListN.{length}
use lib.Dec.{ltb, ltb→lt, lt→ltb}
use Rattle.masks.specs.Masks.{member}
use Rattle.masks.proofs.Laws.{bit_le}
use Rattle.hrg.specs.Counts.{hit, occurs, tabulate, up_to, cons_if, select}
use Rattle.hrg.specs.Grammars.{nonterminal, Edge, Graph, touches, Rule, Grammar, rule_of, kind_of, edge_at}
use Rattle.hrg.specs.Trees.{unplaced, at, images, Tree, apply, Parts, edges_of, edges_in, inner_in, Fits, FitsParts}
use Rattle.hrg.specs.Deduction.{Reachable}
use Rattle.hrg.specs.Items.{below, is_open_at, keep_if, restrict, Item, active, passive, closure, goal}
use Rattle.hrg.specs.Truth.{edges_below, IsBelow, ActiveTruth, PassiveTruth, Truth, Fewest}
use Rattle.hrg.specs.WellFormed.{Listed, GrammarOk, GraphOk, RuleOk}
use Rattle.hrg.specs.Agenda.{Entry, State, Start, Run}
use Rattle.hrg.specs.Replacement.{renamed, Yields, subgraph, Member, preorder_in}
use Rattle.hrg.specs.ReplacementTruth.{PassiveReplaced, nodes_below, open_nodes, edges_on, ActiveReplaced, Replaced, FewestSteps}
use Rattle.hrg.proofs.Sums.{hit_eq, hit_ne, occurs_up_to, occurs_kept, length_tabulate, at_tabulate, tabulate_ext, images_le}
use Rattle.hrg.proofs.Plans.{below_known}
use Rattle.hrg.proofs.Degrees.{zero_or, by_test, test_T, T_test}
use Rattle.hrg.proofs.Parts.{fits_place}
use Rattle.hrg.proofs.TreeNodes.{images_pos, images_find, pos_sum, Touched, touched_inner, touched_at, Held, inside, ends, held_parts, parts_inside, parts_known, edges_known}
use Rattle.hrg.proofs.Sides.{edges_at, edges_at_lem, images_eq, open_at_in, below_of, at_restrict}
use Rattle.hrg.proofs.Joining.{keep_ext}
use Rattle.hrg.proofs.Range.{mask_small}
use Rattle.hrg.proofs.Goals.{goal_reached, goal_generated}
use Rattle.hrg.proofs.ClosureAgenda.{run_correct}
use Rattle.hrg.proofs.TreesToReplacement.{steps_parts, parts_run}
use Rattle.hrg.proofs.ReplacementToTrees.{at_images, fits_renamed, Attached, in_map_find, in_edge}
use Rattle.hrg.proofs.Targets.{up_to_once, select_le, select_passed, touches_in, touches_of, set_edges, Lies, listed, on_edge_is, subgraph_nodes, subgraph_target, subgraph_externals}
use Rattle.hrg.proofs.Replacement.{yields_of, Placed, yields_placed, replacement_trees, member_generated}

-- ---- lists
-- the edge with a number of the list is among them
at_edges : (P : Graph) (is : List ℕ) (j : ℕ) → 0 < occurs j is → (i : ℕ) × (i < length (edges_at P is)) × (edge_at (edges_at P is) i ≡ edge_at P.edges j)
unfolding occurs
at_edges P [] j h = absurd (not-suc-le-zero h)
at_edges P (i ∷ is) j h =
    pos_sum (hit j i) (occurs j is) h
    (λ a. (0, omega arith, ap (λ (k : ℕ). edge_at P.edges k) (sym (hit_eq j i a))))
    (λ a. let t = at_edges P is j a in (suc t.0, omega (arith, t.1), t.2))

-- two equal lists of images, place by place
same_at : (l k f xs : List ℕ) → images l (images k xs) ≡ images f xs → (x : ℕ) → 0 < occurs x xs → at l (at k x) ≡ at f x
unfolding occurs
same_at l k f [] q x h = absurd (not-suc-le-zero h)
same_at l k f (y ∷ ys) q x h =
    pos_sum (hit x y) (occurs x ys) h
    (λ a. let e = hit_eq x y a in ap (λ (z : ℕ). at l (at k z)) e ∙ head-eq_of_cons-eq q ∙ ap (λ (z : ℕ). at f z) (sym e))
    (λ a. same_at l k f ys (tail-eq_of_cons-eq q) x a)

-- the entries of a table that are kept, by a node that is one
kept_entries : (v n : ℕ) (t : ℕ → Bool) (h s : ℕ → ℕ) → v < unplaced
    → occurs v (tabulate n (λ x. keep_if (t (s x)) (h (s x)))) ≡ occurs v (map h (select t (tabulate n s)))
unfolding occurs tabulate select
kept_entries v zero t h s l = refl
kept_entries v (suc n) t h s l = go (t (s 0)) (kept_entries v n t h (λ i. s (suc i)) l)
  where
    go : (b : Bool) → occurs v (tabulate n (λ x. keep_if (t (s (suc x))) (h (s (suc x))))) ≡ occurs v (map h (select t (tabulate n (λ i. s (suc i)))))
        → hit v (keep_if b (h (s 0))) + occurs v (tabulate n (λ x. keep_if (t (s (suc x))) (h (s (suc x))))) ≡ occurs v (map h (cons_if b (s 0) (select t (tabulate n (λ i. s (suc i))))))
    go true q = omega arith
    go false q = omega (arith, hit_ne v unplaced (λ e. omega arith))

-- ---- the rule nodes below a plan node
abbrev on_below : Rule → ℕ → ℕ → Bool
on_below R p x = touches (λ i. ltb 0 (occurs i (below R.plan p))) R.production.right.edges x

module _ {G : Grammar} (R : Rule) (ok : RuleOk G R) (p : ℕ) (under : p < length R.plan) where
  low : (x : ℕ) → IsBelow R p x → x < R.production.right.nodes
  low x b = (ok.right.edge b.edge (below_known _ R.plan ok.plan p b.edge b.under)).listed.inside x b.on

  below_passed : (x : ℕ) → IsBelow R p x → on_below R p x ≡ true
  below_passed x b =
      touches_of (λ i. ltb 0 (occurs i (below R.plan p))) R.production.right.edges x b.edge (below_known _ R.plan ok.plan p b.edge b.under)
      (T_test _ (lt→ltb 0 _ b.under)) b.on

  passed_below : (x : ℕ) → on_below R p x ≡ true → IsBelow R p x
  passed_below x q =
      let t = touches_in (λ i. ltb 0 (occurs i (below R.plan p))) R.production.right.edges x q in
      record { edge = t.0; under = ltb→lt 0 _ (test_T _ t.2); on = t.3 }

  listed_below : (x : ℕ) → 0 < occurs x (nodes_below R p) → IsBelow R p x
  listed_below x h = passed_below x (select_passed (λ x. on_below R p x) x (up_to R.production.right.nodes) h)

  below_listed : (x : ℕ) → IsBelow R p x → 0 < occurs x (nodes_below R p)
  below_listed x b = omega (arith, occurs_kept (λ x. on_below R p x) x (up_to R.production.right.nodes) (below_passed x b), occurs_up_to R.production.right.nodes x (low x b))

  below_list : Listed R.production.right.nodes (length (nodes_below R p)) (nodes_below R p)
  below_list =
      record {
        ranked = refl;
        inside = λ x h. low x (listed_below x h);
        once = λ x. omega (arith, select_le (λ x. on_below R p x) x (up_to R.production.right.nodes), up_to_once R.production.right.nodes x);
      }

  open_passed : (x : ℕ) → 0 < occurs x (open_nodes R p) → is_open_at R p x ≡ true
  open_passed x h = select_passed (λ x. is_open_at R p x) x (up_to R.production.right.nodes) h

  open_below : (x : ℕ) → 0 < occurs x (open_nodes R p) → IsBelow R p x
  open_below x h = below_of R ok p under x (open_at_in R ok p under x (open_passed x h)).0

  -- a node on one of the edges below
  edge_below : (i x : ℕ) → i < length (edges_below R p) → 0 < occurs x (edge_at (edges_below R p) i).attachment → IsBelow R p x
  edge_below i x l h =
      let t = edges_at_lem R.production.right (below R.plan p) i l in
      record { edge = t.0; under = t.1; on = subst (λ (e : Edge). 0 < occurs x e.attachment) t.2 h }

-- how often a node is inner in a part or the place of a rule node below
abbrev total : Grammar → Rule → ℕ → Parts → List ℕ → ℕ → ℕ
total G R p ps place v = occurs v (inner_in G ps) + occurs v (images place (nodes_below R p))

module _ (G : Grammar) (H : Graph) (ok : GrammarOk G) (hok : GraphOk G H) where
  -- ---- active items: from trees to replacement, with the places for names
  module _ (R : Rule) (rok : RuleOk G R) (p : ℕ) (under : p < length R.plan) {m n : ℕ} {f : List ℕ} (t : ActiveTruth G H R p m f n) where
    total_inside : (v : ℕ) → 0 < total G R p t.parts t.place v → v < H.nodes
    total_inside v h =
        pos_sum (occurs v (inner_in G t.parts)) (occurs v (images t.place (nodes_below R p))) h
        (parts_inside G H ok t.parts v t.place (edges_below R p) t.fits)
        (λ a. let x = images_find t.place (nodes_below R p) v a in
        let b = listed_below R rok p under x.0 x.1 in
        subst (λ (u : ℕ). u < H.nodes) x.2 (t.placed x.0 (low R rok p under x.0 b) b))

    total_once : (v : ℕ) → total G R p t.parts t.place v ≤ 1
    total_once v =
        zero_or (total G R p t.parts t.place v)
        (λ z. omega arith)
        (λ h. omega (arith, t.once v (total_inside v h), images_le v R.production.right.nodes (length (nodes_below R p)) t.place (nodes_below R p) t.sized (below_list R rok p under)))

    -- the map shows the open nodes where they are placed
    shown : (x : ℕ) → 0 < occurs x (open_nodes R p) → at f x ≡ at t.place x
    shown x h =
        ap (λ (g : List ℕ). at g x) t.map ∙ at_restrict R rok p under t.place x (low R rok p under x (open_below R rok p under x h))
        ∙ ap (λ (b : Bool). keep_if b (at t.place x)) (open_passed R rok p under x h)

    place_pos : (v x : ℕ) → IsBelow R p x → at t.place x ≡ v → 0 < total G R p t.parts t.place v
    place_pos v x b q =
        omega (arith, subst (λ (u : ℕ). 0 < occurs u (images t.place (nodes_below R p))) q (images_pos t.place (nodes_below R p) x (below_listed R rok p under x b)))

    total_lies : (v : ℕ) → 0 < total G R p t.parts t.place v → Lies H (images f (open_nodes R p)) m v
    total_lies v h =
        pos_sum (occurs v (inner_in G t.parts)) (occurs v (images t.place (nodes_below R p))) h
        (λ a. found (touched_inner G H ok t.parts v t.place (edges_below R p) t.fits a))
        (λ a. let x = images_find t.place (nodes_below R p) v a in
        let b = listed_below R rok p under x.0 x.1 in
        let i = at_edges R.production.right (below R.plan p) b.edge b.under in
        let e = edge_at (edges_below R p) i.0 in
        found (touched_at G H ok t.parts v t.place (edges_below R p) t.fits i.0 i.1
        (subst (λ (u : ℕ). 0 < occurs u (images t.place e.attachment)) x.2
        (images_pos t.place e.attachment x.0 (subst (λ (d : Edge). 0 < occurs x.0 d.attachment) (sym i.2) b.on)))))
      where
        found : Touched G H ok v (edges_in t.parts) → Lies H (images f (open_nodes R p)) m v
        found k = on_edge_is k.edge k.known (omega (arith, t.edges k.edge, k.used)) k.on

    lies_total : (v : ℕ) → Lies H (images f (open_nodes R p)) m v → 0 < total G R p t.parts t.place v
    lies_total v (listed h) =
        let x = images_find f (open_nodes R p) v h in
        place_pos v x.0 (open_below R rok p under x.0 x.1) (sym (shown x.0 x.1) ∙ x.2)
    lies_total v (on_edge_is e l b o) = go (held_parts G H ok v e o t.parts t.place (edges_below R p) t.fits (omega (arith, t.edges e)))
      where
        go : Held G H ok v e o t.place t.parts (edges_below R p) → 0 < total G R p t.parts t.place v
        go (inside h) = omega arith
        go (ends i k h) =
            let x = images_find t.place (edge_at (edges_below R p) i).attachment v h in
            place_pos v x.0 (edge_below R rok p under i x.0 k x.1) x.2

    active_replaced : ActiveReplaced G H R p m f n
    active_replaced =
        let gs = select (λ e. member m e) (up_to (length H.edges)) in
        let L = images f (open_nodes R p) in
        let small = mask_small G H ok hok m (edges_in t.parts) t.edges (λ e. parts_known G H ok t.parts e t.place (edges_below R p) t.fits) in
        record {
          names = t.place;
          sized = t.sized;
          once = λ v. omega (arith, total_once v);
          map = t.map;
          inside = small;
          yields = subst (λ (k : ℕ). Yields G (edges_on R p t.place) (subgraph H L m) k) (steps_parts G t.parts ∙ t.count)
              (yields_of G H hok (edges_on R p t.place) (subgraph H L m) (preorder_in t.parts) (inner_in G t.parts) (edges_in t.parts) gs
              (parts_run G H t.parts t.place (edges_below R p) (images t.place (nodes_below R p)) (images t.place (open_nodes R p)) t.fits total_once)
              (subgraph_target H L m)
              (λ e. t.edges e ∙ set_edges H m small e)
              (λ v. subgraph_nodes H L m v (total G R p t.parts t.place v) (total_once v) (total_inside v) (total_lies v) (lies_total v))
              (images_eq t.place f (open_nodes R p) (λ x h. sym (shown x h)) ∙ sym (subgraph_externals H L m)));
          covers = t.covers;
        }

  -- ---- and back, with the renaming of the names for places
  module _ (R : Rule) (rok : RuleOk G R) (p : ℕ) (under : p < length R.plan) {m n : ℕ} {f : List ℕ} (a : ActiveReplaced G H R p m f n) where
    name_pos : (x : ℕ) → IsBelow R p x → 0 < occurs (at a.names x) (images a.names (nodes_below R p))
    name_pos x b = images_pos a.names (nodes_below R p) x (below_listed R rok p under x b)

    attached : Attached (edges_on R p a.names)
    attached e i v h =
        let d = in_map_find (renamed (λ x. at a.names x)) (edges_below R p) i in
        let k = in_edge d.1 in
        let x = images_find a.names d.0.attachment v (subst (λ (c : Edge). 0 < occurs v c.attachment) d.2 h) in
        subst (λ (u : ℕ). 0 < occurs u (images a.names (nodes_below R p))) x.2
        (name_pos x.0 (edge_below R rok p under k.0 x.0 k.1 (subst (λ (c : Edge). 0 < occurs x.0 c.attachment) k.2 x.1)))

    externals_named : (v : ℕ) → 0 < occurs v (images a.names (open_nodes R p)) → 0 < occurs v (images a.names (nodes_below R p))
    externals_named v h =
        let x = images_find a.names (open_nodes R p) v h in
        subst (λ (u : ℕ). 0 < occurs u (images a.names (nodes_below R p))) x.2 (name_pos x.0 (open_below R rok p under x.0 x.1))

    found : Placed G H ok (edges_on R p a.names) (subgraph H (images f (open_nodes R p)) m) (select (λ e. member m e) (up_to (length H.edges))) n
    found =
        yields_placed G H ok (edges_on R p a.names) (subgraph H (images f (open_nodes R p)) m) (select (λ e. member m e) (up_to (length H.edges))) n attached externals_named
        (subgraph_target H (images f (open_nodes R p)) m) a.yields

    -- the graph node of each rule node below
    unfoldable placed : ℕ → ℕ
    placed x = at found.place (at a.names x)

    unfoldable places : List ℕ
    places = tabulate R.production.right.nodes (λ x. keep_if (on_below R p x) (placed x))

    at_places : (x : ℕ) → IsBelow R p x → at places x ≡ placed x
    unfolding places
    at_places x b =
        at_tabulate R.production.right.nodes (λ x. keep_if (on_below R p x) (placed x)) x (low R rok p under x b)
        ∙ ap (λ (c : Bool). keep_if c (placed x)) (below_passed R rok p under x b)

    places_once : (v : ℕ) → v < H.nodes → occurs v places ≡ occurs v (images found.place (images a.names (nodes_below R p)))
    unfolding places placed up_to
    places_once v l =
        kept_entries v R.production.right.nodes (λ x. on_below R p x) (λ x. at found.place (at a.names x)) (λ x. x) (omega (arith, hok.side.node_count.upper))
        ∙ ap (occurs v) (sym (map-map (λ x. at found.place x) (λ x. at a.names x) (nodes_below R p)))

    named_low : (x : ℕ) → IsBelow R p x → x < length a.names
    named_low x b = omega (arith, a.sized, low R rok p under x b)

    fits_places : FitsParts G H places found.parts (edges_below R p)
    unfolding placed
    fits_places =
        fits_place G H (images found.place a.names) places found.parts (edges_below R p)
        (λ i l. images_eq (images found.place a.names) places (edge_at (edges_below R p) i).attachment
        (λ x h. let b = edge_below R rok p under i x l h in at_images found.place a.names x (named_low x b) ∙ sym (at_places x b)))
        (fits_renamed G H found.place a.names found.parts (edges_below R p) (λ i l x h. named_low x (edge_below R rok p under i x l h)) found.fits)

    placed_inside : (x : ℕ) → IsBelow R p x → placed x < H.nodes
    unfolding placed
    placed_inside x b =
        (subgraph_target H (images f (open_nodes R p)) m).inside (at found.place (at a.names x))
        (omega (arith, found.nodes (at found.place (at a.names x)), images_pos found.place (images a.names (nodes_below R p)) (at a.names x) (name_pos x b)))

    placed_open : (x : ℕ) → 0 < occurs x (open_nodes R p) → placed x ≡ at a.names x
    unfolding placed
    placed_open x h =
        same_at found.place a.names f (open_nodes R p) (found.externals ∙ subgraph_externals H (images f (open_nodes R p)) m) x h
        ∙ ap (λ (g : List ℕ). at g x) a.map ∙ at_restrict R rok p under a.names x (low R rok p under x (open_below R rok p under x h))
        ∙ ap (λ (b : Bool). keep_if b (at a.names x)) (open_passed R rok p under x h)

    active_truth : ActiveTruth G H R p m f n
    unfolding places restrict
    active_truth =
        let N = R.production.right.nodes in
        let at_entry_lem = at_tabulate N (λ x. keep_if (on_below R p x) (placed x)) in
        record {
          place = places;
          parts = found.parts;
          sized = length_tabulate N (λ x. keep_if (on_below R p x) (placed x));
          placed = λ x l b. subst (λ (v : ℕ). v < H.nodes) (sym (at_places x b)) (placed_inside x b);
          others = λ x l no_edge. at_entry_lem x l ∙ by_test (on_below R p x) (λ q. absurd (no_edge (passed_below R rok p under x q))) (λ q. ap (λ (c : Bool). keep_if c (placed x)) q);
          fits = fits_places;
          edges = λ e. found.edges e ∙ sym (set_edges H m a.inside e);
          once = λ v l. omega (arith, places_once v l, found.nodes v, (subgraph_target H (images f (open_nodes R p)) m).once v);
          map = a.map ∙ tabulate_ext N (λ x. keep_if (is_open_at R p x) (at a.names x)) (λ x. keep_if (is_open_at R p x) (at places x))
              (λ x l. keep_ext (is_open_at R p x) (at a.names x) (at places x) (λ q.
              let o : 0 < occurs x (open_nodes R p) = omega (arith, occurs_kept (λ x. is_open_at R p x) x (up_to N) q, occurs_up_to N x l) in
              sym (at_places x (open_below R rok p under x o) ∙ placed_open x o)));
          covers = a.covers;
          count = found.count;
        }

  -- ---- passive items
  fits_kind : (t : Tree) (s : ℕ) (L : List ℕ) → Fits G H s L t → kind_of G s ≡ nonterminal
  fits_kind (apply r place ps) s L x = x.0.kind

  passive_replaced : (s m n : ℕ) (L : List ℕ) → PassiveTruth G H s m L n → PassiveReplaced G H s m L n
  passive_replaced s m n L t =
      let kind = fits_kind t.tree s L t.fits in
      let small = mask_small G H ok hok m (edges_of t.tree) t.edges (λ e. edges_known G H ok t.tree s e L t.fits) in
      record {
        kind = kind;
        inside = small;
        yields = (replacement_trees G H ok hok s L m n kind small).1
            (record { tree = t.tree; fits = t.fits; apart = record { edges = λ e. omega (arith, t.edges e, bit_le m e); nodes = t.once }; edges = t.edges; count = t.count });
        covers = t.covers;
      }

  passive_truth : (s m n : ℕ) (L : List ℕ) → PassiveReplaced G H s m L n → PassiveTruth G H s m L n
  passive_truth s m n L a =
      let t = (replacement_trees G H ok hok s L m n a.kind a.inside).0 a.yields in
      record { tree = t.tree; fits = t.fits; edges = t.edges; once = t.apart.nodes; covers = a.covers; count = t.count }

  -- ---- T3 for every item
  pub truth_replaced : (i : Item) (n : ℕ) → Truth G H i n ↔ Replaced G H i n
  truth_replaced (active r p m f) n = (
    λ t. (t.0, t.1, active_replaced (rule_of G r) (ok.rule r t.0) p t.1 t.2),
    λ a. (a.0, a.1, active_truth (rule_of G r) (ok.rule r a.0) p a.1 a.2),
  )
  truth_replaced (passive s m L) n = (passive_replaced s m n L, passive_truth s m n L)

  pub fewest_steps : (i : Item) (n : ℕ) → Fewest G H i n ↔ FewestSteps G H i n
  fewest_steps i n = (
    λ f. record { some = (truth_replaced i n).0 f.some; least = λ k a. f.least k ((truth_replaced i k).1 a) },
    λ f. record { some = (truth_replaced i n).1 f.some; least = λ k t. f.least k ((truth_replaced i k).0 t) },
  )

  -- what any run of the agenda has handled, it has with the fewest replacement steps
  pub handled_by_replacement : {k : ℕ} {s t : State Item} → Start (closure G H) s → Run (closure G H) k s t → (h : Entry Item) → In h t.handled → FewestSteps G H h.item h.count
  handled_by_replacement start run h i = (fewest_steps h.item h.count).0 ((run_correct G H ok hok start run).fewest h i)

  -- T2 and T3: the goal is reached with n exactly when the graph is generated in n steps
  pub goal_member : (n : ℕ) → Reachable (closure G H) (goal G H) n ↔ Member G H n
  goal_member n = (
    λ x. (member_generated G H ok hok n).1 (goal_generated G H ok hok n x),
    λ y. let t = (member_generated G H ok hok n).0 y in subst (λ (k : ℕ). Reachable (closure G H) (goal G H) k) t.2 (goal_reached G H ok hok t.0 t.1),
  )
