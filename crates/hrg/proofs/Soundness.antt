-- T1, soundness: an item that is reachable with n is true by trees with n applications.
use mathlib.Core.Path.{◌≡◌, refl, sym, ap, ap₂, ◌∙◌, subst}
use mathlib.Core.Bool.{Bool, true, false}
use mathlib.Core.List.{List, [], ◌∷◌, ◌++◌, map}
use Prim.Native.Nat.{ℕ, zero, suc, ◌+◌, ◌-◌, ◌≤◌, ◌<◌}
use native.Mathlib.Omega.{arith}
use lib.ListN.{length}
use Rattle.masks.specs.Masks.{bit, single}
use Rattle.masks.proofs.Laws.{bit_empty}
use Rattle.hrg.specs.Counts.{hit, occurs, tabulate, up_to, Reordered}
use Rattle.hrg.specs.Grammars.{Edge, Graph, leaf, introduce, join, Rule, Grammar, cost, rule_of, lhs_of, right_of, plan_of, plan_node, edge_at}
use Rattle.hrg.specs.Trees.{unplaced, at, images, apply, end, edge, tree, edges_of, edges_in, internals, inner_of, inner_in, applications, applications_in, FitsEdge, Fits, FitsParts}
use Rattle.hrg.specs.Deduction.{Reachable, by_axiom, by_unary, by_binary}
use Rattle.hrg.specs.Items.{below, is_open_at, keep_if, restrict, attach, Joins, Item, leaf_rule, terminal_rule, root_rule, nonterminal_rule, join_rule, closure}
use Rattle.hrg.specs.Truth.{edges_below, ActiveTruth, PassiveTruth, Truth}
use Rattle.hrg.specs.WellFormed.{GrammarOk, GraphOk, RuleOk}
use Rattle.hrg.proofs.Sums.{hit_ne, sum_zero, occurs_sum, occurs_find, occurs_append, occurs_up_to, occurs_past, length_tabulate, at_tabulate, tabulate_ext, images_split}
use Rattle.hrg.proofs.Plans.{below_leaf, below_introduce, below_join, below_known, below_root, introduce_known}
use Rattle.hrg.proofs.Degrees.{degree, places, degree_same, degree_pos, degree_zero, zero_or}
use Rattle.hrg.proofs.Reordering.{reordered_of, reordered_map}
use Rattle.hrg.proofs.Parts.{◌⧺◌, Moved, fits_reorder}
use Rattle.hrg.proofs.TreeNodes.{images_pos, tree_inside}
use Rattle.hrg.proofs.Sides.{tentacles, open_in, length_restrict, restrict_open, restrict_shown, below_in, below_of, images_eq, edges_at, Side, truth_side, truth_side_parts}
use Rattle.hrg.proofs.Joining.{join_truth, join_parts}
use Rattle.hrg.proofs.SingleEdges.{edge_side, edge_side_parts, tree_side, tree_side_parts}

-- all edges of a right side, by their numbers
edges_from_lem : (xs : List Edge) (f : ℕ → ℕ) (n : ℕ) (h : ℕ → Edge) → length xs ≡ n → ((i : ℕ) → h (f i) ≡ edge_at xs i) → map h (tabulate n f) ≡ xs
unfolding tabulate
edges_from_lem [] f zero h q e = refl
edges_from_lem [] f (suc n) h q e = absurd (omega arith)
edges_from_lem (x ∷ xs) f zero h q e = absurd (omega arith)
edges_from_lem (x ∷ xs) f (suc n) h q e = ap₂ (λ (a : Edge) (l : List Edge). a ∷ l) (e 0) (edges_from_lem xs (λ i. f (suc i)) n h (omega arith) (λ i. e (suc i)))

pub edges_all : (es : List Edge) → map (λ (i : ℕ). edge_at es i) (up_to (length es)) ≡ es
unfolding up_to
edges_all es = edges_from_lem es (λ i. i) (length es) (λ i. edge_at es i) refl (λ i. refl)

module _ {G : Grammar} (R : Rule) (ok : RuleOk G R) (p : ℕ) (root : suc p ≡ length R.plan) where
  inside : p < length R.plan
  inside = omega (arith, root)

  -- below the root lie all edges, each once
  pub root_numbers : Reordered (below R.plan p) (up_to (length R.production.right.edges))
  root_numbers = reordered_of (below R.plan p) (up_to (length R.production.right.edges)) same
    where
      same : (i : ℕ) → occurs i (below R.plan p) ≡ occurs i (up_to (length R.production.right.edges))
      same i =
          zero_or (length R.production.right.edges - i)
          (λ z. none i (omega arith) ∙ sym (occurs_past _ i (omega arith)))
          (λ z. below_root _ R.plan ok.plan p i root (omega arith) ∙ sym (occurs_up_to _ i (omega arith)))
        where
          none : (i : ℕ) → length R.production.right.edges ≤ i → occurs i (below R.plan p) ≡ 0
          none i l = zero_or (occurs i (below R.plan p)) (λ z. z) (λ z. absurd (omega (arith, below_known _ R.plan ok.plan p i z)))

  pub root_order : Reordered (edges_below R p) R.production.right.edges
  root_order =
      let es = R.production.right.edges in
      subst (λ (l : List Edge). Reordered (edges_below R p) l) (edges_all es) (reordered_map (λ (i : ℕ). edge_at es i) root_numbers)

  pub root_tentacles : (x : ℕ) → tentacles R.production.right (below R.plan p) x ≡ degree (λ i. 1) R.production.right.edges x
  root_tentacles x =
      degree_same (λ i. occurs i (below R.plan p)) (λ i. 1) R.production.right.edges x (λ i l. below_root _ R.plan ok.plan p i root l)

  pub root_below : (x : ℕ) → x < R.production.right.nodes → 0 < tentacles R.production.right (below R.plan p) x
  root_below x l =
      let c = ok.right.covered x l in
      degree_pos (λ i. occurs i (below R.plan p)) R.production.right.edges x c.edge (omega (arith, below_root _ R.plan ok.plan p c.edge root c.known)) c.on

  -- an external node stays open at the root
  pub root_shown : (place : List ℕ) (x : ℕ) → 0 < occurs x R.production.right.externals → at (restrict R p place) x ≡ at place x
  unfolding places
  root_shown place x o =
      let l = ok.right.externals.inside x o in
      restrict_open R ok p inside place x l (root_below x l) (omega (arith, root_tentacles x))

module _ (G : Grammar) (H : Graph) (ok : GrammarOk G) (hok : GraphOk G H) where
  pub leaf_truth : (r p : ℕ) → r < length G.rules → p < length (plan_of G r) → plan_node (plan_of G r) p ≡ leaf
      → ActiveTruth G H (rule_of G r) p 0 (tabulate (right_of G r).nodes (λ x. unplaced)) 0
  unfolding edges_in inner_in applications_in occurs restrict
  leaf_truth r p l b q =
      let R = rule_of G r in
      let rok = ok.rule r l in
      let empty : below R.plan p ≡ [] = below_leaf _ R.plan rok.plan p q in
      let none : (x : ℕ) → tentacles R.production.right (below R.plan p) x ≡ 0
      = λ x. degree_zero (λ i. occurs i (below R.plan p)) R.production.right.edges x (λ i. ap (occurs i) empty) in
      let N = R.production.right.nodes in
      record {
        place = tabulate N (λ x. unplaced);
        parts = end;
        sized = length_tabulate N (λ x. unplaced);
        placed = λ x k z. absurd (omega (arith, none x, below_in R rok p b x z));
        others = λ x k z. at_tabulate N (λ x. unplaced) x k;
        fits = subst (λ (is : List ℕ). FitsParts G H (tabulate N (λ x. unplaced)) end (edges_at R.production.right is)) (sym empty) tt;
        edges = λ e. sym (bit_empty e);
        once = λ v u. omega (
          arith,
          occurs_sum v N (tabulate N (λ x. unplaced)) (length_tabulate N (λ x. unplaced)),
          sum_zero N (λ x. hit v (at (tabulate N (λ x. unplaced)) x))
              (λ x k. ap (hit v) (at_tabulate N (λ x. unplaced) x k) ∙ hit_ne v unplaced (λ e. omega (arith, hok.side.node_count.upper))),
        );
        map = tabulate_ext N (λ x. unplaced) (λ x. keep_if (is_open_at R p x) (at (tabulate N (λ x. unplaced)) x))
            (λ x k. sym (kept (is_open_at R p x) _ (at_tabulate N (λ x. unplaced) x k)));
        covers = record { image = λ v u o. absurd (omega (arith, (open_in H 0 v o).0, degree_zero (bit 0) H.edges v bit_empty)) };
        count = refl;
      }
    where
      kept : (b : Bool) (a : ℕ) → a ≡ unplaced → keep_if b a ≡ unplaced
      kept true a q = q
      kept false a q = refl

  pub leaf_parts : (r p : ℕ) (l : r < length G.rules) (b : p < length (plan_of G r)) (q : plan_node (plan_of G r) p ≡ leaf) → (leaf_truth r p l b q).parts ≡ end
  unfolding leaf_truth
  leaf_parts r p l b q = refl

  -- the root rule, with the parts put into edge order
  pub root_truth : (r p m n : ℕ) (f : List ℕ) → r < length G.rules → suc p ≡ length (plan_of G r)
      → (h : ActiveTruth G H (rule_of G r) p m f n) → Moved G H h.place h.parts (right_of G r).edges → PassiveTruth G H (lhs_of G r) m (images f (right_of G r).externals) (n + cost (rule_of G r))
  unfolding edges_of inner_of applications places
  root_truth r p m n f l q h moved =
      let R = rule_of G r in
      let rok = ok.rule r l in
      let P = R.production.right in
      let b : p < length R.plan = omega (arith, q) in
      let tree = apply r h.place moved.parts in
      let same : images h.place P.externals ≡ images f P.externals
      = images_eq h.place f P.externals (λ x o. sym (ap (λ (g : List ℕ). at g x) h.map ∙ root_shown R rok p q h.place x o)) in
      let fits : Fits G H (lhs_of G r) (images f P.externals) tree
      = (
        record {
          kind = rok.lhs_kind;
          known = l;
          lhs = refl;
          sized = h.sized;
          placed = λ x k. h.placed x k (below_of R rok p b x (root_below R rok p q x k));
          externals = same;
        },
        moved.fits,
      ) in
      let few : (v : ℕ) → v < H.nodes → occurs v (inner_of G tree) + occurs v (images f P.externals) ≤ 1
      = λ v u. omega (
        arith,
        h.once v u,
        occurs_append v (images h.place (internals P)) (inner_in G moved.parts),
        moved.same.inner v,
        images_split v P h.place h.sized rok.right.externals,
        ap (occurs v) same,
      ) in
      record {
        tree = tree;
        fits = fits;
        edges = λ e. moved.same.edges e ∙ h.edges e;
        once = λ v. zero_or (occurs v (inner_of G tree) + occurs v (images f P.externals))
            (λ z. omega arith)
            (λ z. few v (tree_inside G H ok tree (lhs_of G r) v (images f P.externals) fits z));
        covers = record {
          image = λ v u o.
              let t = occurs_find v f (h.covers.image v u o) in
              let k : t.0 < P.nodes = omega (arith, ap length h.map, length_restrict R rok p b h.place, t.1) in
              let d = restrict_shown R rok p b h.place t.0 k (omega (arith, ap (λ (g : List ℕ). at g t.0) h.map, t.2, hok.side.node_count.upper)) in
              subst (λ (z : ℕ). 0 < occurs z (images f P.externals)) t.2 (images_pos f P.externals t.0 (omega (arith, d.1, root_tentacles R rok p q t.0)));
        };
        count = omega (arith, moved.same.count, h.count);
      }

  pub root_tree : (r p m n : ℕ) (f : List ℕ) (l : r < length G.rules) (q : suc p ≡ length (plan_of G r)) (h : ActiveTruth G H (rule_of G r) p m f n)
      (moved : Moved G H h.place h.parts (right_of G r).edges) → (root_truth r p m n f l q h moved).tree ≡ apply r h.place moved.parts
  unfolding root_truth
  root_tree r p m n f l q h moved = refl

  -- ---- the rules that join, with the parts that they make
  module _ (r p c i m₁ m n : ℕ) (f h : List ℕ) (l : r < length G.rules) (b : p < length (plan_of G r)) (q : plan_node (plan_of G r) p ≡ introduce c i)
      (d : c < length (plan_of G r)) (t : ActiveTruth G H (rule_of G r) c m₁ f n) where
    split : below (plan_of G r) p ≡ below (plan_of G r) c ++ (i ∷ [])
    split = below_introduce _ (plan_of G r) (ok.rule r l).plan p c i q

    known : (j : ℕ) → 0 < occurs j (below (plan_of G r) c ++ (i ∷ [])) → j < length (right_of G r).edges
    known j o = below_known _ (plan_of G r) (ok.rule r l).plan p j (subst (λ (l : List ℕ). 0 < occurs j l) (sym split) o)

    edge_known : i < length (right_of G r).edges
    edge_known = introduce_known _ (plan_of G r) (ok.rule r l).plan p c i q

    child : Side G H (right_of G r) (below (plan_of G r) c) m₁ f n
    child = truth_side (rule_of G r) (ok.rule r l) c d t

    module _ (g : ℕ) (e : FitsEdge G H (edge_at (right_of G r).edges i).label (edge_at H.edges g).attachment g)
        (J : Joins H (rule_of G r) p m₁ (single g) f (attach (right_of G r).nodes (edge_at (right_of G r).edges i).attachment (edge_at H.edges g).attachment) m h) where
      pub terminal_truth : ActiveTruth G H (rule_of G r) p m h (n + 0)
      terminal_truth = join_truth G H ok hok (rule_of G r) (ok.rule r l) p b (below (plan_of G r) c) (i ∷ []) split known child (edge_side G H ok hok r l i edge_known g e) J

      pub terminal_parts : terminal_truth.parts ≡ t.parts ⧺ edge g end
      unfolding terminal_truth child
      terminal_parts =
          join_parts G H ok hok (rule_of G r) (ok.rule r l) p b (below (plan_of G r) c) (i ∷ []) split known child (edge_side G H ok hok r l i edge_known g e) J
          ∙ ap₂ ◌⧺◌ (truth_side_parts (rule_of G r) (ok.rule r l) c d t) (edge_side_parts G H ok hok r l i edge_known g e)

    module _ (m₂ k : ℕ) (L : List ℕ) (u : PassiveTruth G H (edge_at (right_of G r).edges i).label m₂ L k)
        (J : Joins H (rule_of G r) p m₁ m₂ f (attach (right_of G r).nodes (edge_at (right_of G r).edges i).attachment L) m h) where
      pub nonterminal_truth : ActiveTruth G H (rule_of G r) p m h (n + k)
      nonterminal_truth = join_truth G H ok hok (rule_of G r) (ok.rule r l) p b (below (plan_of G r) c) (i ∷ []) split known child (tree_side G H ok hok r l i edge_known m₂ k L u) J

      pub nonterminal_parts : nonterminal_truth.parts ≡ t.parts ⧺ tree u.tree end
      unfolding nonterminal_truth child
      nonterminal_parts =
          join_parts G H ok hok (rule_of G r) (ok.rule r l) p b (below (plan_of G r) c) (i ∷ []) split known child (tree_side G H ok hok r l i edge_known m₂ k L u) J
          ∙ ap₂ ◌⧺◌ (truth_side_parts (rule_of G r) (ok.rule r l) c d t) (tree_side_parts G H ok hok r l i edge_known m₂ k L u)

  module _ (r p a c m₁ m₂ m n k : ℕ) (f g h : List ℕ) (l : r < length G.rules) (b : p < length (plan_of G r)) (q : plan_node (plan_of G r) p ≡ join a c)
      (d : a < length (plan_of G r)) (t : ActiveTruth G H (rule_of G r) a m₁ f n) (e : c < length (plan_of G r)) (u : ActiveTruth G H (rule_of G r) c m₂ g k)
      (J : Joins H (rule_of G r) p m₁ m₂ f g m h) where
    halves : below (plan_of G r) p ≡ below (plan_of G r) a ++ below (plan_of G r) c
    halves = below_join _ (plan_of G r) (ok.rule r l).plan p a c q

    both_known : (j : ℕ) → 0 < occurs j (below (plan_of G r) a ++ below (plan_of G r) c) → j < length (right_of G r).edges
    both_known j o = below_known _ (plan_of G r) (ok.rule r l).plan p j (subst (λ (l : List ℕ). 0 < occurs j l) (sym halves) o)

    pub pair_truth : ActiveTruth G H (rule_of G r) p m h (n + k)
    pair_truth =
        join_truth G H ok hok (rule_of G r) (ok.rule r l) p b (below (plan_of G r) a) (below (plan_of G r) c) halves both_known
        (truth_side (rule_of G r) (ok.rule r l) a d t) (truth_side (rule_of G r) (ok.rule r l) c e u) J

    pub pair_parts : pair_truth.parts ≡ t.parts ⧺ u.parts
    unfolding pair_truth
    pair_parts =
        join_parts G H ok hok (rule_of G r) (ok.rule r l) p b (below (plan_of G r) a) (below (plan_of G r) c) halves both_known
        (truth_side (rule_of G r) (ok.rule r l) a d t) (truth_side (rule_of G r) (ok.rule r l) c e u) J
        ∙ ap₂ ◌⧺◌ (truth_side_parts (rule_of G r) (ok.rule r l) a d t) (truth_side_parts (rule_of G r) (ok.rule r l) c e u)

  pub sound : {i : Item} {n : ℕ} → Reachable (closure G H) i n → Truth G H i n
  sound (by_axiom (leaf_rule r p l b q)) = (l, b, leaf_truth r p l b q)
  sound (by_unary {n = n} x (terminal_rule r p c i g m₁ m f h b q e J)) = let t = sound x in (t.0, b, terminal_truth r p c i m₁ m n f h t.0 b q t.1 t.2 g e J)
  sound (by_unary {n = n} x (root_rule r p m f q)) =
      let t = sound x in
      root_truth r p m n f t.0 q t.2 (fits_reorder G H t.2.place (root_order (rule_of G r) (ok.rule r t.0) p q) t.2.parts t.2.fits)
  sound (by_binary {n = n} {k = k} x y (nonterminal_rule r p c i m₁ m₂ m f L h b q J)) =
      let t = sound x in
      (t.0, b, nonterminal_truth r p c i m₁ m n f h t.0 b q t.1 t.2 m₂ k L (sound y) J)
  sound (by_binary {n = n} {k = k} x y (join_rule r p a c m₁ m₂ m f g h b q J)) =
      let t = sound x in
      let u = sound y in
      (t.0, b, pair_truth r p a c m₁ m₂ m n k f g h t.0 b q t.1 t.2 u.1 u.2 J)
