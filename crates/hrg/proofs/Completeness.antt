-- T1, completeness: an item that is true by trees with n applications is reachable with n.
use mathlib.Core.Path.{◌≡◌, refl, sym, ap, ◌∙◌, subst, subst₂}
use mathlib.Core.Bool.{Bool, true, false}
use mathlib.Core.List.{List, [], ◌∷◌}
use Prim.Native.Nat.{ℕ, zero, suc, ◌+◌, ◌-◌, ◌≤◌, ◌<◌}
use native.Mathlib.Nat.{not-suc-le-zero}
use native.Mathlib.Omega.{arith}
use lib.ListN.{length}
use Rattle.masks.specs.Masks.{bit, single}
use Rattle.masks.proofs.Laws.{bit_empty, mask_ext}
use Rattle.hrg.specs.Counts.{occurs, tabulate}
use Rattle.hrg.specs.Grammars.{Graph, PlanNode, leaf, introduce, join, Grammar, cost, rule_of, right_of, plan_of, plan_node, edge_at}
use Rattle.hrg.specs.Trees.{unplaced, at, images, Tree, apply, Parts, end, edge, tree, edges_of, edges_in, internals, inner_of, inner_in, applications, applications_in, Fits, FitsParts}
use Rattle.hrg.specs.Deduction.{Reachable, by_axiom, by_unary, by_binary}
use Rattle.hrg.specs.Items.{below, is_open_at, keep_if, node_for, attach, restrict, Covers, Joins, Item, active, passive, leaf_rule, terminal_rule, root_rule, nonterminal_rule, join_rule, closure}
use Rattle.hrg.specs.Truth.{IsBelow, ActiveTruth, Truth, Fewest}
use Rattle.hrg.specs.WellFormed.{GrammarOk, GraphOk}
use Rattle.hrg.proofs.Sums.{occurs_at, occurs_append, length_tabulate, at_tabulate, tabulate_ext, images_le, images_split}
use Rattle.hrg.proofs.Plans.{below_leaf, below_introduce, below_join, below_known, introduce_known, introduce_lower, join_lower}
use Rattle.hrg.proofs.Degrees.{zero_or}
use Rattle.hrg.proofs.Reordering.{reordered_sym}
use Rattle.hrg.proofs.Parts.{size, size_in, fits_reorder}
use Rattle.hrg.proofs.TreeNodes.{images_pos, images_find, pos_sum, parts_inside}
use Rattle.hrg.proofs.Sides.{tentacles_one, length_restrict, below_of, images_eq, edges_at}
use Rattle.hrg.proofs.SingleEdges.{node_out, node_image, bit_hit}
use Rattle.hrg.proofs.Splitting.{swap_cut, cut_at, mask_of, place_of, bit_b, open_node, child_truth, child_parts, Shows, child_shows, cut_joins}
use Rattle.hrg.proofs.Soundness.{sound, root_order, root_below, root_shown}

module _ (G : Grammar) (H : Graph) where
  -- what is to be shown of a tree
  abbrev pub Derived : Tree → Type 0
  Derived t = (s m : ℕ) (L : List ℕ) → Fits G H s L t → ((e : ℕ) → occurs e (edges_of t) ≡ bit m e) → ((v : ℕ) → occurs v (inner_of G t) + occurs v L ≤ 1) → Covers H m L
      → Reachable (closure G H) (passive s m L) (applications G t)

  no_parts : (place : List ℕ) (ps : Parts) → FitsParts G H place ps [] → ps ≡ end
  no_parts place end x = refl
  no_parts place (edge g ps) x = absurd x
  no_parts place (tree t ps) x = absurd x

  -- the map of one edge shows the places of its nodes
  edge_shows : (P : Graph) (i : ℕ) (place : List ℕ)
      → Shows P (i ∷ []) place (attach P.nodes (edge_at P.edges i).attachment (images place (edge_at P.edges i).attachment))
  unfolding attach
  edge_shows P i place =
      let att = (edge_at P.edges i).attachment in
      let at_it : (x : ℕ) → x < P.nodes → at (tabulate P.nodes (λ x. node_for x att (images place att))) x ≡ node_for x att (images place att)
      = at_tabulate P.nodes (λ x. node_for x att (images place att)) in
      record {
        long = length_tabulate P.nodes (λ x. node_for x att (images place att));
        off = λ x l z. at_it x l ∙ node_out x att (images place att) (omega (arith, tentacles_one P i x));
        open_shown = λ x l u v. at_it x l ∙ node_image x att place (omega (arith, tentacles_one P i x));
        any = λ x l q. zero_or (occurs x att)
            (λ z. absurd (omega (arith, at_it x l, node_out x att (images place att) z)))
            (λ z. at_it x l ∙ node_image x att place z);
      }

module _ (G : Grammar) (H : Graph) (ok : GrammarOk G) (hok : GraphOk G H) (r : ℕ) (known : r < length G.rules) where
  -- nothing lies below a leaf
  at_leaf : (p m n : ℕ) (f : List ℕ) → p < length (plan_of G r) → plan_node (plan_of G r) p ≡ leaf → ActiveTruth G H (rule_of G r) p m f n → Reachable (closure G H) (active r p m f) n
  unfolding edges_in applications_in occurs restrict
  at_leaf p m n f b q h =
      let R = rule_of G r in
      let rok = ok.rule r known in
      let N = R.production.right.nodes in
      let empty : below R.plan p ≡ [] = below_leaf _ R.plan rok.plan p q in
      let none : h.parts ≡ end = no_parts G H h.place h.parts (subst (λ (l : List ℕ). FitsParts G H h.place h.parts (edges_at R.production.right l)) empty h.fits) in
      let em : 0 ≡ m = sym (mask_ext m 0 (λ e. sym (h.edges e) ∙ ap (λ (ps : Parts). occurs e (edges_in ps)) none ∙ sym (bit_empty e))) in
      let en : 0 ≡ n = sym (sym h.count ∙ ap (applications_in G) none) in
      let out : (x : ℕ) → IsBelow R p x → ⊥ = λ x z. let o : 0 < occurs z.edge [] = subst (λ (l : List ℕ). 0 < occurs z.edge l) empty z.under in omega (arith, o) in
      let ef : tabulate N (λ x. unplaced) ≡ f
      = sym (h.map ∙ tabulate_ext N (λ x. keep_if (is_open_at R p x) (at h.place x)) (λ x. unplaced) (λ x l. kept (is_open_at R p x) (at h.place x) (h.others x l (out x)))) in
      subst (λ (k : ℕ). Reachable (closure G H) (active r p k f) n) em
      (subst (λ (g : List ℕ). Reachable (closure G H) (active r p 0 g) n) ef
      (subst (λ (k : ℕ). Reachable (closure G H) (active r p 0 (tabulate N (λ x. unplaced))) k) en (by_axiom (leaf_rule r p known b q))))
    where
      kept : (b : Bool) (a : ℕ) → a ≡ unplaced → keep_if b a ≡ unplaced
      kept true a q = q
      kept false a q = refl

  -- what stands for an introduced edge, joined to the child
  at_part : (p c i m m₁ m₂ k : ℕ) (f g place : List ℕ) → p < length (plan_of G r) → plan_node (plan_of G r) p ≡ introduce c i
      → Reachable (closure G H) (active r c m₁ g) k
      → (b : Parts) → FitsParts G H place b (edge_at (right_of G r).edges i ∷ []) → ((e : ℕ) → bit m₂ e ≡ occurs e (edges_in b))
      → ((v : ℕ) → occurs v (inner_in G b) + occurs v (images place (edge_at (right_of G r).edges i).attachment) ≤ 1)
      → Covers H m₂ (images place (edge_at (right_of G r).edges i).attachment)
      → ((t : Tree) → size t ≤ size_in b → Derived G H t)
      → Joins H (rule_of G r) p m₁ m₂ g (attach (right_of G r).nodes (edge_at (right_of G r).edges i).attachment (images place (edge_at (right_of G r).edges i).attachment)) m f
      → Reachable (closure G H) (active r p m f) (k + applications_in G b)
  unfolding edges_in inner_in applications_in size_in occurs
  at_part p c i m m₁ m₂ k f g place l q w end x bits o v d J = absurd x
  at_part p c i m m₁ m₂ k f g place l q w (edge e ps) x bits o v d J =
      let att = (edge_at (right_of G r).edges i).attachment in
      let none : ps ≡ end = no_parts G H place ps x.1 in
      let em : m₂ ≡ single e = mask_ext m₂ (single e) (λ j. bits j ∙ omega (arith, ap (λ (ps : Parts). occurs j (edges_in ps)) none, bit_hit e j)) in
      let J' : Joins H (rule_of G r) p m₁ (single e) g (attach (right_of G r).nodes att (edge_at H.edges e).attachment) m f
      = subst₂ (λ (z : ℕ) (M : List ℕ). Joins H (rule_of G r) p m₁ z g (attach (right_of G r).nodes att M) m f) em (sym x.0.attachment) J in
      subst (λ (z : ℕ). Reachable (closure G H) (active r p m f) z) (omega (arith, ap (applications_in G) none))
      (by_unary w (terminal_rule r p c i e m₁ m g f l q (record { kind = x.0.kind; known = x.0.known; label = x.0.label; attachment = refl }) J'))
  at_part p c i m m₁ m₂ k f g place l q w (tree t ps) x bits o v d J =
      let L = images place (edge_at (right_of G r).edges i).attachment in
      let none : ps ≡ end = no_parts G H place ps x.1 in
      subst (λ (z : ℕ). Reachable (closure G H) (active r p m f) z) (omega (arith, ap (applications_in G) none))
      (by_binary w
      (d t (omega arith) (edge_at (right_of G r).edges i).label m₂ L x.0
      (λ e. omega (arith, bits e, occurs_append e (edges_of t) (edges_in ps), ap (λ (ps : Parts). occurs e (edges_in ps)) none))
      (λ u. omega (arith, o u, occurs_append u (inner_of G t) (inner_in G ps)))
      v)
      (nonterminal_rule r p c i m₁ m₂ m g L f l q J))

  -- at a plan node that introduces an edge
  at_introduce : (p c i m n : ℕ) (f : List ℕ) (l : p < length (plan_of G r)) (q : plan_node (plan_of G r) p ≡ introduce c i) (h : ActiveTruth G H (rule_of G r) p m f n)
      → ((t : Tree) → size t ≤ size_in h.parts → Derived G H t)
      → ((m n : ℕ) (f : List ℕ) (k : ActiveTruth G H (rule_of G r) c m f n) → size_in k.parts ≤ size_in h.parts → Reachable (closure G H) (active r c m f) n)
      → Reachable (closure G H) (active r p m f) n
  at_introduce p c i m n f l q h d ih =
      let R = rule_of G r in
      let P = R.production.right in
      let rok = ok.rule r known in
      let att = (edge_at P.edges i).attachment in
      let split = below_introduce _ R.plan rok.plan p c i q in
      let child : c < length R.plan = omega (arith, introduce_lower _ R.plan rok.plan p c i q) in
      let pieces = cut_at R p h (below R.plan c) (i ∷ []) split (λ j o. below_known _ R.plan rok.plan p j (subst (λ (x : List ℕ). 0 < occurs j x) (sym split) o)) in
      let cut = pieces.cut in
      let few : (v : ℕ) → occurs v (images h.place att) ≤ occurs v h.place
      = λ v. images_le v P.nodes _ h.place att h.sized (rok.right.edge i (introduce_known _ R.plan rok.plan p c i q)).listed in
      let low : (v : ℕ) → 0 < occurs v (images h.place att) → v < H.nodes
      = λ v o. let x = images_find h.place att v o in
      omega (
        arith,
        x.2,
        h.placed x.0 ((rok.right.edge i (introduce_known _ R.plan rok.plan p c i q)).listed.inside x.0 x.1)
            (below_of R rok p l x.0 (omega (arith, cut.sums x.0, tentacles_one P i x.0, x.1))),
      ) in
      let inside : (v : ℕ) → 0 < occurs v (inner_in G pieces.b) + occurs v (images h.place att) → v < H.nodes
      = λ v o. pos_sum (occurs v (inner_in G pieces.b)) (occurs v (images h.place att)) o (parts_inside G H ok pieces.b v h.place _ cut.fits_b) (low v) in
      subst (λ (z : ℕ). Reachable (closure G H) (active r p m f) z) (sym cut.count ∙ h.count)
      (at_part p c i m (mask_of m pieces.a) (mask_of m pieces.b) (applications_in G pieces.a) f (restrict R c (place_of P (below R.plan c) h.place)) h.place l q
      (ih (mask_of m pieces.a) (applications_in G pieces.a) (restrict R c (place_of P (below R.plan c) h.place))
      (child_truth G H ok hok R rok p l c child h cut)
      (omega (arith, cut.sizes, ap size_in (child_parts G H ok hok R rok p l c child h cut))))
      pieces.b cut.fits_b (bit_b G H ok hok R rok p l h cut)
      (λ v. zero_or (occurs v (inner_in G pieces.b) + occurs v (images h.place att))
      (λ z. omega arith)
      (λ z. omega (arith, h.once v (inside v z), cut.inner v, few v)))
      (record {
        image = λ v k o.
            let x = open_node G H ok hok R rok p l h (swap_cut cut) v k o in
            subst (λ (b : ℕ). 0 < occurs b (images h.place att)) x.2 (images_pos h.place att x.0 (omega (arith, x.3, tentacles_one P i x.0)));
      })
      (λ t s. d t (omega (arith, cut.sizes)))
      (cut_joins G H ok hok R rok p l h cut _ _ (child_shows G H ok hok R rok p l c child h cut) (edge_shows G H P i h.place)))

  -- every active item, by descent in the plan; the trees among its parts are derived already
  active_complete : (k p m n : ℕ) (f : List ℕ) → p < k → p < length (plan_of G r) → (h : ActiveTruth G H (rule_of G r) p m f n)
      → ((t : Tree) → size t ≤ size_in h.parts → Derived G H t) → Reachable (closure G H) (active r p m f) n
  active_complete zero p m n f o l h d = absurd (not-suc-le-zero o)
  active_complete (suc k) p m n f o l h d =
      go (plan_node (plan_of G r) p) refl (λ c m n f b t s. active_complete k c m n f (omega arith) (omega arith) t (λ u z. d u (omega arith)))
    where
      go : (s : PlanNode) → plan_node (plan_of G r) p ≡ s
          → ((c m n : ℕ) (f : List ℕ) → c < p → (t : ActiveTruth G H (rule_of G r) c m f n) → size_in t.parts ≤ size_in h.parts → Reachable (closure G H) (active r c m f) n)
          → Reachable (closure G H) (active r p m f) n
      go leaf q ih = at_leaf p m n f l q h
      go (introduce c i) q ih = at_introduce p c i m n f l q h d (λ m n f t s. ih c m n f (introduce_lower _ (plan_of G r) (ok.rule r known).plan p c i q) t s)
      go (join a b) q ih =
          let R = rule_of G r in
          let rok = ok.rule r known in
          let lower = join_lower _ R.plan rok.plan p a b q in
          let in_a : a < length R.plan = omega (arith, lower.0) in
          let in_b : b < length R.plan = omega (arith, lower.1) in
          let split = below_join _ R.plan rok.plan p a b q in
          let pieces = cut_at R p h (below R.plan a) (below R.plan b) split (λ j o. below_known _ R.plan rok.plan p j (subst (λ (x : List ℕ). 0 < occurs j x) (sym split) o)) in
          let cut = pieces.cut in
          subst (λ (z : ℕ). Reachable (closure G H) (active r p m f) z) (sym cut.count ∙ h.count)
          (by_binary
          (ih a _ _ _ lower.0 (child_truth G H ok hok R rok p l a in_a h cut) (omega (arith, cut.sizes, ap size_in (child_parts G H ok hok R rok p l a in_a h cut))))
          (ih b _ _ _ lower.1 (child_truth G H ok hok R rok p l b in_b h (swap_cut cut)) (omega (arith, cut.sizes, ap size_in (child_parts G H ok hok R rok p l b in_b h (swap_cut cut)))))
          (join_rule r p a b (mask_of m pieces.a) (mask_of m pieces.b) m _ _ f l q
          (cut_joins G H ok hok R rok p l h cut _ _ (child_shows G H ok hok R rok p l a in_a h cut) (child_shows G H ok hok R rok p l b in_b h (swap_cut cut)))))

  -- a whole application is a true item at the root of the plan
  root_item : (p s m : ℕ) (L place : List ℕ) (ps : Parts) → suc p ≡ length (plan_of G r) → Fits G H s L (apply r place ps) → ((e : ℕ) → occurs e (edges_in ps) ≡ bit m e)
      → ((v : ℕ) → occurs v (inner_of G (apply r place ps)) + occurs v L ≤ 1) → Covers H m L
      → (h : ActiveTruth G H (rule_of G r) p m (restrict (rule_of G r) p place) (applications_in G ps)) × (size_in h.parts ≡ size_in ps)
  unfolding inner_of
  root_item p s m L place ps root x e o v =
      let R = rule_of G r in
      let P = R.production.right in
      let rok = ok.rule r known in
      let b : p < length R.plan = omega (arith, root) in
      let moved = fits_reorder G H place (reordered_sym (root_order R rok p root)) ps x.1 in (
        record {
          place = place;
          parts = moved.parts;
          sized = x.0.sized;
          placed = λ y l z. x.0.placed y l;
          others = λ y l z. absurd (z (below_of R rok p b y (root_below R rok p root y l)));
          fits = moved.fits;
          edges = λ g. moved.same.edges g ∙ e g;
          once = λ u l. omega (
            arith,
            o u,
            moved.same.inner u,
            occurs_append u (images place (internals P)) (inner_in G ps),
            images_split u P place x.0.sized rok.right.externals,
            ap (occurs u) x.0.externals,
          );
          map = refl;
          covers = record {
            image = λ u l z.
                let t = images_find place P.externals u (omega (arith, v.image u l z, ap (occurs u) x.0.externals)) in
                subst (λ (w : ℕ). 0 < occurs w (restrict R p place)) (root_shown R rok p root place t.0 t.1 ∙ t.2)
                (occurs_at (restrict R p place) t.0 (omega (arith, length_restrict R rok p b place, rok.right.externals.inside t.0 t.1)));
          };
          count = moved.same.count;
        },
        moved.same.size,
      )

  apply_complete : (place : List ℕ) (ps : Parts) → ((t : Tree) → size t ≤ size_in ps → Derived G H t) → Derived G H (apply r place ps)
  unfolding edges_of applications
  apply_complete place ps d s m L x e o v =
      let R = rule_of G r in
      let rok = ok.rule r known in
      let p = length R.plan - 1 in
      let root : suc p ≡ length R.plan = omega (arith, rok.plan.size.lower) in
      let h = root_item p s m L place ps root x e o v in
      let same : images (restrict R p place) R.production.right.externals ≡ L
      = images_eq (restrict R p place) place R.production.right.externals (λ y k. root_shown R rok p root place y k) ∙ x.0.externals in
      subst₂ (λ (z : ℕ) (M : List ℕ). Reachable (closure G H) (passive z m M) (applications_in G ps + cost R)) x.0.lhs same
      (by_unary
      (active_complete (suc p) p m (applications_in G ps) (restrict R p place) (omega arith) (omega (arith, root)) h.0 (λ t z. d t (omega (arith, h.1))))
      (root_rule r p m (restrict R p place) root))

module _ (G : Grammar) (H : Graph) (ok : GrammarOk G) (hok : GraphOk G H) where
  tree_complete : (k : ℕ) (t : Tree) → size t ≤ k → Derived G H t
  unfolding size
  tree_complete zero (apply r place ps) l s m L x = absurd (not-suc-le-zero l)
  tree_complete (suc k) (apply r place ps) l s m L x = apply_complete G H ok hok r x.0.known place ps (λ t z. tree_complete k t (omega arith)) s m L x

  pub complete : (i : Item) (n : ℕ) → Truth G H i n → Reachable (closure G H) i n
  complete (active r p m f) n t =
      active_complete G H ok hok r t.0 (suc p) p m n f (omega arith) t.1 t.2 (λ u z. tree_complete (size u) u (omega arith))
  complete (passive s m L) n t =
      subst (λ (k : ℕ). Reachable (closure G H) (passive s m L) k) t.count (tree_complete (size t.tree) t.tree (omega arith) s m L t.fits t.edges t.once t.covers)

  -- T1: the least count of a reachable item is the fewest applications over trees
  pub least_fewest : (i : Item) (n : ℕ) → Reachable (closure G H) i n → ((k : ℕ) → Reachable (closure G H) i k → n ≤ k) → Fewest G H i n
  least_fewest i n x h = record { some = sound G H ok hok x; least = λ k t. h k (complete i k t) }

  pub fewest_least : (i : Item) (n : ℕ) → Fewest G H i n → Reachable (closure G H) i n × ((k : ℕ) → Reachable (closure G H) i k → n ≤ k)
  fewest_least i n f = (complete i n f.some, λ k x. f.least k (sound G H ok hok x))
