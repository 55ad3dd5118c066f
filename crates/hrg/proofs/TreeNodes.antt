-- The nodes and edges of a tree: every listed or inner node lies on one of its edges (T5), every node on one of its
-- edges is listed or inner, all are the graph's own, and no tree is without edges.
use mathlib.Core.Path.{◌≡◌, refl, sym, ap, subst}
use mathlib.Core.List.{List, [], ◌∷◌, ◌++◌}
use Prim.Native.Nat.{ℕ, zero, suc, ◌+◌, ◌≤◌, ◌<◌}
use native.Mathlib.Nat.{not-suc-le-zero, le_of_suc-le-suc}
use native.Mathlib.Omega.{arith}
use lib.ListN.{length}
use Rattle.hrg.specs.Counts.{hit, occurs}
use Rattle.hrg.specs.Grammars.{Edge, Graph, Grammar, right_of, edge_at}
use Rattle.hrg.specs.Trees.{at, images, Tree, apply, Parts, end, edge, tree, edges_of, edges_in, internals, inner_of, inner_in, FitsEdge, FitsRule, Fits, FitsParts}
use Rattle.hrg.specs.WellFormed.{GrammarOk}
use Rattle.hrg.proofs.Sums.{hit_self, hit_eq, occurs_append, internals_inside, images_split, occurs_at}

-- ---- members of a list of images
pub images_pos : (place xs : List ℕ) (x : ℕ) → 0 < occurs x xs → 0 < occurs (at place x) (images place xs)
unfolding occurs
images_pos place [] x h = absurd (not-suc-le-zero h)
images_pos place (y ∷ ys) x h = go (images_pos place ys x) (hit x y) refl
  where
    go : (0 < occurs x ys → 0 < occurs (at place x) (images place ys)) → (k : ℕ) → hit x y ≡ k → 0 < hit (at place x) (at place y) + occurs (at place x) (images place ys)
    go ih zero q = omega (arith, ih (omega arith))
    go ih (suc k) q = omega (arith, ap (λ (z : ℕ). hit (at place x) (at place z)) (hit_eq x y (omega arith)), hit_self (at place x))

pub images_find : (place xs : List ℕ) (v : ℕ) → 0 < occurs v (images place xs) → (x : ℕ) × (0 < occurs x xs) × (at place x ≡ v)
unfolding occurs
images_find place [] v h = absurd (not-suc-le-zero h)
images_find place (y ∷ ys) v h = go (images_find place ys v) (hit v (at place y)) refl
  where
    go : (0 < occurs v (images place ys) → (x : ℕ) × (0 < occurs x ys) × (at place x ≡ v)) → (k : ℕ) → hit v (at place y) ≡ k
        → (x : ℕ) × (0 < hit x y + occurs x ys) × (at place x ≡ v)
    go ih zero q = let t = ih (omega arith) in (t.0, omega (arith, t.1), t.2)
    go ih (suc k) q = (y, omega (arith, hit_self y), sym (hit_eq v (at place y) (omega arith)))

-- one of two counts is positive
pub pos_sum : {X : Type 0} (a b : ℕ) → 0 < a + b → (0 < a → X) → (0 < b → X) → X
pos_sum zero b h f g = g (omega arith)
pos_sum (suc a) b h f g = f (omega arith)

module _ (G : Grammar) (H : Graph) (ok : GrammarOk G) where
  -- ---- T5: nodes lie on edges
  -- Node v lies on a graph edge of the list.
  pub record Touched (v : ℕ) (gs : List ℕ) : Type 0 where
    pub edge : ℕ
    pub known : edge < length H.edges
    pub used : 0 < occurs edge gs
    pub on : 0 < occurs v (edge_at H.edges edge).attachment

  touched_more : (v : ℕ) (gs hs : List ℕ) → ((e : ℕ) → occurs e gs ≤ occurs e hs) → Touched v gs → Touched v hs
  touched_more v gs hs le t = record { edge = t.edge; known = t.known; used = omega (arith, t.used, le t.edge); on = t.on }

  touched_edge : (s v g : ℕ) (L : List ℕ) (ps : Parts) → FitsEdge G H s L g → 0 < occurs v L → Touched v (edges_in (edge g ps))
  unfolding edges_in occurs
  touched_edge s v g L ps x h = record { edge = g; known = x.known; used = omega (arith, hit_self g); on = omega (arith, ap (occurs v) x.attachment) }

  -- a listed or inner node of an application is the place of some rule node
  node_of_is : (s v r : ℕ) (L place : List ℕ) → FitsRule G H s L r place → 0 < occurs v (images place (internals (right_of G r))) + occurs v L
      → (x : ℕ) × (x < (right_of G r).nodes) × (at place x ≡ v)
  node_of_is s v r L place x h =
      pos_sum (occurs v (images place (internals (right_of G r)))) (occurs v L) h
      (λ a. let t = images_find place (internals (right_of G r)) v a in (t.0, internals_inside (right_of G r) t.0 t.1, t.2))
      (λ a. let t = images_find place (right_of G r).externals v (omega (arith, ap (occurs v) x.externals)) in
      (t.0, (ok.rule r x.known).right.externals.inside t.0 t.1, t.2))

  mutual
    unfolding edges_of inner_of inner_in edges_in occurs

    pub touched_tree : (t : Tree) (s v : ℕ) (L : List ℕ) → Fits G H s L t → 0 < occurs v (inner_of G t) + occurs v L → Touched v (edges_of t)
    touched_tree (apply r place ps) s v L x h =
        pos_sum (occurs v (inner_in G ps)) (occurs v (images place (internals (right_of G r))) + occurs v L)
        (omega (arith, occurs_append v (images place (internals (right_of G r))) (inner_in G ps)))
        (λ a. touched_inner ps v place (right_of G r).edges x.1 a)
        (λ a. let y = node_of_is s v r L place x.0 a in
        let c = (ok.rule r x.0.known).right.covered y.0 y.1 in
        touched_at ps v place (right_of G r).edges x.1 c.edge c.known
        (subst (λ (u : ℕ). 0 < occurs u (images place (edge_at (right_of G r).edges c.edge).attachment)) y.2
        (images_pos place (edge_at (right_of G r).edges c.edge).attachment y.0 c.on)))

    -- an inner node of some parts
    pub touched_inner : (ps : Parts) (v : ℕ) (place : List ℕ) (es : List Edge) → FitsParts G H place ps es → 0 < occurs v (inner_in G ps) → Touched v (edges_in ps)
    touched_inner end v place es x h = absurd (not-suc-le-zero h)
    touched_inner (edge g ps) v place [] x h = absurd x
    touched_inner (edge g ps) v place (e ∷ es) x h =
        touched_more v (edges_in ps) (g ∷ edges_in ps) (λ f. omega arith) (touched_inner ps v place es x.1 h)
    touched_inner (tree t ps) v place [] x h = absurd x
    touched_inner (tree t ps) v place (e ∷ es) x h =
        pos_sum (occurs v (inner_of G t)) (occurs v (inner_in G ps)) (omega (arith, occurs_append v (inner_of G t) (inner_in G ps)))
        (λ a. touched_more v (edges_of t) (edges_of t ++ edges_in ps) (λ f. omega (arith, occurs_append f (edges_of t) (edges_in ps)))
        (touched_tree t e.label v (images place e.attachment) x.0 (omega arith)))
        (λ a. touched_more v (edges_in ps) (edges_of t ++ edges_in ps) (λ f. omega (arith, occurs_append f (edges_of t) (edges_in ps))) (touched_inner ps v place es x.1 a))

    -- a node at the end of a tentacle of the i-th edge
    pub touched_at : (ps : Parts) (v : ℕ) (place : List ℕ) (es : List Edge) → FitsParts G H place ps es → (i : ℕ) → i < length es
        → 0 < occurs v (images place (edge_at es i).attachment) → Touched v (edges_in ps)
    touched_at end v place [] x i l h = absurd (not-suc-le-zero l)
    touched_at end v place (e ∷ es) x i l h = absurd x
    touched_at (edge g ps) v place [] x i l h = absurd x
    touched_at (edge g ps) v place (e ∷ es) x zero l h = touched_edge e.label v g (images place e.attachment) ps x.0 h
    touched_at (edge g ps) v place (e ∷ es) x (suc i) l h =
        touched_more v (edges_in ps) (g ∷ edges_in ps) (λ f. omega arith) (touched_at ps v place es x.1 i (le_of_suc-le-suc l) h)
    touched_at (tree t ps) v place [] x i l h = absurd x
    touched_at (tree t ps) v place (e ∷ es) x zero l h =
        touched_more v (edges_of t) (edges_of t ++ edges_in ps) (λ f. omega (arith, occurs_append f (edges_of t) (edges_in ps)))
        (touched_tree t e.label v (images place e.attachment) x.0 (omega arith))
    touched_at (tree t ps) v place (e ∷ es) x (suc i) l h =
        touched_more v (edges_in ps) (edges_of t ++ edges_in ps) (λ f. omega (arith, occurs_append f (edges_of t) (edges_in ps)))
        (touched_at ps v place es x.1 i (le_of_suc-le-suc l) h)

  -- ---- and nodes on edges are listed or inner
  module _ (v g : ℕ) (on : 0 < occurs v (edge_at H.edges g).attachment) where
    -- inner in some parts, or at the end of a tentacle of one of the edges
    pub data Held (place : List ℕ) (ps : Parts) (es : List Edge) : Type 0 where
      inside : 0 < occurs v (inner_in G ps) → Held place ps es
      ends : (i : ℕ) → i < length es → 0 < occurs v (images place (edge_at es i).attachment) → Held place ps es

    held_apply : (s r : ℕ) (L place : List ℕ) (ps : Parts) → FitsRule G H s L r place → Held place ps (right_of G r).edges → 0 < occurs v (inner_of G (apply r place ps)) + occurs v L
    unfolding inner_of
    held_apply s r L place ps x (inside k) = omega (arith, occurs_append v (images place (internals (right_of G r))) (inner_in G ps))
    held_apply s r L place ps x (ends i l k) =
        let y = images_find place (edge_at (right_of G r).edges i).attachment v k in
        let low : y.0 < length place = omega (arith, x.sized, ((ok.rule r x.known).right.edge i l).listed.inside y.0 y.1) in
        omega (
          arith,
          ap (occurs v) x.externals,
          images_split v (right_of G r) place x.sized (ok.rule r x.known).right.externals,
          subst (λ (u : ℕ). 0 < occurs u place) y.2 (occurs_at place y.0 low),
          occurs_append v (images place (internals (right_of G r))) (inner_in G ps),
        )

    held_later : (place : List ℕ) (ps qs : Parts) (e : Edge) (es : List Edge) → occurs v (inner_in G ps) ≤ occurs v (inner_in G qs) → Held place ps es → Held place qs (e ∷ es)
    held_later place ps qs e es le (inside k) = inside (omega arith)
    held_later place ps qs e es le (ends i l k) = ends (suc i) (omega arith) k

    mutual
      unfolding edges_of inner_of inner_in edges_in occurs

      pub held_tree : (t : Tree) (s : ℕ) (L : List ℕ) → Fits G H s L t → 0 < occurs g (edges_of t) → 0 < occurs v (inner_of G t) + occurs v L
      held_tree (apply r place ps) s L x h = held_apply s r L place ps x.0 (held_parts ps place (right_of G r).edges x.1 h)

      pub held_parts : (ps : Parts) (place : List ℕ) (es : List Edge) → FitsParts G H place ps es → 0 < occurs g (edges_in ps) → Held place ps es
      held_parts end place es x h = absurd (not-suc-le-zero h)
      held_parts (edge f ps) place [] x h = absurd x
      held_parts (edge f ps) place (e ∷ es) x h =
          pos_sum (hit g f) (occurs g (edges_in ps)) h
          (λ a. ends 0 (omega arith) (omega (arith, ap (occurs v) x.0.attachment, ap (λ (k : ℕ). occurs v (edge_at H.edges k).attachment) (hit_eq g f a))))
          (λ a. held_later place ps (edge f ps) e es (omega arith) (held_parts ps place es x.1 a))
      held_parts (tree t ps) place [] x h = absurd x
      held_parts (tree t ps) place (e ∷ es) x h =
          pos_sum (occurs g (edges_of t)) (occurs g (edges_in ps)) (omega (arith, occurs_append g (edges_of t) (edges_in ps)))
          (λ a. pos_sum (occurs v (inner_of G t)) (occurs v (images place e.attachment)) (held_tree t e.label (images place e.attachment) x.0 a)
          (λ b. inside (omega (arith, occurs_append v (inner_of G t) (inner_in G ps))))
          (λ b. ends 0 (omega arith) b))
          (λ a. held_later place ps (tree t ps) e es (omega (arith, occurs_append v (inner_of G t) (inner_in G ps))) (held_parts ps place es x.1 a))

  -- ---- nodes and edges are the graph's own
  listed_inside : (t : Tree) (s v : ℕ) (L : List ℕ) → Fits G H s L t → 0 < occurs v L → v < H.nodes
  listed_inside (apply r place ps) s v L x h =
      let t = images_find place (right_of G r).externals v (omega (arith, ap (occurs v) x.0.externals)) in
      omega (arith, t.2, x.0.placed t.0 ((ok.rule r x.0.known).right.externals.inside t.0 t.1))

  mutual
    unfolding inner_of inner_in occurs

    inner_inside : (t : Tree) (s v : ℕ) (L : List ℕ) → Fits G H s L t → 0 < occurs v (inner_of G t) → v < H.nodes
    inner_inside (apply r place ps) s v L x h =
        pos_sum (occurs v (images place (internals (right_of G r)))) (occurs v (inner_in G ps)) (omega (arith, occurs_append v (images place (internals (right_of G r))) (inner_in G ps)))
        (λ a. let t = images_find place (internals (right_of G r)) v a in omega (arith, t.2, x.0.placed t.0 (internals_inside (right_of G r) t.0 t.1)))
        (λ a. parts_inside ps v place (right_of G r).edges x.1 a)

    pub parts_inside : (ps : Parts) (v : ℕ) (place : List ℕ) (es : List Edge) → FitsParts G H place ps es → 0 < occurs v (inner_in G ps) → v < H.nodes
    parts_inside end v place es x h = absurd (not-suc-le-zero h)
    parts_inside (edge g ps) v place [] x h = absurd x
    parts_inside (edge g ps) v place (e ∷ es) x h = parts_inside ps v place es x.1 h
    parts_inside (tree t ps) v place [] x h = absurd x
    parts_inside (tree t ps) v place (e ∷ es) x h =
        pos_sum (occurs v (inner_of G t)) (occurs v (inner_in G ps)) (omega (arith, occurs_append v (inner_of G t) (inner_in G ps)))
        (λ a. inner_inside t e.label v (images place e.attachment) x.0 a)
        (λ a. parts_inside ps v place es x.1 a)

  pub tree_inside : (t : Tree) (s v : ℕ) (L : List ℕ) → Fits G H s L t → 0 < occurs v (inner_of G t) + occurs v L → v < H.nodes
  tree_inside t s v L x h = pos_sum (occurs v (inner_of G t)) (occurs v L) h (inner_inside t s v L x) (listed_inside t s v L x)

  mutual
    unfolding edges_of edges_in occurs

    pub edges_known : (t : Tree) (s g : ℕ) (L : List ℕ) → Fits G H s L t → 0 < occurs g (edges_of t) → g < length H.edges
    edges_known (apply r place ps) s g L x h = parts_known ps g place (right_of G r).edges x.1 h

    pub parts_known : (ps : Parts) (g : ℕ) (place : List ℕ) (es : List Edge) → FitsParts G H place ps es → 0 < occurs g (edges_in ps) → g < length H.edges
    parts_known end g place es x h = absurd (not-suc-le-zero h)
    parts_known (edge f ps) g place [] x h = absurd x
    parts_known (edge f ps) g place (e ∷ es) x h =
        pos_sum (hit g f) (occurs g (edges_in ps)) h (λ a. omega (arith, x.0.known, hit_eq g f a)) (λ a. parts_known ps g place es x.1 a)
    parts_known (tree t ps) g place [] x h = absurd x
    parts_known (tree t ps) g place (e ∷ es) x h =
        pos_sum (occurs g (edges_of t)) (occurs g (edges_in ps)) (omega (arith, occurs_append g (edges_of t) (edges_in ps)))
        (λ a. edges_known t e.label g (images place e.attachment) x.0 a)
        (λ a. parts_known ps g place es x.1 a)

  -- ---- no tree is without edges (T5)
  pub record Some (gs : List ℕ) : Type 0 where
    pub edge : ℕ
    pub used : 0 < occurs edge gs

  mutual
    unfolding edges_of edges_in occurs

    pub tree_edge : (t : Tree) (s : ℕ) (L : List ℕ) → Fits G H s L t → Some (edges_of t)
    tree_edge (apply r place ps) s L x = parts_edge ps place (right_of G r).edges x.1 (ok.rule r x.0.known).right.edge_count.lower

    pub parts_edge : (ps : Parts) (place : List ℕ) (es : List Edge) → FitsParts G H place ps es → 0 < length es → Some (edges_in ps)
    parts_edge end place [] x h = absurd (not-suc-le-zero h)
    parts_edge end place (e ∷ es) x h = absurd x
    parts_edge (edge g ps) place es x h = record { edge = g; used = omega (arith, hit_self g) }
    parts_edge (tree t ps) place [] x h = absurd x
    parts_edge (tree t ps) place (e ∷ es) x h =
        let k = tree_edge t e.label (images place e.attachment) x.0 in
        record { edge = k.edge; used = omega (arith, k.used, occurs_append k.edge (edges_of t) (edges_in ps)) }
