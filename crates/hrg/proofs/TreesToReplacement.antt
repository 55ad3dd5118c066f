-- T3, from trees to replacement: the applications of a tree, in the derivation file's order, are replacement steps
-- that end in its edges.
use mathlib.Core.Path.{◌≡◌, refl, sym, ap, ◌∙◌, subst, subst₂}
use mathlib.Core.List.{List, [], ◌∷◌, ◌++◌, map, append-nil, append_assoc}
use Prim.Native.Nat.{ℕ, ◌+◌, ◌≤◌, ◌<◌}
use native.Mathlib.Omega.{arith}
use Rattle.hrg.specs.Counts.{occurs}
use Rattle.hrg.specs.Grammars.{Edge, Graph, Grammar, right_of, edge_at}
use Rattle.hrg.specs.Trees.{at, images, Tree, apply, Parts, end, edge, tree, edges_of, edges_in, internals, inner_of, inner_in, applications, applications_in, FitsEdge, FitsRule, Fits, FitsParts}
use Rattle.hrg.specs.Replacement.{Hypergraph, renamed, Application, Replaces, Derives, none, step, steps_of, start_on, preorder, preorder_in}
use Rattle.hrg.proofs.Sums.{occurs_append}
use Rattle.hrg.proofs.Degrees.{zero_or}
use Rattle.hrg.proofs.Sides.{edges_at}

-- a graph in the course of a derivation, by its parts
abbrev pub graph_of : List ℕ → List ℕ → List Edge → Hypergraph
graph_of ns xs es = record { nodes = ns; externals = xs; edges = es }

pub edges_at_append : (H : Graph) (is js : List ℕ) → edges_at H (is ++ js) ≡ edges_at H is ++ edges_at H js
edges_at_append H [] js = refl
edges_at_append H (i ∷ is) js = ap (λ (es : List Edge). edge_at H.edges i ∷ es) (edges_at_append H is js)

module _ (G : Grammar) where
  derives_append : {K K' K'' : Hypergraph} {xs ys : List Application} → Derives G K xs K' → Derives G K' ys K'' → Derives G K (xs ++ ys) K''
  derives_append none d = d
  derives_append (step r c) d = step r (derives_append c d)

  -- ---- one application
  module _ (H : Graph) where
    -- a terminal edge of a copy is the graph edge
    edge_same : (place : List ℕ) (e : Edge) (g : ℕ) → FitsEdge G H e.label (images place e.attachment) g → renamed (λ x. at place x) e ≡ edge_at H.edges g
    edge_same place e g x = λ i. record { label = sym x.label i; attachment = sym x.attachment i }

    replaces : (s r : ℕ) (L place ns xs : List ℕ) (before after : List Edge) → FitsRule G H s L r place
        → ((v : ℕ) → 0 < occurs v (images place (internals (right_of G r))) → occurs v (images place (internals (right_of G r))) + occurs v ns ≤ 1)
        → Replaces G (graph_of ns xs (before ++ (record { label = s; attachment = L } ∷ after))) (record { rule = r; place = place })
        (graph_of (ns ++ images place (internals (right_of G r))) xs (before ++ (map (renamed (λ x. at place x)) (right_of G r).edges ++ after)))
    replaces s r L place ns xs before after x new =
        record {
          before = before;
          replaced = record { label = s; attachment = L };
          after = after;
          there = refl;
          kind = x.kind;
          known = x.known;
          lhs = x.lhs;
          sized = x.sized;
          identified = x.externals;
          fresh = λ v h. omega (arith, new v h);
          once = λ v. zero_or (occurs v (images place (internals (right_of G r)))) (λ z. omega arith) (λ h. omega (arith, new v h));
          nodes = refl;
          externals = refl;
          edges = refl;
        }

    -- the next edge joins those before it
    moved : (before mid : List Edge) (after : List Edge) (ns xs : List ℕ) → graph_of ns xs ((before ++ mid) ++ after) ≡ graph_of ns xs (before ++ (mid ++ after))
    moved before mid after ns xs = ap (λ (es : List Edge). graph_of ns xs es) (append_assoc before mid after)

    mutual
      unfolding preorder preorder_in edges_of edges_in inner_of inner_in

      -- the inner nodes of the tree are no nodes of the host, and pairwise different
      pub tree_derives : (t : Tree) (s : ℕ) (L ns xs : List ℕ) (before after : List Edge) → Fits G H s L t → ((v : ℕ) → 0 < occurs v (inner_of G t) → occurs v (inner_of G t) + occurs v ns ≤ 1)
          → Derives G (graph_of ns xs (before ++ (record { label = s; attachment = L } ∷ after))) (preorder t) (graph_of (ns ++ inner_of G t) xs (before ++ (edges_at H (edges_of t) ++ after)))
      tree_derives (apply r place ps) s L ns xs before after x new =
          let own = images place (internals (right_of G r)) in
          step (replaces s r L place ns xs before after x.0 (λ v h. let k = occurs_append v own (inner_in G ps) in omega (arith, k, new v (omega arith))))
          (subst (λ (l : List ℕ). Derives G (graph_of (ns ++ own) xs (before ++ (map (renamed (λ x. at place x)) (right_of G r).edges ++ after))) (preorder_in ps) (graph_of l xs (before ++ (edges_at H (edges_in ps) ++ after))))
          (append_assoc ns own (inner_in G ps))
          (parts_derive ps place (right_of G r).edges (ns ++ own) xs before after x.1
          (λ v h. let k = occurs_append v own (inner_in G ps) in omega (arith, k, new v (omega arith), occurs_append v ns own))))

      -- the parts of an application replace its edges one by one, from the first to the last
      pub parts_derive : (ps : Parts) (place : List ℕ) (es : List Edge) (ns xs : List ℕ) (before after : List Edge) → FitsParts G H place ps es
          → ((v : ℕ) → 0 < occurs v (inner_in G ps) → occurs v (inner_in G ps) + occurs v ns ≤ 1)
          → Derives G (graph_of ns xs (before ++ (map (renamed (λ x. at place x)) es ++ after))) (preorder_in ps) (graph_of (ns ++ inner_in G ps) xs (before ++ (edges_at H (edges_in ps) ++ after)))
      parts_derive end place [] ns xs before after x new =
          subst (λ (l : List ℕ). Derives G (graph_of ns xs (before ++ after)) [] (graph_of l xs (before ++ after))) (sym (append-nil ns)) none
      parts_derive end place (e ∷ es) ns xs before after x new = absurd x
      parts_derive (edge g ps) place [] ns xs before after x new = absurd x
      parts_derive (edge g ps) place (e ∷ es) ns xs before after x new =
          let g_edge = edge_at H.edges g in
          subst₂ (λ (K K' : Hypergraph). Derives G K (preorder_in ps) K')
          (moved before (g_edge ∷ []) (map (renamed (λ x. at place x)) es ++ after) ns xs
          ∙ ap (λ (f : Edge). graph_of ns xs (before ++ (f ∷ (map (renamed (λ x. at place x)) es ++ after)))) (sym (edge_same place e g x.0)))
          (moved before (g_edge ∷ []) (edges_at H (edges_in ps) ++ after) (ns ++ inner_in G ps) xs)
          (parts_derive ps place es ns xs (before ++ (g_edge ∷ [])) after x.1 new)
      parts_derive (tree t ps) place [] ns xs before after x new = absurd x
      parts_derive (tree t ps) place (e ∷ es) ns xs before after x new =
          let mid = edges_at H (edges_of t) in
          derives_append
          (tree_derives t e.label (images place e.attachment) ns xs before (map (renamed (λ x. at place x)) es ++ after) x.0
          (λ v h. let k = occurs_append v (inner_of G t) (inner_in G ps) in omega (arith, k, new v (omega arith))))
          (subst₂ (λ (K K' : Hypergraph). Derives G K (preorder_in ps) K')
          (moved before mid (map (renamed (λ x. at place x)) es ++ after) (ns ++ inner_of G t) xs)
          (simp (append_assoc, edges_at_append))
          (parts_derive ps place es (ns ++ inner_of G t) xs (before ++ mid) after x.1
          (λ v h. let k = occurs_append v (inner_of G t) (inner_in G ps) in omega (arith, k, new v (omega arith), occurs_append v ns (inner_of G t)))))

    -- ---- from one edge alone, and from some edges alone
    pub tree_runs : (t : Tree) (s : ℕ) (L : List ℕ) → Fits G H s L t → ((v : ℕ) → occurs v (inner_of G t) + occurs v L ≤ 1)
        → Derives G (start_on s L) (preorder t) (graph_of (L ++ inner_of G t) L (edges_at H (edges_of t)))
    tree_runs t s L x once =
        subst (λ (es : List Edge). Derives G (start_on s L) (preorder t) (graph_of (L ++ inner_of G t) L es)) (append-nil (edges_at H (edges_of t)))
        (tree_derives t s L L L [] [] x (λ v h. once v))

    pub parts_run : (ps : Parts) (place : List ℕ) (es : List Edge) (ns xs : List ℕ) → FitsParts G H place ps es → ((v : ℕ) → occurs v (inner_in G ps) + occurs v ns ≤ 1)
        → Derives G (graph_of ns xs (map (renamed (λ x. at place x)) es)) (preorder_in ps) (graph_of (ns ++ inner_in G ps) xs (edges_at H (edges_in ps)))
    parts_run ps place es ns xs x once =
        subst₂ (λ (as' bs : List Edge). Derives G (graph_of ns xs as') (preorder_in ps) (graph_of (ns ++ inner_in G ps) xs bs))
        (append-nil (map (renamed (λ x. at place x)) es)) (append-nil (edges_at H (edges_in ps)))
        (parts_derive ps place es ns xs [] [] x (λ v h. once v))

  -- ---- the number of steps is that of applications
  steps_append : (xs ys : List Application) → steps_of G (xs ++ ys) ≡ steps_of G xs + steps_of G ys
  unfolding steps_of
  steps_append [] ys = omega arith
  steps_append (a ∷ xs) ys = omega (arith, steps_append xs ys)

  mutual
    unfolding preorder preorder_in steps_of applications applications_in

    pub steps_tree : (t : Tree) → steps_of G (preorder t) ≡ applications G t
    steps_tree (apply r place ps) = omega (arith, steps_parts ps)

    pub steps_parts : (ps : Parts) → steps_of G (preorder_in ps) ≡ applications_in G ps
    steps_parts end = refl
    steps_parts (edge g ps) = steps_parts ps
    steps_parts (tree t ps) = omega (arith, steps_append (preorder t) (preorder_in ps), steps_tree t, steps_parts ps)
