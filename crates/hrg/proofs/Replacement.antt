-- T3: a derivation tree with n applications is the same as n steps of edge replacement, over any edge set and for the
-- whole graph.
use mathlib.Core.Path.{◌≡◌, refl, sym, ap, ap₂, ◌∙◌, subst, subst₂}
use mathlib.Core.Logic.{◌↔◌}
use mathlib.Core.List.Memᴰ.{eq_of_singleton as in_one}
use mathlib.Core.List.Memᴰ.{head as here}
use mathlib.Core.List.Memᴰ.{tail as there}
use mathlib.Core.List.{List, [], ◌∷◌, ◌++◌, map, map-id, Memᴰ as In}
use Prim.Native.Nat.{ℕ, zero, suc, ◌+◌, ◌^◌, ◌<◌}
use native.Mathlib.Nat.{not-suc-le-zero, le_of_suc-le-suc}
use native.Mathlib.Omega.{arith}
use lib.ListN.{length}
use Rattle.masks.specs.Masks.{bit, member}
use Rattle.masks.proofs.Laws.{bit_le}
use Rattle.hrg.specs.Counts.{occurs, tabulate, up_to, select, Reordered}
use Rattle.hrg.specs.Grammars.{Kind, terminal, nonterminal, Edge, Graph, Grammar, kind_of, edge_at}
use Rattle.hrg.specs.Trees.{at, images, Tree, Parts, end, edge, tree, edges_of, edges_in, inner_of, inner_in, applications, applications_in, Fits, FitsParts, Generates}
use Rattle.hrg.specs.WellFormed.{GrammarOk, GraphOk}
use Rattle.hrg.specs.Replacement.{Hypergraph, renamed, Application, Derives, none, step, steps_of, Terminal, Yields, start_on, hypergraph_of, Member, subgraph, TreeOver, preorder, Replay}
use Rattle.hrg.proofs.Sums.{hit_self, occurs_append, sum_over, sum_over_member, at_tabulate, occurs_up_to}
use Rattle.hrg.proofs.Reordering.{reordered_of, reordered_map}
use Rattle.hrg.proofs.TreeNodes.{images_pos, touched_tree, held_tree, tree_inside, edges_known}
use Rattle.hrg.proofs.Sides.{edges_at, edges_at_lem}
use Rattle.hrg.proofs.Soundness.{edges_all}
use Rattle.hrg.proofs.TreesToReplacement.{graph_of, steps_tree, tree_runs}
use Rattle.hrg.proofs.ReplacementToTrees.{preimage, Attached, attached_step, nodes_stay, derived_made}
use Rattle.hrg.proofs.Targets.{reordered_occurs, count_up_to, up_to_once, Target, whole_target, set_edges, Lies, listed, on_edge_is, subgraph_nodes, subgraph_target, subgraph_externals}

-- ---- a renaming as a placement
images_tabulate : (n : ℕ) (f : ℕ → ℕ) (xs : List ℕ) → ((x : ℕ) → 0 < occurs x xs → x < n) → images (tabulate n f) xs ≡ map f xs
unfolding occurs
images_tabulate n f [] h = refl
images_tabulate n f (x ∷ xs) h = ap₂ ◌∷◌ (at_tabulate n f x (h x (omega (arith, hit_self x)))) (images_tabulate n f xs (λ y q. h y (omega arith)))

edges_tabulate : (n : ℕ) (f : ℕ → ℕ) (es : List Edge) → ((i : ℕ) → i < length es → (x : ℕ) → 0 < occurs x (edge_at es i).attachment → x < n)
    → map (renamed (λ x. at (tabulate n f) x)) es ≡ map (renamed f) es
edges_tabulate n f [] h = refl
edges_tabulate n f (e ∷ es) h =
    ap₂ (λ (L : List ℕ) (ds : List Edge). record { label = e.label; attachment = L } ∷ ds)
    (images_tabulate n f e.attachment (h 0 (omega arith))) (edges_tabulate n f es (λ i l. h (suc i) (omega arith)))

-- the nodes of a graph as they are
same_edges : (es : List Edge) → map (renamed (λ v. v)) es ≡ es
same_edges [] = refl
same_edges (e ∷ es) = ap₂ (λ (L : List ℕ) (ds : List Edge). record { label = e.label; attachment = L } ∷ ds) (map-id e.attachment) (same_edges es)

edge_in : (es : List Edge) (i : ℕ) → i < length es → In (edge_at es i) es
edge_in [] i l = absurd (not-suc-le-zero l)
edge_in (e ∷ es) zero l = here refl
edge_in (e ∷ es) (suc i) l = there (edge_in es i (le_of_suc-le-suc l))

module _ (G : Grammar) (H : Graph) where
  -- ---- from a derivation to parts
  module _ (ok : GrammarOk G) where
    attached_end : {K K' : Hypergraph} {applied : List Application} → Derives G K applied K' → Attached K → Attached K'
    attached_end none a = a
    attached_end (step r d) a = attached_end d (attached_step G ok r a)

    externals_stay : {K K' : Hypergraph} {applied : List Application} → Derives G K applied K' → K'.externals ≡ K.externals
    externals_stay none = refl
    externals_stay (step r d) = externals_stay d ∙ r.externals

    -- Parts for the edges of K, its nodes placed in the graph: they use the graph edges gs, and the target's nodes
    -- are theirs and those of K.
    pub record Placed (K target : Hypergraph) (gs : List ℕ) (n : ℕ) : Type 0 where
      pub place : List ℕ
      pub parts : Parts
      pub fits : FitsParts G H place parts K.edges
      pub edges : (e : ℕ) → occurs e (edges_in parts) ≡ occurs e gs
      pub nodes : (v : ℕ) → occurs v (inner_in G parts) + occurs v (images place K.nodes) ≡ occurs v target.nodes
      pub externals : images place K.externals ≡ target.externals
      pub count : applications_in G parts ≡ n

    pub yields_placed : (K target : Hypergraph) (gs : List ℕ) (n : ℕ) → Attached K → ((v : ℕ) → 0 < occurs v K.externals → 0 < occurs v K.nodes) → Target H target gs
        → Yields G K target n → Placed K target gs n
    yields_placed K target gs n attached held t y =
        let K' = y.result in
        let iso = y.isomorphic in
        let f = iso.rename in
        let N = sum_over (λ v. suc v) K'.nodes in
        let Φ = tabulate N f in
        let low : (v : ℕ) → 0 < occurs v K'.nodes → v < N = λ v h. sum_over_member (λ v. suc v) K'.nodes v h in
        let same : (l : List ℕ) → ((v : ℕ) → 0 < occurs v l → 0 < occurs v K'.nodes) → images Φ l ≡ map f l = λ l h. images_tabulate N f l (λ v q. low v (h v q)) in
        let counts : (v : ℕ) → occurs v (images Φ K'.nodes) ≡ occurs v target.nodes = λ v. ap (occurs v) (same K'.nodes (λ u q. q)) ∙ reordered_occurs iso.nodes v in
        let p = preimage (λ (g : ℕ). edge_at H.edges g) iso.edges gs t.edges in
        let m = derived_made G ok H Φ p.list (λ g h. t.known g (omega (arith, reordered_occurs p.order g))) y.derives attached
        (λ v h. t.inside (at Φ v) (omega (arith, images_pos Φ K'.nodes v h, counts (at Φ v))))
        y.terminal
        (p.image ∙ sym (edges_tabulate N f K'.edges (λ i l x h. low x (attached_end y.derives attached (edge_at K'.edges i) (edge_in K'.edges i l) x h)))) in
        record {
          place = Φ;
          parts = m.parts;
          fits = m.fits;
          edges = λ e. m.edges e ∙ reordered_occurs p.order e;
          nodes = λ v. m.nodes v ∙ counts v;
          externals = same K.externals (λ v h. omega (arith, held v h, nodes_stay G ok y.derives v)) ∙ ap (map f) (sym (externals_stay y.derives)) ∙ iso.externals;
          count = m.count ∙ y.count;
        }

  -- ---- from a derivation that ends in graph edges
  module _ (hok : GraphOk G H) where
    all_terminal : (gs ns xs : List ℕ) → ((g : ℕ) → 0 < occurs g gs → g < length H.edges) → Terminal G (graph_of ns xs (edges_at H gs))
    all_terminal gs ns xs known =
        record {
          labels = λ i l.
              let t = edges_at_lem H gs i l in
              ap (λ (e : Edge). kind_of G e.label) t.2 ∙ hok.terminals t.0 (known t.0 t.1);
        }

    pub yields_of : (K target : Hypergraph) (applied : List Application) (inner used gs : List ℕ)
        → Derives G K applied (graph_of (K.nodes ++ inner) K.externals (edges_at H used)) → Target H target gs → ((e : ℕ) → occurs e used ≡ occurs e gs)
        → ((v : ℕ) → occurs v inner + occurs v K.nodes ≡ occurs v target.nodes) → K.externals ≡ target.externals → Yields G K target (steps_of G applied)
    yields_of K target applied inner used gs d t same nodes externals =
        record {
          applied = applied;
          result = graph_of (K.nodes ++ inner) K.externals (edges_at H used);
          derives = d;
          terminal = all_terminal used (K.nodes ++ inner) K.externals (λ g h. t.known g (omega (arith, same g)));
          isomorphic = record {
            rename = λ v. v;
            one_to_one_is = λ v w a b q. q;
            nodes = reordered_of (map (λ v. v) (K.nodes ++ inner)) target.nodes (λ v. omega (arith, ap (occurs v) (map-id (K.nodes ++ inner)), occurs_append v K.nodes inner, nodes v));
            externals = map-id K.externals ∙ externals;
            edges = subst₂ (λ (ds es : List Edge). Reordered ds es) (sym (same_edges (edges_at H used))) (sym t.edges) (reordered_map (λ (e : ℕ). edge_at H.edges e) (reordered_of used gs same));
          };
          count = refl;
        }

-- ---- trees
kinds_differ : (k : Kind) → k ≡ terminal → k ≡ nonterminal → ⊥
kinds_differ k p q = let z : ◌≡◌ {A = ℕ} 0 1 = cc in omega arith

module _ (G : Grammar) (H : Graph) (ok : GrammarOk G) (hok : GraphOk G H) where
  -- A tree of s on L that uses the graph edges gs and has the target's nodes.
  pub record TreeOf (s : ℕ) (L : List ℕ) (target : Hypergraph) (gs : List ℕ) (n : ℕ) : Type 0 where
    pub tree : Tree
    pub fits : Fits G H s L tree
    pub edges : (e : ℕ) → occurs e (edges_of tree) ≡ occurs e gs
    pub nodes : (v : ℕ) → occurs v (inner_of G tree) + occurs v L ≡ occurs v target.nodes
    pub count : applications G tree ≡ n

  module _ (s : ℕ) (L : List ℕ) (target : Hypergraph) (gs : List ℕ) (n : ℕ) (goal : Target H target gs) (externals : L ≡ target.externals) where
    tree_yields : TreeOf s L target gs n → Yields G (start_on s L) target n
    tree_yields t =
        subst (λ (k : ℕ). Yields G (start_on s L) target k) (steps_tree G t.tree ∙ t.count)
        (yields_of G H hok (start_on s L) target (preorder t.tree) (inner_of G t.tree) (edges_of t.tree) gs
        (tree_runs G H t.tree s L t.fits (λ v. omega (arith, t.nodes v, goal.once v))) goal t.edges t.nodes externals)

    one_tree : (place : List ℕ) (ps : Parts) → kind_of G s ≡ nonterminal → images place L ≡ L → FitsParts G H place ps (record { label = s; attachment = L } ∷ [])
        → ((e : ℕ) → occurs e (edges_in ps) ≡ occurs e gs) → ((v : ℕ) → occurs v (inner_in G ps) + occurs v (images place L) ≡ occurs v target.nodes) → applications_in G ps ≡ n → TreeOf s L target gs n
    unfolding edges_in inner_in applications_in occurs
    one_tree place end kind same x e v c = absurd x
    one_tree place (edge g ps) kind same x e v c = absurd (kinds_differ (kind_of G s) x.0.kind kind)
    one_tree place (tree t end) kind same x e v c =
        record {
          tree = t;
          fits = subst (λ (l : List ℕ). Fits G H s l t) same x.0;
          edges = λ g. omega (arith, e g, occurs_append g (edges_of t) []);
          nodes = λ u. omega (arith, v u, occurs_append u (inner_of G t) [], ap (occurs u) same);
          count = omega arith;
        }
    one_tree place (tree t (edge g ps)) kind same x e v c = absurd x.1
    one_tree place (tree t (tree u ps)) kind same x e v c = absurd x.1

    yields_tree : kind_of G s ≡ nonterminal → Yields G (start_on s L) target n → TreeOf s L target gs n
    yields_tree kind y =
        let p = yields_placed G H ok (start_on s L) target gs n
        (λ e i v h. subst (λ (d : Edge). 0 < occurs v d.attachment) (in_one i) h) (λ v h. h) goal y in
        one_tree p.place p.parts kind (p.externals ∙ sym externals) p.fits p.edges p.nodes p.count

  -- ---- T3 for an edge set
  module _ (s : ℕ) (L : List ℕ) (m n : ℕ) where
    over_nodes : (t : TreeOver G H s L m n) (v : ℕ) → occurs v (inner_of G t.tree) + occurs v L ≡ occurs v (subgraph H L m).nodes
    over_nodes t v =
        subgraph_nodes H L m v (occurs v (inner_of G t.tree) + occurs v L) (t.apart.nodes v)
        (tree_inside G H ok t.tree s v L t.fits)
        (λ h. let k = touched_tree G H ok t.tree s v L t.fits h in on_edge_is k.edge k.known (omega (arith, t.edges k.edge, k.used)) k.on)
        back
      where
        back : Lies H L m v → 0 < occurs v (inner_of G t.tree) + occurs v L
        back (listed h) = omega arith
        back (on_edge_is e l b o) = held_tree G H ok v e o t.tree s L t.fits (omega (arith, t.edges e))

    pub replacement_trees : kind_of G s ≡ nonterminal → m < 2 ^ length H.edges → Yields G (start_on s L) (subgraph H L m) n ↔ TreeOver G H s L m n
    replacement_trees kind small =
        let gs = select (λ e. member m e) (up_to (length H.edges)) in
        let goal = subgraph_target H L m in
        let names = sym (subgraph_externals H L m) in (
          λ y. let t = yields_tree s L (subgraph H L m) gs n goal names kind y in
              let set : (e : ℕ) → occurs e (edges_of t.tree) ≡ bit m e = λ e. t.edges e ∙ sym (set_edges H m small e) in
              record {
                tree = t.tree;
                fits = t.fits;
                apart = record { edges = λ e. omega (arith, set e, bit_le m e); nodes = λ v. omega (arith, t.nodes v, goal.once v) };
                edges = set;
                count = t.count;
              },
          λ t. tree_yields s L (subgraph H L m) gs n goal names
              (record { tree = t.tree; fits = t.fits; edges = λ e. t.edges e ∙ set_edges H m small e; nodes = over_nodes t; count = t.count }),
        )

  -- ---- T3 for the whole graph
  generated_nodes : (t : Tree) → Generates G H t → (v : ℕ) → occurs v (inner_of G t) + occurs v H.externals ≡ occurs v (up_to H.nodes)
  generated_nodes t g v =
      count_up_to H.nodes v (occurs v (inner_of G t) + occurs v H.externals) (g.apart.nodes v) (tree_inside G H ok t G.start v H.externals g.fits) (g.nodes v)

  generated_edges : (t : Tree) → Generates G H t → (e : ℕ) → occurs e (edges_of t) ≡ occurs e (up_to (length H.edges))
  generated_edges t g e =
      count_up_to (length H.edges) e (occurs e (edges_of t)) (g.apart.edges e) (edges_known G H ok t G.start e H.externals g.fits) (g.edges e)

  pub member_generated : (n : ℕ) → Member G H n ↔ ((t : Tree) × Generates G H t × (applications G t ≡ n))
  unfolding hypergraph_of
  member_generated n =
      let k = length H.edges in
      let goal = whole_target H in (
        λ y. let t = yields_tree G.start H.externals (hypergraph_of H) (up_to k) n goal refl ok.start_kind y in (
          t.tree,
          record {
            fits = t.fits;
            apart = record { edges = λ e. omega (arith, t.edges e, up_to_once k e); nodes = λ v. omega (arith, t.nodes v, goal.once v) };
            edges = λ e l. omega (arith, t.edges e, occurs_up_to k e l);
            nodes = λ v l. omega (arith, t.nodes v, occurs_up_to H.nodes v l);
          },
          t.count,
        ),
        λ t. tree_yields G.start H.externals (hypergraph_of H) (up_to k) n goal refl
            (record { tree = t.0; fits = t.1.fits; edges = generated_edges t.0 t.1; nodes = generated_nodes t.0 t.1; count = t.2 }),
      )

  -- T3, replay: the applications of a generating tree in the derivation file's order end in exactly the graph
  pub replay : (t : Tree) → Generates G H t → Replay G H t
  replay t g =
      record {
        result = graph_of (H.externals ++ inner_of G t) H.externals (edges_at H (edges_of t));
        derives = tree_runs G H t G.start H.externals g.fits g.apart.nodes;
        nodes = refl;
        externals = refl;
        edges = refl;
        all_nodes = reordered_of (H.externals ++ inner_of G t) (up_to H.nodes) (λ v. omega (arith, occurs_append v H.externals (inner_of G t), generated_nodes t g v));
        all_edges = subst (λ (es : List Edge). Reordered (edges_at H (edges_of t)) es) (edges_all H.edges)
            (reordered_map (λ (e : ℕ). edge_at H.edges e) (reordered_of (edges_of t) (up_to (length H.edges)) (generated_edges t g)));
        count = steps_tree G t;
      }
