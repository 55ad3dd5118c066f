-- Two sides with disjoint edge sets, joined at a plan node, make a true active item: one lemma for the three rules
-- that join.
use mathlib.Core.Path.{◌≡◌, refl, sym, ap, ap₂, ◌∙◌, subst}
use mathlib.Core.Bool.{Bool, true, false}
use mathlib.Core.List.{List, [], ◌∷◌, ◌++◌}
use Prim.Native.Nat.{ℕ, zero, suc, ◌+◌, ◌≤◌, ◌<◌}
use native.Mathlib.Omega.{arith}
use lib.ListN.{length}
use Rattle.masks.specs.Masks.{bit}
use Rattle.masks.proofs.Laws.{bit_union, bit_le}
use Rattle.hrg.specs.Counts.{hit, occurs}
use Rattle.hrg.specs.Grammars.{Edge, Graph, Rule, Grammar, edge_at}
use Rattle.hrg.specs.Trees.{unplaced, at, images, edges_in, inner_in, FitsParts}
use Rattle.hrg.specs.Items.{below, is_open_at, or_else, joined, keep_if, restrict, Joins}
use Rattle.hrg.specs.Truth.{ActiveTruth}
use Rattle.hrg.specs.WellFormed.{GrammarOk, GraphOk, RuleOk}
use Rattle.hrg.proofs.Sums.{sum_to, sum_le, sum_add, occurs_sum, occurs_find, length_tabulate, at_tabulate, tabulate_ext}
use Rattle.hrg.proofs.Degrees.{degree, places, degree_add, degree_le, degree_pos, degree_find, zero_or}
use Rattle.hrg.proofs.Parts.{◌⧺◌, edges_append, inner_append, applications_append, fits_append, fits_place}
use Rattle.hrg.proofs.TreeNodes.{Touched, touched_inner, touched_at, images_pos, pos_sum}
use Rattle.hrg.proofs.Sides.{tentacles, tentacles_append, tentacles_le, open_of, once, open_at_in, below_in, below_of, either_set, either_none, either_right, hit_either, images_eq, edges_at, edges_at_lem, Side}

pub keep_ext : (b : Bool) (a c : ℕ) → (b ≡ true → a ≡ c) → keep_if b a ≡ keep_if b c
keep_ext true a c h = h refl
keep_ext false a c h = refl

-- the images of a list of edges' attachments agree where the places of the nodes on these edges do
pub agree_at_lem : (G : Grammar) (R : Rule) → RuleOk G R → (is l k : List ℕ) → ((i : ℕ) → 0 < occurs i is → i < length R.production.right.edges)
    → ((x : ℕ) → x < R.production.right.nodes → 0 < tentacles R.production.right is x → at l x ≡ at k x)
    → (i : ℕ) → i < length (edges_at R.production.right is)
    → images l (edge_at (edges_at R.production.right is) i).attachment ≡ images k (edge_at (edges_at R.production.right is) i).attachment
agree_at_lem G R rok is l k known h i b =
    let P = R.production.right in
    let t = edges_at_lem P is i b in
    let go : images l (edge_at P.edges t.0).attachment ≡ images k (edge_at P.edges t.0).attachment
    = images_eq l k (edge_at P.edges t.0).attachment
    (λ x q. h x ((rok.right.edge t.0 (known t.0 t.1)).listed.inside x q) (degree_pos (λ i. occurs i is) P.edges x t.0 t.1 q)) in
    subst (λ (e : Edge). images l e.attachment ≡ images k e.attachment) (sym t.2) go

module _ (G : Grammar) (H : Graph) (ok : GrammarOk G) (hok : GraphOk G H) where
  -- every node of a side lies on one of its graph edges
  pub side_touch : (P : Graph) (is : List ℕ) {m n : ℕ} {f : List ℕ} (s : Side G H P is m f n) (v : ℕ) → v < H.nodes
      → 0 < occurs v (inner_in G s.parts) + occurs v s.place → 0 < degree (bit m) H.edges v
  side_touch P is {m} s v l h =
      pos_sum (occurs v (inner_in G s.parts)) (occurs v s.place) h
      (λ k. got (touched_inner G H ok s.parts v s.place (edges_at P is) s.fits k))
      (λ k. let t = occurs_find v s.place k in by_node t.0 (omega (arith, s.sized, t.1)) t.2)
    where
      got : Touched G H ok v (edges_in s.parts) → 0 < degree (bit m) H.edges v
      got t = degree_pos (bit m) H.edges v t.edge (omega (arith, s.edges t.edge, t.used)) t.on

      -- the list of edges has the edge number j somewhere
      member : (js : List ℕ) (j : ℕ) → 0 < occurs j js → (i : ℕ) × (i < length (edges_at P js)) × (edge_at (edges_at P js) i ≡ edge_at P.edges j)
      member js j o = let t = occurs_find j js o in (t.0, long js t.0 t.1, found js t.0 t.1 ∙ ap (λ (k : ℕ). edge_at P.edges k) t.2)
        where
          long : (js : List ℕ) (i : ℕ) → i < length js → i < length (edges_at P js)
          long [] i l = l
          long (j ∷ js) zero l = omega arith
          long (j ∷ js) (suc i) l = omega (arith, long js i (omega arith))

          found : (js : List ℕ) (i : ℕ) → i < length js → edge_at (edges_at P js) i ≡ edge_at P.edges (at js i)
          found [] i l = absurd (omega arith)
          found (j ∷ js) zero l = refl
          found (j ∷ js) (suc i) l = found js i (omega arith)

      by_node : (x : ℕ) → x < P.nodes → at s.place x ≡ v → 0 < degree (bit m) H.edges v
      by_node x b q =
          zero_or (tentacles P is x)
          (λ z. absurd (omega (arith, s.others x b z, hok.side.node_count.upper)))
          (λ z. let t = degree_find (λ i. occurs i is) P.edges x z in
          let j = member is t.0 t.2 in
          got (touched_at G H ok s.parts v s.place (edges_at P is) s.fits j.0 j.1
          (subst (λ (e : Edge). 0 < occurs v (images s.place e.attachment)) (sym j.2)
          (subst (λ (u : ℕ). 0 < occurs u (images s.place (edge_at P.edges t.0).attachment)) q (images_pos s.place (edge_at P.edges t.0).attachment x t.3)))))

  module _ (R : Rule) (rok : RuleOk G R) (p : ℕ) (inside : p < length R.plan) (is js : List ℕ) (split : below R.plan p ≡ is ++ js)
      (known : (i : ℕ) → 0 < occurs i (is ++ js) → i < length R.production.right.edges)
      {m₁ m₂ m n k : ℕ} {f g h : List ℕ}
      (s : Side G H R.production.right is m₁ f n) (t : Side G H R.production.right js m₂ g k) (J : Joins H R p m₁ m₂ f g m h) where
    P : Graph
    P = R.production.right

    place : List ℕ
    place = joined R.production.right.nodes s.place t.place

    sums : (x : ℕ) → tentacles R.production.right (below R.plan p) x ≡ tentacles R.production.right is x + tentacles R.production.right js x
    sums x = ap (λ (l : List ℕ). tentacles R.production.right l x) split ∙ tentacles_append R.production.right is js x

    sums_le : (x : ℕ) → tentacles R.production.right is x + tentacles R.production.right js x ≤ places R.production.right x
    sums_le x = omega (arith, sums x, tentacles_le R.production.right (below R.plan p) x (once R rok p inside))

    at_place : (x : ℕ) → x < R.production.right.nodes → at place x ≡ or_else (at s.place x) (at t.place x)
    unfolding place joined
    at_place x l = at_tabulate R.production.right.nodes (λ x. or_else (at s.place x) (at t.place x)) x l

    at_joined : (x : ℕ) → x < R.production.right.nodes → at (joined R.production.right.nodes f g) x ≡ or_else (at f x) (at g x)
    unfolding joined
    at_joined x l = at_tabulate R.production.right.nodes (λ x. or_else (at f x) (at g x)) x l

    -- a node of both sides is shown by both maps, which agree
    both : (x : ℕ) → x < R.production.right.nodes → 0 < tentacles R.production.right is x → 0 < tentacles R.production.right js x
        → (at f x ≡ at s.place x) × (at g x ≡ at t.place x) × (at s.place x ≡ at t.place x) × (at s.place x < H.nodes)
    both x l a b =
        let e₁ = s.shown x l a (omega (arith, sums_le x)) in
        let e₂ = t.shown x l b (omega (arith, sums_le x)) in
        let q₁ = s.placed x l a in
        let q₂ = t.placed x l b in
        (e₁, e₂, sym e₁ ∙ J.function x l (omega (arith, e₁, q₁, hok.side.node_count.upper)) (omega (arith, e₂, q₂, hok.side.node_count.upper)) ∙ e₂, q₁)

    first : (x : ℕ) → x < R.production.right.nodes → 0 < tentacles R.production.right is x → at place x ≡ at s.place x
    first x l a = at_place x l ∙ either_set (at s.place x) (at t.place x) (omega (arith, s.placed x l a, hok.side.node_count.upper))

    second : (x : ℕ) → x < R.production.right.nodes → 0 < tentacles R.production.right js x → at place x ≡ at t.place x
    second x l b =
        zero_or (tentacles R.production.right is x)
        (λ z. at_place x l ∙ either_none (at s.place x) (at t.place x) (s.others x l z))
        (λ a. first x l a ∙ (both x l a b).2)

    neither : (x : ℕ) → x < R.production.right.nodes → tentacles R.production.right is x ≡ 0 → tentacles R.production.right js x ≡ 0 → at place x ≡ unplaced
    neither x l a b = at_place x l ∙ either_none (at s.place x) (at t.place x) (s.others x l a) ∙ t.others x l b

    -- where a node stays open the joined map shows its place
    shows : (x : ℕ) → x < R.production.right.nodes → tentacles R.production.right (below R.plan p) x < places R.production.right x
        → at (joined R.production.right.nodes f g) x ≡ at place x
    shows x l o =
        zero_or (tentacles R.production.right is x)
        (λ z. at_joined x l ∙ either_none (at f x) (at g x) (s.blank x l z) ∙ zero_or (tentacles R.production.right js x)
        (λ y. t.blank x l y ∙ sym (neither x l z y))
        (λ b. t.shown x l b (omega (arith, sums x)) ∙ sym (second x l b)))
        (λ a. let e = s.shown x l a (omega (arith, sums x)) in
        at_joined x l ∙ either_set (at f x) (at g x) (omega (arith, e, s.placed x l a, hok.side.node_count.upper)) ∙ e ∙ sym (first x l a))

    -- a graph node counted at one rule node
    hits : (v x : ℕ) → x < R.production.right.nodes
        → hit v (at place x) + (hit v (at f x) + hit v (at g x)) ≤ hit v (at (joined R.production.right.nodes f g) x) + (hit v (at s.place x) + hit v (at t.place x))
    hits v x l =
        zero_or (tentacles R.production.right is x)
        (λ z. omega (
          arith,
          ap (hit v) (at_place x l ∙ either_none (at s.place x) (at t.place x) (s.others x l z)),
          ap (hit v) (s.others x l z),
          ap (hit v) (s.blank x l z),
          ap (hit v) (at_joined x l ∙ either_none (at f x) (at g x) (s.blank x l z)),
        ))
        (λ a. zero_or (tentacles R.production.right js x)
        (λ z. omega (
          arith,
          ap (hit v) (first x l a),
          ap (hit v) (t.others x l z),
          ap (hit v) (t.blank x l z),
          ap (hit v) (at_joined x l ∙ either_right (at f x) (at g x) (t.blank x l z)),
        ))
        (λ b. let q = both x l a b in
        omega (
          arith,
          ap (hit v) (first x l a),
          ap (hit v) q.0,
          ap (hit v) q.1,
          ap (hit v) q.2,
          ap (hit v) (at_joined x l ∙ either_set (at f x) (at g x) (omega (arith, q.0, q.3, hok.side.node_count.upper)) ∙ q.0),
        )))

    -- and over the whole right side
    counted : (v : ℕ) → occurs v place + (occurs v f + occurs v g) ≤ occurs v (joined R.production.right.nodes f g) + (occurs v s.place + occurs v t.place)
    unfolding place joined
    counted v =
        let N = R.production.right.nodes in
        let j = joined N f g in
        omega (
          arith,
          sum_le N (λ x. hit v (at place x) + (hit v (at f x) + hit v (at g x))) (λ x. hit v (at j x) + (hit v (at s.place x) + hit v (at t.place x))) (λ x l. hits v x l),
          sum_add N (λ x. hit v (at place x)) (λ x. hit v (at f x) + hit v (at g x)),
          sum_add N (λ x. hit v (at f x)) (λ x. hit v (at g x)),
          sum_add N (λ x. hit v (at j x)) (λ x. hit v (at s.place x) + hit v (at t.place x)),
          sum_add N (λ x. hit v (at s.place x)) (λ x. hit v (at t.place x)),
          occurs_sum v N place (length_tabulate N (λ x. or_else (at s.place x) (at t.place x))),
          occurs_sum v N f s.long,
          occurs_sum v N g t.long,
          occurs_sum v N j (length_tabulate N (λ x. or_else (at f x) (at g x))),
          occurs_sum v N s.place s.sized,
          occurs_sum v N t.place t.sized,
        )

    counted_joined : (v : ℕ) → occurs v (joined R.production.right.nodes f g) ≤ occurs v f + occurs v g
    unfolding joined
    counted_joined v =
        let N = R.production.right.nodes in
        let j = joined N f g in
        omega (
          arith,
          sum_le N (λ x. hit v (at j x)) (λ x. hit v (at f x) + hit v (at g x)) (λ x l. omega (arith, ap (hit v) (at_joined x l), hit_either v (at f x) (at g x))),
          sum_add N (λ x. hit v (at f x)) (λ x. hit v (at g x)),
          occurs_sum v N f s.long,
          occurs_sum v N g t.long,
          occurs_sum v N j (length_tabulate N (λ x. or_else (at f x) (at g x))),
        )

    bits : (e : ℕ) → bit m e ≡ bit m₁ e + bit m₂ e
    bits e = ap (λ (x : ℕ). bit x e) J.union ∙ bit_union m₁ m₂ e J.disjoint

    graph_sums : (v : ℕ) → degree (bit m) H.edges v ≡ degree (bit m₁) H.edges v + degree (bit m₂) H.edges v
    graph_sums v = degree_add (bit m₁) (bit m₂) (bit m) H.edges v bits

    graph_le : (v : ℕ) → degree (bit m) H.edges v ≤ places H v
    unfolding places
    graph_le v = omega (arith, degree_le (bit m) (λ i. 1) H.edges v (λ i. bit_le m i))

    -- no node is inner twice, inner and placed, or placed twice: a node of both sides is open in both, so both maps
    -- show it
    join_once : (v : ℕ) → v < H.nodes → occurs v (inner_in G s.parts) + occurs v (inner_in G t.parts) + occurs v place ≤ 1
    join_once v u =
        zero_or (occurs v (inner_in G s.parts) + occurs v s.place)
        (λ z. omega (arith, counted v, counted_joined v, t.once v u))
        (λ a. zero_or (occurs v (inner_in G t.parts) + occurs v t.place)
        (λ z. omega (arith, counted v, counted_joined v, s.once v u))
        (λ b. let x = side_touch R.production.right is s v u a in
        let y = side_touch R.production.right js t v u b in
        omega (
          arith,
          counted v,
          J.one_to_one_is v u,
          s.once v u,
          t.once v u,
          s.covers.image v u (open_of H m₁ v x (omega (arith, graph_sums v, graph_le v))),
          t.covers.image v u (open_of H m₂ v y (omega (arith, graph_sums v, graph_le v))),
        )))

    join_fits_is : FitsParts G H place (s.parts ⧺ t.parts) (edges_at R.production.right is ++ edges_at R.production.right js)
    join_fits_is =
        fits_append G H place s.parts t.parts (edges_at R.production.right is) (edges_at R.production.right js)
        (fits_place G H s.place place s.parts (edges_at R.production.right is)
        (agree_at_lem G R rok is s.place place (λ i o. known i (omega (arith, Rattle.hrg.proofs.Sums.occurs_append i is js))) (λ x l a. sym (first x l a))) s.fits)
        (fits_place G H t.place place t.parts (edges_at R.production.right js)
        (agree_at_lem G R rok js t.place place (λ i o. known i (omega (arith, Rattle.hrg.proofs.Sums.occurs_append i is js))) (λ x l b. sym (second x l b))) t.fits)

    map_append : (l k : List ℕ) → edges_at R.production.right (l ++ k) ≡ edges_at R.production.right l ++ edges_at R.production.right k
    map_append [] k = refl
    map_append (i ∷ l) k = ap (λ (es : List Edge). edge_at R.production.right.edges i ∷ es) (map_append l k)

    join_map : h ≡ restrict R p place
    unfolding restrict
    join_map =
        J.map
        ∙ tabulate_ext R.production.right.nodes (λ x. keep_if (is_open_at R p x) (at (joined R.production.right.nodes f g) x)) (λ x. keep_if (is_open_at R p x) (at place x))
        (λ x l. keep_ext (is_open_at R p x) (at (joined R.production.right.nodes f g) x) (at place x) (λ o. shows x l (open_at_in R rok p inside x o).1))

    pub join_truth : ActiveTruth G H R p m h (n + k)
    unfolding place joined
    join_truth =
        record {
          place = place;
          parts = s.parts ⧺ t.parts;
          sized = length_tabulate R.production.right.nodes (λ x. or_else (at s.place x) (at t.place x));
          placed = λ x l o. zero_or (tentacles R.production.right is x)
              (λ z. let b : 0 < tentacles R.production.right js x = omega (arith, sums x, below_in R rok p inside x o) in omega (arith, second x l b, t.placed x l b))
              (λ a. omega (arith, first x l a, s.placed x l a));
          others = λ x l o. zero_or (tentacles R.production.right (below R.plan p) x)
              (λ z. neither x l (omega (arith, sums x)) (omega (arith, sums x)))
              (λ a. absurd (o (below_of R rok p inside x a)));
          fits = subst (λ (es : List Edge). FitsParts G H place (s.parts ⧺ t.parts) es) (sym (ap (λ (l : List ℕ). edges_at R.production.right l) split ∙ map_append is js)) join_fits_is;
          edges = λ e. edges_append s.parts t.parts e ∙ ap₂ ◌+◌ (s.edges e) (t.edges e) ∙ sym (bits e);
          once = λ v u. omega (arith, inner_append G s.parts t.parts v, join_once v u);
          map = join_map;
          covers = J.covers;
          count = applications_append G s.parts t.parts ∙ ap₂ ◌+◌ s.count t.count;
        }

    -- the parts of both sides
    pub join_parts : join_truth.parts ≡ s.parts ⧺ t.parts
    unfolding join_truth
    join_parts = refl
