-- One edge of a right side with what stands for it, a graph edge or a tree, as a side.
use mathlib.Core.Path.{◌≡◌, refl, sym, ap, ap₂, ◌∙◌, subst}
use mathlib.Core.Bool.{Bool, true, false}
use mathlib.Core.List.{List, [], ◌∷◌, map}
use Prim.Native.Nat.{ℕ, zero, suc, ◌+◌, ◌≤◌, ◌<◌}
use native.Mathlib.Nat.{not-suc-le-zero}
use native.Mathlib.Omega.{arith}
use lib.ListN.{length, length-map}
use lib.Dec.{T, eqb, eqb→eq, eqb_refl}
use Rattle.masks.specs.Masks.{bit, single}
use Rattle.masks.proofs.Laws.{bit_single_self, bit_single_other}
use Rattle.hrg.specs.Counts.{flag, hit, occurs}
use Rattle.hrg.specs.Grammars.{Graph, Rule, Grammar, edge_at, rank_of, rule_of, right_of}
use Rattle.hrg.specs.Trees.{unplaced, at, images, Tree, apply, Parts, end, edge, tree, edges_of, edges_in, inner_of, inner_in, applications_in, FitsEdge, Fits, FitsParts}
use Rattle.hrg.specs.Items.{either, node_for, attach, Covers}
use Rattle.hrg.specs.Truth.{PassiveTruth}
use Rattle.hrg.specs.WellFormed.{GrammarOk, GraphOk, RuleOk}
use Rattle.hrg.proofs.Sums.{hit_le, hit_self, hit_eq, hit_ne, hit_suc, sum_to, sum_le, sum_add, sum_zero, occurs_sum, occurs_append, occurs_at, length_tabulate, at_tabulate}
use Rattle.hrg.proofs.Degrees.{degree_same, degree_one, by_test, zero_or, test_T}
use Rattle.hrg.proofs.TreeNodes.{images_pos, images_find, tree_inside}
use Rattle.hrg.proofs.Sides.{tentacles, tentacles_one, open_in, Side}

pub eqb_ne : (j i : ℕ) → (j ≡ i → ⊥) → eqb j i ≡ false
eqb_ne j i h = go (eqb j i) (eqb→eq j i)
  where
    go : (b : Bool) → (T b → j ≡ i) → b ≡ false
    go true f = absurd (h (f tt))
    go false f = refl

pub eqb_self : (i : ℕ) → eqb i i ≡ true
eqb_self i = go (eqb i i) (eqb_refl i)
  where
    go : (b : Bool) → T b → b ≡ true
    go true t = refl
    go false t = absurd t

-- ---- the map of an edge's nodes
pub node_out : (x : ℕ) (as' L : List ℕ) → occurs x as' ≡ 0 → node_for x as' L ≡ unplaced
unfolding node_for occurs
node_out x [] L h = refl
node_out x (a ∷ as') [] h = refl
node_out x (a ∷ as') (b ∷ bs) h =
    ap (λ (t : Bool). either t (node_for x as' bs) b) (eqb_ne x a (λ e. omega (arith, ap (hit x) e, hit_self x))) ∙ node_out x as' bs (omega arith)

-- numbers that differ
off : (x a : ℕ) → eqb x a ≡ false → hit x a ≡ 0
unfolding hit
off x a q = ap flag q

-- the node that stands in a list of images is the image
pub node_image : (x : ℕ) (as' place : List ℕ) → 0 < occurs x as' → node_for x as' (images place as') ≡ at place x
unfolding node_for occurs
node_image x [] place h = absurd (not-suc-le-zero h)
node_image x (a ∷ as') place h =
    by_test (eqb x a)
    (λ q. ap (λ (t : Bool). either t (node_for x as' (images place as')) (at place a)) q ∙ ap (λ (y : ℕ). at place y) (sym (eqb→eq x a (test_T (eqb x a) q))))
    (λ q. ap (λ (t : Bool). either t (node_for x as' (images place as')) (at place a)) q ∙ node_image x as' place (omega (arith, off x a q)))

map_eq : (f g : ℕ → ℕ) (xs : List ℕ) → ((x : ℕ) → 0 < occurs x xs → f x ≡ g x) → map f xs ≡ map g xs
unfolding occurs
map_eq f g [] h = refl
map_eq f g (x ∷ xs) h = ap₂ (λ (a : ℕ) (s : List ℕ). a ∷ s) (h x (omega (arith, hit_self x))) (map_eq f g xs (λ y q. h y (omega arith)))

-- each node of the edge is mapped to the node at its place
node_all : (as' L : List ℕ) → length as' ≡ length L → ((x : ℕ) → occurs x as' ≤ 1) → map (λ (x : ℕ). node_for x as' L) as' ≡ L
unfolding node_for occurs
node_all [] [] h o = refl
node_all [] (b ∷ bs) h o = absurd (omega arith)
node_all (a ∷ as') [] h o = absurd (omega arith)
node_all (a ∷ as') (b ∷ bs) h o =
    ap₂ (λ (c : ℕ) (s : List ℕ). c ∷ s) (ap (λ (t : Bool). either t (node_for a as' bs) b) (eqb_self a))
    (map_eq (λ x. node_for x (a ∷ as') (b ∷ bs)) (λ x. node_for x as' bs) as'
    (λ x q. ap (λ (t : Bool). either t (node_for x as' bs) b) (eqb_ne x a (λ e. omega (arith, ap (hit x) e, hit_self x, o x))))
    ∙ node_all as' bs (omega arith) (λ x. omega (arith, o x)))

-- a graph node comes no more often than in the list
sum_hit : (n a : ℕ) → sum_to n (λ x. hit x a) ≤ 1
unfolding sum_to
sum_hit zero a = omega arith
sum_hit (suc n) zero = omega (arith, hit_self 0, sum_zero n (λ x. hit (suc x) 0) (λ x l. hit_ne (suc x) 0 (λ h. omega arith)))
sum_hit (suc n) (suc a) = omega (arith, hit_ne 0 (suc a) (λ h. omega arith), sum_le n (λ x. hit (suc x) (suc a)) (λ x. hit x a) (λ x l. omega (arith, hit_suc x a)), sum_hit n a)

node_occurs : (v n : ℕ) (as' L : List ℕ) → v < unplaced → sum_to n (λ x. hit v (node_for x as' L)) ≤ occurs v L
unfolding node_for occurs hit
node_occurs v n [] L h = omega (arith, sum_zero n (λ x. hit v unplaced) (λ x l. hit_ne v unplaced (λ e. omega arith)))
node_occurs v n (a ∷ as') [] h = omega (arith, sum_zero n (λ x. hit v unplaced) (λ x l. hit_ne v unplaced (λ e. omega arith)))
node_occurs v n (a ∷ as') (b ∷ bs) h =
    zero_or (hit v b)
    (λ q. omega (arith, node_occurs v n as' bs h, sum_le n (λ x. hit v (either (eqb x a) (node_for x as' bs) b)) (λ x. hit v (node_for x as' bs)) (λ x l. other (eqb x a) (node_for x as' bs) q)))
    (λ q. omega (
      arith,
      node_occurs v n as' bs h,
      sum_le n (λ x. hit v (either (eqb x a) (node_for x as' bs) b)) (λ x. hit x a + hit v (node_for x as' bs)) (λ x l. one (eqb x a) (node_for x as' bs)),
      sum_add n (λ x. hit x a) (λ x. hit v (node_for x as' bs)),
      sum_hit n a,
    ))
  where
    other : (t : Bool) (y : ℕ) → hit v b ≡ 0 → hit v (either t y b) ≤ hit v y
    other true y q = omega arith
    other false y q = omega arith

    one : (t : Bool) (y : ℕ) → hit v (either t y b) ≤ flag t + hit v y
    one true y = omega (arith, hit_le v b)
    one false y = omega arith

-- ---- as a side
module _ (G : Grammar) (H : Graph) (hok : GraphOk G H) (R : Rule) (rok : RuleOk G R) (i : ℕ) (known : i < length R.production.right.edges) (L : List ℕ)
    (long : length (edge_at R.production.right.edges i).attachment ≡ length L) (inside : (v : ℕ) → 0 < occurs v L → v < H.nodes)
    (part : Parts) (fits : (place : List ℕ) → images place (edge_at R.production.right.edges i).attachment ≡ L → FitsParts G H place part (edge_at R.production.right.edges i ∷ []))
    (m k : ℕ) (edges : (e : ℕ) → occurs e (edges_in part) ≡ bit m e) (once : (v : ℕ) → v < H.nodes → occurs v (inner_in G part) + occurs v L ≤ 1)
    (covers : Covers H m L) (count : applications_in G part ≡ k) where
  att : List ℕ
  att = (edge_at R.production.right.edges i).attachment

  place : List ℕ
  place = attach R.production.right.nodes (edge_at R.production.right.edges i).attachment L

  att_inside : (x : ℕ) → 0 < occurs x (edge_at R.production.right.edges i).attachment → x < R.production.right.nodes
  att_inside = (rok.right.edge i known).listed.inside

  at_place : (x : ℕ) → x < R.production.right.nodes → at place x ≡ node_for x (edge_at R.production.right.edges i).attachment L
  unfolding place attach
  at_place x l = at_tabulate R.production.right.nodes (λ x. node_for x (edge_at R.production.right.edges i).attachment L) x l

  sized : length place ≡ R.production.right.nodes
  unfolding place attach
  sized = length_tabulate R.production.right.nodes (λ x. node_for x (edge_at R.production.right.edges i).attachment L)

  all : images place (edge_at R.production.right.edges i).attachment ≡ L
  all =
      map_eq (λ x. at place x) (λ x. node_for x (edge_at R.production.right.edges i).attachment L) (edge_at R.production.right.edges i).attachment (λ x r. at_place x (att_inside x r))
      ∙ node_all (edge_at R.production.right.edges i).attachment L long (rok.right.edge i known).listed.once

  gone : (x : ℕ) → x < R.production.right.nodes → tentacles R.production.right (i ∷ []) x ≡ 0 → at place x ≡ unplaced
  gone x l z = at_place x l ∙ node_out x (edge_at R.production.right.edges i).attachment L (sym (tentacles_one R.production.right i x) ∙ z)

  few : (v : ℕ) → v < H.nodes → occurs v place ≤ occurs v L
  few v u =
      omega (
        arith,
        occurs_sum v R.production.right.nodes place sized,
        node_occurs v R.production.right.nodes (edge_at R.production.right.edges i).attachment L (omega (arith, hok.side.node_count.upper)),
        sum_le R.production.right.nodes (λ x. hit v (at place x)) (λ x. hit v (node_for x (edge_at R.production.right.edges i).attachment L)) (λ x l. omega (arith, ap (hit v) (at_place x l))),
      )

  pub single_side : Side G H R.production.right (i ∷ []) m (attach R.production.right.nodes (edge_at R.production.right.edges i).attachment L) k
  unfolding place
  single_side =
      record {
        place = place;
        parts = part;
        sized = sized;
        long = sized;
        placed = λ x l o. inside (at place x)
            (subst (λ (M : List ℕ). 0 < occurs (at place x) M) all (images_pos place (edge_at R.production.right.edges i).attachment x (omega (arith, tentacles_one R.production.right i x))));
        others = gone;
        fits = fits place all;
        edges = edges;
        once = λ v u. omega (arith, few v u, once v u);
        blank = gone;
        shown = λ x l a b. refl;
        covers = record {
          image = λ v u o.
              let t = images_find place (edge_at R.production.right.edges i).attachment v (subst (λ (M : List ℕ). 0 < occurs v M) (sym all) (covers.image v u o)) in
              subst (λ (w : ℕ). 0 < occurs w place) t.2 (occurs_at place t.0 (omega (arith, sized, att_inside t.0 t.1)));
        };
        count = count;
      }

-- the bits of the set of one edge
pub bit_hit : (g e : ℕ) → bit (single g) e ≡ hit e g
bit_hit g e =
    zero_or (hit e g)
    (λ z. bit_single_other g e (λ q. omega (arith, ap (λ (x : ℕ). hit x g) q, hit_self g)) ∙ sym z)
    (λ z. ap (λ (x : ℕ). bit (single g) x) (hit_eq e g z) ∙ bit_single_self g ∙ sym (ap (λ (x : ℕ). hit x g) (hit_eq e g z) ∙ hit_self g))

module _ (G : Grammar) (H : Graph) (ok : GrammarOk G) (hok : GraphOk G H) (r : ℕ) (rule : r < length G.rules) (i : ℕ) (known : i < length (right_of G r).edges) where
  att_rank : length (edge_at (right_of G r).edges i).attachment ≡ rank_of G (edge_at (right_of G r).edges i).label
  att_rank = ((ok.rule r rule).right.edge i known).listed.ranked

  -- a graph edge
  pub edge_side : (g : ℕ) → FitsEdge G H (edge_at (right_of G r).edges i).label (edge_at H.edges g).attachment g
      → Side G H (right_of G r) (i ∷ []) (single g) (attach (right_of G r).nodes (edge_at (right_of G r).edges i).attachment (edge_at H.edges g).attachment) 0
  unfolding edges_in inner_in applications_in occurs
  edge_side g x =
      let lok = (hok.side.edge g x.known).listed in
      single_side G H hok (rule_of G r) (ok.rule r rule) i known (edge_at H.edges g).attachment
      (att_rank ∙ ap (λ (s : ℕ). rank_of G s) (sym x.label) ∙ sym lok.ranked)
      lok.inside (edge g end)
      (λ place q. (record { kind = x.kind; known = x.known; label = x.label; attachment = sym q }, tt))
      (single g) 0 (λ e. omega (arith, bit_hit g e)) (λ v u. omega (arith, lok.once v))
      (record { image = λ v u o. omega (arith, (open_in H (single g) v o).0, degree_same (bit (single g)) (λ e. hit e g) H.edges v (λ e l. bit_hit g e), degree_one H.edges g v) })
      refl

  pub edge_side_parts : (g : ℕ) (x : FitsEdge G H (edge_at (right_of G r).edges i).label (edge_at H.edges g).attachment g) → (edge_side g x).parts ≡ edge g end
  unfolding edge_side single_side
  edge_side_parts g x = refl

  -- a tree
  tree_long : (t : Tree) (s : ℕ) (L : List ℕ) → Fits G H s L t → length L ≡ rank_of G s
  tree_long (apply q place ps) s L x =
      ap length (sym x.0.externals) ∙ length-map (right_of G q).externals (λ (y : ℕ). at place y) ∙ (ok.rule q x.0.known).right.externals.ranked ∙ ap (λ (s : ℕ). rank_of G s) x.0.lhs

  pub tree_side : (m n : ℕ) (L : List ℕ) → PassiveTruth G H (edge_at (right_of G r).edges i).label m L n
      → Side G H (right_of G r) (i ∷ []) m (attach (right_of G r).nodes (edge_at (right_of G r).edges i).attachment L) n
  unfolding edges_in inner_in applications_in occurs
  tree_side m n L x =
      single_side G H hok (rule_of G r) (ok.rule r rule) i known L
      (att_rank ∙ sym (tree_long x.tree _ L x.fits))
      (λ v h. tree_inside G H ok x.tree _ v L x.fits (omega arith))
      (tree x.tree end)
      (λ place q. (subst (λ (M : List ℕ). Fits G H (edge_at (right_of G r).edges i).label M x.tree) (sym q) x.fits, tt))
      m n
      (λ e. occurs_append e (edges_of x.tree) [] ∙ omega (arith, x.edges e))
      (λ v u. omega (arith, occurs_append v (inner_of G x.tree) [], x.once v))
      x.covers (omega (arith, x.count))

  pub tree_side_parts : (m n : ℕ) (L : List ℕ) (x : PassiveTruth G H (edge_at (right_of G r).edges i).label m L n) → (tree_side m n L x).parts ≡ tree x.tree end
  unfolding tree_side single_side
  tree_side_parts m n L x = refl
